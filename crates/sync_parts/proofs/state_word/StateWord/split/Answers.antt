use Rattle.std.proofs.Common.{arith, sym, ap, ◌∙◌}
use Rattle.sync_parts.specs.GroupSeats.{WordModel}
use Rattle.sync_parts.proofs.state_word.StateWord.split.Goals as goal

pub make_seat-requires : goal.make_seat-requires
make_seat-requires c = (
  omega arith,
  ((c.requires.own ∙ ap (λ (w : WordModel). w.id) (sym c.self.view_is), c.self.invariant.0), (c.requires.makes.0, c.requires.makes.1)),
)
