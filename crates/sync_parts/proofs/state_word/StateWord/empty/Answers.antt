use Rattle.std.proofs.Common.{arith, sym, ap, ◌∙◌}
use Rattle.step_table.specs.declared.standing.GroupRow.TheVariants.{G3}
use Rattle.step_table.specs.GroupBits.{word_in}
use Rattle.running_rows.specs.Strides.{here}
use Rattle.sync_parts.proofs.GroupStepping.{store_owes, ran_steps}
use Rattle.sync_parts.specs.GroupSeats.{WordModel}
use Rattle.sync_parts.proofs.state_word.StateWord.empty.Goals as goal

pub store-requires : goal.store-requires
store-requires c = (
  omega arith,
  (
    (c.requires.own.0 ∙ ap (λ (w : WordModel). w.id) (sym c.self.view_is), c.requires.some),
    (c.self.invariant.0, ((λ x is. absurd is), store_owes _ 0 c.args.token.now.me c.args.seen c.requires.own.1)),
  ),
)

pub returns : goal.returns
returns c = let told = c.store.ensures in (
  word_in told.went.0,
  ran_steps c.args.token.now c.store.new.token here (G3 c.args.seen) told.went.0 c.requires.own.1 told.own told.went.1,
)
