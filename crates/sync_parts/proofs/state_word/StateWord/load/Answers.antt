use Rattle.std.proofs.Common.{arith, refl, sym, ap, ◌∙◌, subst}
use mathlib.Core.Option.{none}
use Rattle.running_rows.specs.Table.{step}
use Rattle.sync_parts.specs.GroupPlays.{at_load, load_row, Steps}
use Rattle.sync_parts.proofs.GroupStepping.{load_owes, ran_steps}
use Rattle.sync_parts.specs.GroupSeats.{WordModel}
use Rattle.sync_parts.proofs.state_word.StateWord.load.Goals as goal

pub load-requires : goal.load-requires
load-requires c = (
  omega arith,
  (
    (c.requires.own.0 ∙ ap (λ (w : WordModel). w.id) (sym c.self.view_is), c.requires.some),
    (c.self.invariant.0, load_owes _ 0 c.args.token.now.me c.requires.own.1),
  ),
)

pub returns : goal.returns
returns c = let told = c.load.ensures in
    subst (λ w. Steps c.args.token.now (load_row c.args.token.now.me.0.own.knows.next) w c.load.new.token) (sym c.word_of.ensures)
    (ran_steps c.args.token.now c.load.new.token (at_load (step 0 0 0 0 none))
    (load_row c.args.token.now.me.0.own.knows.next) c.load.result refl told.own told.went)
