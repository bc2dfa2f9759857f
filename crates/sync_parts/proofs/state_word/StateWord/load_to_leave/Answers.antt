use Rattle.std.proofs.Common.{arith, refl, sym, ap, ◌∙◌, subst}
use mathlib.Core.Option.{none}
use Rattle.step_table.specs.declared.standing.GroupRow.TheVariants.{V4}
use Rattle.running_rows.specs.Table.{step}
use Rattle.sync_parts.specs.GroupPlays.{at_leave, given_up, Steps}
use Rattle.sync_parts.proofs.GroupStepping.{leave_owes, ran_steps}
use Rattle.sync_parts.specs.GroupSeats.{WordModel}
use Rattle.sync_parts.proofs.state_word.StateWord.load_to_leave.Goals as goal

pub load-requires : goal.load-requires
load-requires c = (
  omega arith,
  (
    (c.requires.own.0 ∙ ap (λ (w : WordModel). w.id) (sym c.self.view_is), c.requires.some),
    (c.self.invariant.0, leave_owes _ 0 c.args.token.now.me c.requires.own.1),
  ),
)

pub returns : goal.returns
returns c = let told = c.load.ensures in
    subst (λ w. Steps c.args.token.now (V4 given_up) w c.load.new.token) (sym c.word_of.ensures)
    (ran_steps c.args.token.now c.load.new.token (at_leave (step 0 0 0 0 none)) (V4 given_up) c.load.result refl told.own told.went)
