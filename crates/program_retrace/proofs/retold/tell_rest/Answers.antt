use Rattle.std.proofs.Common.{◌≡◌, ◌≢◌, ◌++◌, ℕ, List, Option, subst}
use Rattle.std.specs.Prelude.{IfSome}
use Rattle.program_retrace.specs.Ends.{RunsTo}
use Rattle.step_table.specs.declared.refusal.StepRefused.{StepRefused}
use Rattle.step_table.specs.declared.refusal.StepRefused.TheVariants.{NoMemory}
use Rattle.program_retrace.proofs.retold.tell_rest.Goals as goal

pub returns-in-Some : goal.returns-in-Some
returns-in-Some g c = λ p leads. (
  subst (λ (refused : Option StepRefused). IfSome refused (λ cause. cause ≢ NoMemory)) c.in-Some.is c.in_ok-cause.ensures.cause,
  subst (RunsTo p (c.args.schedule.now ++ c.args.round.now) c.tell_round.new.machine) c.in-Some.is (c.in_ok-cause.ensures.runs p leads),
)

pub returns-in_ok-tell_world-in-None : goal.returns-in_ok-tell_world-in-None
returns-in_ok-tell_world-in-None g c = λ p leads. (
  c.tell_round.new.machine,
  subst (RunsTo p (c.args.schedule.now ++ c.args.round.now) c.tell_round.new.machine) c.in-None.is (c.in_ok-cause.ensures.runs p leads),
  c.bad.ensures,
)
