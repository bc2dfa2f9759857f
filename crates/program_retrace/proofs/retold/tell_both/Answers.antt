use Rattle.std.proofs.Common.{◌≡◌, ◌≢◌, ◌++◌, ℕ, List, [], Option, subst}
use Rattle.std.specs.Prelude.{IfSome}
use Rattle.program_retrace.specs.Ends.{RunsTo}
use Rattle.program_retrace.proofs.Leading.{led_nowhere, refused_longer}
use Rattle.step_table.specs.declared.refusal.StepRefused.{StepRefused}
use Rattle.step_table.specs.declared.refusal.StepRefused.TheVariants.{NoMemory}
use Rattle.program_retrace.proofs.retold.tell_both.Goals as goal

pub returns-in-Some : goal.returns-in-Some
returns-in-Some g c =
    let p = c.args.program.now in
    let ran = c.in_ok-cause.ensures.runs p [] (led_nowhere p c.in_ok-machine.machine c.in_ok-machine.ensures) in (
      subst (λ (refused : Option StepRefused). IfSome refused (λ cause. cause ≢ NoMemory)) c.in-Some.is c.in_ok-cause.ensures.cause,
      refused_longer p c.args.schedule.now c.args.round.now c.in-Some.cause
          (subst (RunsTo p c.args.schedule.now c.tell_run.new.machine) c.in-Some.is ran),
    )

pub returns-in-None : goal.returns-in-None
returns-in-None g c =
    let p = c.args.program.now in
    let ran = c.in_ok-cause.ensures.runs p [] (led_nowhere p c.in_ok-machine.machine c.in_ok-machine.ensures) in
    c.tell_rest.ensures p (subst (RunsTo p c.args.schedule.now c.tell_run.new.machine) c.in-None.is ran)
