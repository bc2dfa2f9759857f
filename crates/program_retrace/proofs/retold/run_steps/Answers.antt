use Rattle.std.proofs.Common.{◌≡◌, ℕ, ◌+◌, List, [], ◌∷◌, ◌++◌, Option, take, drop, sym, ap, ◌∙◌, subst}
use Rattle.std.proofs.lemmas.List.{append_assoc, append-nil, take_more}
use Rattle.program_code.specs.declared.program.Program.{Program}
use Rattle.program_retrace.specs.Ends.{LeadsTo}
use Rattle.program_retrace.proofs.Leading.{led_on, refused_there, split_there}
use Rattle.program_retrace.specs.Tried.{HasTried}
use Rattle.step_table.specs.declared.refusal.StepRefused.{StepRefused}
use Rattle.program_retrace.proofs.retold.run_steps.Goals as goal

pub loop-seat-init : goal.loop-seat-init
loop-seat-init c = λ p past leads. subst (λ (steps : List ℕ). LeadsTo p steps c.args.machine.now) (sym (append-nil past)) leads

pub returns-in-Some : goal.returns-in-Some
returns-in-Some c = λ p past leads.
    (let seat = c.seat-item.result in
    let schedule = c.args.schedule.now in
    let front : List ℕ = take c.loop-seat.seat-index schedule in
    let rest = drop (c.loop-seat.seat-index + 1) schedule in
    let more : take (c.loop-seat.seat-index + 1) schedule ≡ front ++ seat ∷ []
    = take_more schedule c.loop-seat.seat-index seat c.loop-seat-test.true ∙ ap (λ (i : ℕ). front ++ i ∷ []) (sym c.seat-item.is) in
    let tried = subst (λ (answer : Option StepRefused). HasTried c.loop-seat.machine seat c.tell_step.new.machine answer)
    c.in-Some.is c.in_ok-tell_step.ensures in
    refused_there p (past ++ front) c.loop-seat.machine (c.loop-seat.invariant p past leads) seat (past ++ schedule) rest
    (ap (λ (steps : List ℕ). past ++ steps) (split_there schedule c.loop-seat.seat-index seat more) ∙ sym (append_assoc past front (seat ∷ rest)))
    c.tell_step.new.machine c.in-Some.cause tried)

pub loop-seat-preserved : goal.loop-seat-preserved
loop-seat-preserved c = λ p past leads.
    (let seat = c.seat-item.result in
    let schedule = c.args.schedule.now in
    let front : List ℕ = take c.loop-seat.seat-index schedule in
    let more : take (c.loop-seat.seat-index + 1) schedule ≡ front ++ seat ∷ []
    = take_more schedule c.loop-seat.seat-index seat c.loop-seat-test.true ∙ ap (λ (i : ℕ). front ++ i ∷ []) (sym c.seat-item.is) in
    let tried = subst (λ (answer : Option StepRefused). HasTried c.loop-seat.machine seat c.tell_step.new.machine answer)
    c.in-None.is c.in_ok-tell_step.ensures in
    subst (λ (steps : List ℕ). LeadsTo p steps c.tell_step.new.machine)
    (append_assoc past front (seat ∷ []) ∙ ap (λ (steps : List ℕ). past ++ steps) (sym more))
    (led_on p (past ++ front) c.loop-seat.machine (c.loop-seat.invariant p past leads) seat c.tell_step.new.machine tried))
