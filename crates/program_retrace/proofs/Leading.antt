-- A schedule leads on by a step that was made, and ends before one that is refused.
use Rattle.std.proofs.Common.{◌≡◌, ℕ, ◌+◌, ◌<◌, List, [], ◌∷◌, ◌++◌, Some, None, length, take, drop, sym, ap, ◌∙◌, subst}
use Rattle.std.proofs.lemmas.List.{append_assoc, take-append-drop}
use Rattle.program_code.specs.declared.program.Program.{Program}
use Rattle.program_machine.specs.Moment.{ProgramMoment, IsStarted}
use Rattle.program_machine.specs.Shared.{world_of}
use Rattle.program_retrace.specs.Ends.{LeadsTo, IsRefusedIn}
use Rattle.program_steps.specs.Steps.{start, step, StepsTo}
use Rattle.program_retrace.specs.Tried.{HasTried}
use Rattle.step_table.specs.declared.refusal.StepRefused.{StepRefused}

-- where one more is taken, the rest stands behind it
pub split_there : (xs : List ℕ) (k i : ℕ) → take (k + 1) xs ≡ take k xs ++ i ∷ [] → xs ≡ take k xs ++ i ∷ drop (k + 1) xs
split_there xs k i more = sym (take-append-drop (k + 1) xs) ∙ ap (λ front. front ++ drop (k + 1) xs) more
    ∙ append_assoc (take k xs) (i ∷ []) (drop (k + 1) xs)

pub led_nowhere : (p : Program) (m : ProgramMoment) → IsStarted p m → LeadsTo p [] m
led_nowhere p m started = record { program = started.program; journal = []; reached = start started.start }

module _ (p : Program) (past : List ℕ) (m : ProgramMoment) (leads : LeadsTo p past m) (i : ℕ) where
  pub led_on : (n : ProgramMoment) → HasTried m i n None → LeadsTo p (past ++ i ∷ []) n
  led_on n tried =
      let moved = tried.1.step leads.journal in
      record {
        program = tried.1.program ∙ leads.program;
        journal = moved.0;
        reached = step i (subst (λ (q : Program). i < length q.seats) leads.program tried.0) leads.reached
            (subst (λ (q : Program). StepsTo q (world_of m.shared leads.journal) i (world_of n.shared moved.0)) leads.program moved.1);
      }

  pub refused_there : (schedule rest : List ℕ) → schedule ≡ past ++ i ∷ rest → (n : ProgramMoment) (cause : StepRefused)
      → HasTried m i n (Some cause) → IsRefusedIn p schedule cause
  refused_there schedule rest parts n cause tried = record {
    before = past;
    seat = i;
    rest = rest;
    parts = parts;
    moment = m;
    leads = leads;
    why = tried;
  }

-- where a longer schedule is meant, too
pub refused_longer : (p : Program) (schedule more : List ℕ) (cause : StepRefused) → IsRefusedIn p schedule cause
    → IsRefusedIn p (schedule ++ more) cause
refused_longer p schedule more cause is = record {
  before = is.before;
  seat = is.seat;
  rest = is.rest ++ more;
  parts = ap (λ (steps : List ℕ). steps ++ more) is.parts ∙ append_assoc is.before (is.seat ∷ is.rest) more;
  moment = is.moment;
  leads = is.leads;
  why = is.why;
}
