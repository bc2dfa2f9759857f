-- One more step of a schedule, and the whole of it.
use Rattle.std.proofs.Common.{◌≡◌, ℕ, zero, suc, ◌≤◌, List, [], ◌∷◌, ◌++◌, None, length, take, refl, sym, ap, ◌∙◌, subst, arith}
use Rattle.step_table.specs.declared.parts.Parts.{Parts}
use Rattle.step_table.specs.Run.{Run, start, stepped, refusal, after_all, reached, AllRunFrom, AllRun}
use Rattle.step_core.specs.State.{State, run_of}
use Rattle.step_core.specs.Stepping.{IsStepped}
use Rattle.step_law_whole.specs.RunInvariant.{IsScenario}
use Rattle.step_law_whole.specs.Misused.{AllFairFrom, IsUnmisused}
use Rattle.step_law_whole.specs.RunGrants.{EachStepGrantsLeast}
use Rattle.step_law_whole.specs.RunWeight.{most_steps}
use Rattle.step_law_whole.proofs.RunEnding.{the_run_ends}
use Rattle.step_law_whole.proofs.RunSound.{is_started, is_stepped}
use Rattle.step_law_whole.proofs.RunReading.{after_one_more, each_step_grants}
use Rattle.step_law_whole.proofs.GroupRuns as groups

all_run_with : (parts : Parts) (run : Run) (schedule : List ℕ) (i : ℕ)
    → AllRunFrom parts run schedule → refusal parts (after_all parts run schedule) i ≡ None → AllRunFrom parts run (schedule ++ i ∷ [])
all_run_with parts run [] i all last = (last, tt)
all_run_with parts run (k ∷ schedule) i all last = (all.0, all_run_with parts (stepped parts run k) schedule i all.1 last)

-- the world to which a schedule of a scenario led
pub record HasRunAll (scenario : Parts) (schedule : List ℕ) (m : State) : Type 0 where
  pub enabled : AllRun scenario schedule
  pub parts : m.parts ≡ scenario
  pub run : run_of m ≡ reached scenario schedule

pub one_more : (scenario : Parts) (past : List ℕ) (i : ℕ) (m n : State)
    → HasRunAll scenario past m → refusal m.parts (run_of m) i ≡ None → IsStepped m i n → HasRunAll scenario (past ++ i ∷ []) n
one_more scenario past i m n before can step =
    record {
      enabled =
          let can_here = subst (λ (parts : Parts). refusal parts (run_of m) i ≡ None) before.parts can in
          all_run_with scenario (start scenario) past i before.enabled (subst (λ (run : Run). refusal scenario run i ≡ None) before.run can_here);
      parts = step.parts ∙ before.parts;
      run =
          step.run
          ∙ ap (λ (parts : Parts). stepped parts (run_of m) i) before.parts
          ∙ ap (λ (run : Run). stepped scenario run i) before.run
          ∙ sym (after_one_more scenario (start scenario) past i);
    }

taken_all : (n : ℕ) (l : List ℕ) → length l ≤ n → take n l ≡ l
taken_all zero [] h = refl
taken_all (suc n) [] h = refl
taken_all zero (x ∷ l) h = absurd (omega arith)
taken_all (suc n) (x ∷ l) h = ap (λ l. x ∷ l) (taken_all n l (omega arith))

pub whole_unmisused : (parts : Parts) (schedule : List ℕ) (n : ℕ) → IsScenario parts → length schedule ≤ n → AllRun parts (take n schedule)
    → AllFairFrom parts (start parts) schedule → IsUnmisused parts schedule
whole_unmisused parts schedule n scenario all runs fair =
    groups.unmisused
    (λ parts scenario. is_started parts scenario)
    (λ parts run i scenario sound free. is_stepped parts run i scenario sound free)
    parts schedule scenario (subst (AllRun parts) (taken_all n schedule all) runs) fair

pub whole_least : (parts : Parts) (schedule : List ℕ) (n : ℕ) → IsScenario parts → length schedule ≤ n → AllRun parts (take n schedule)
    → EachStepGrantsLeast parts schedule
whole_least parts schedule n scenario all runs =
    each_step_grants parts scenario schedule (subst (AllRun parts) (taken_all n schedule all) runs)

pub whole_few : (parts : Parts) (schedule : List ℕ) (n : ℕ) → IsScenario parts → length schedule ≤ n → AllRun parts (take n schedule)
    → length schedule ≤ most_steps parts
whole_few parts schedule n scenario all runs =
    let few = the_run_ends.few parts schedule scenario (subst (AllRun parts) (taken_all n schedule all) runs) in omega arith
