-- The law of the ends of a scenario's runs.
use Rattle.std.proofs.Common.{◌≡◌, ◌⊎◌, ℕ, zero, suc, ◌+◌, ◌<◌, ◌≤◌, cond, Bool, true, false, IsTrue, List, [], ◌∷◌, length}
use Rattle.std.proofs.Common.{drop, slice_get, Option, Some}
use Rattle.std.proofs.Common.{None, refl, ap, ◌∙◌, inl, inr, lt-ltb, arith, min, ◌-◌}
use Rattle.step_table.specs.declared.call.Call.{Call}
use Rattle.step_table.specs.declared.parts.Parts.{Parts}
use Rattle.step_table.specs.declared.refusal.StepRefused.{StepRefused}
use Rattle.step_table.specs.declared.refusal.StepRefused.TheVariants.{NoSuchSeat}
use Rattle.step_table.specs.declared.standing.Standing.{Standing}
use Rattle.step_table.specs.declared.standing.Standing.TheVariants.{Rest, AtCounter, AtList, AtGroup, Failed, Left}
use Rattle.step_table.specs.World.{put}
use Rattle.step_table.specs.Counting.{total}
use Rattle.step_table.specs.Core.{Core, first_core}
use Rattle.step_table.specs.CoreSteps.{can_run, core_turned, IsCoreEnd}
use Rattle.step_table.specs.Run.{Run, layout, call_of, begun, continued, all_begun, start, stepped, unless, refusal_of, refusal, after_all, reached, AllRunFrom}
use Rattle.step_table.specs.Run.{AllRun, left_out}
use Rattle.step_table.proofs.Sums.{put_here, put_else, total_change}
use Rattle.step_law_whole.specs.CoreLaw.{IsCoreAtRest}
use Rattle.step_law_whole.specs.RunInvariant.{calls_of, IsSoundRunOf, IsSoundRun, IsScenario}
use Rattle.step_law_whole.proofs.CoreCalling.{core_at_first, calls_keep, left_keeps}
use Rattle.step_law_whole.proofs.RunBeginning.{KeepsRuns}
use Rattle.step_law_whole.proofs.RunStarting.{starts_so}
use Rattle.step_law_whole.proofs.RunStepping.{can_run_at, is_there, steps_so}
use Rattle.step_law_whole.proofs.RunEarly.{in_reach, run_ends}
use Rattle.step_law_whole.specs.CoreWeight.{call_cost}
use Rattle.step_law_whole.specs.RunWeight.{calls_cost, most_steps, run_weight}
use Rattle.step_law_whole.specs.RunEnds.{TheRunEnds}
use Rattle.step_law_whole.proofs.SeatSums.{scripts_sum}
use Rattle.step_law_whole.proofs.RunBounding.{bounded}
use Rattle.step_law_whole.proofs.Courses.{SomeCan, NoneCan, look}
use Rattle.step_law_whole.proofs.CoreWeights.{calls_raise, stands_weight}
use Rattle.step_law_whole.proofs.CoreFalling.{core_lowered}
use Rattle.step_law_whole.proofs.WaitsCounting.{calls_counted, first_counted, left_counted}
use Rattle.step_law_whole.proofs.CoreAtEnd.{IsEnding, row_ends, starts as core_starts}
use Rattle.std.proofs.Math.Nat.{le-min}

-- the calls from this one on
next_cost : (n : ℕ) (script : List Call) (at : ℕ) (call : Call) → slice_get script at ≡ Some call
    → calls_cost n (drop at script) ≡ call_cost n call + calls_cost n (drop (suc at) script)
next_cost n [] at call e = absurd cc
next_cost n (c ∷ script) zero call e = let f : Some c ≡ Some call = e in let same : c ≡ call = cc in ap (λ c. call_cost n c + calls_cost n script) same
next_cost n (c ∷ script) (suc at) call e = next_cost n script at call e

module _ (parts : Parts) where
  abbrev seats : ℕ
  seats = length parts.calls

  -- what the calls cost that aren't begun
  abbrev rest : (ℕ → ℕ) → ℕ
  rest count = total seats (λ k. calls_cost seats (drop (count k) (calls_of parts k)))

  -- to begin the next call doesn't raise the weight
  begun_weight : (run : Run) (i : ℕ) → i < seats → (call : Option Call) → slice_get (calls_of parts i) (run.begun i) ≡ call
      → run_weight parts (begun run i call) ≤ run_weight parts run
  begun_weight run i in_range None is = omega arith
  begun_weight run i in_range (Some call) is =
      let count : ℕ → ℕ = put run.begun i (run.begun i + 1) in
      let more = calls_raise (layout parts) i in_range run.core call in
      let all : rest count + calls_cost seats (drop (run.begun i) (calls_of parts i))
      ≡ rest run.begun + calls_cost seats (drop (count i) (calls_of parts i))
      = total_change seats (λ k. calls_cost seats (drop (run.begun k) (calls_of parts k)))
      (λ k. calls_cost seats (drop (count k) (calls_of parts k))) i in_range
      (λ k ne. ap (λ n. calls_cost seats (drop n (calls_of parts k))) (put_else run.begun i (run.begun i + 1) k ne)) in
      let now : count i ≡ suc (run.begun i) = (let here = put_here run.begun i (run.begun i + 1) in omega arith) in
      let here = ap (λ n. calls_cost seats (drop n (calls_of parts i))) now in
      let next = next_cost seats (calls_of parts i) (run.begun i) call is in omega arith

  -- to leave some out doesn't either
  fewer_cost : (n : ℕ) (script : List Call) (at : ℕ) → calls_cost n (drop (suc at) script) ≤ calls_cost n (drop at script)
  fewer_cost n [] zero = omega arith
  fewer_cost n [] (suc at) = omega arith
  fewer_cost n (c ∷ script) zero = omega arith
  fewer_cost n (c ∷ script) (suc at) = fewer_cost n script at

  later_cost : (n : ℕ) (script : List Call) (at more : ℕ) → calls_cost n (drop (at + more) script) ≤ calls_cost n (drop at script)
  later_cost n script at zero = let same = ap (λ z. calls_cost n (drop z script)) (let none : at + 0 ≡ at = omega arith in none) in omega arith
  later_cost n script at (suc more) =
      let rest : calls_cost n (drop (at + more) script) ≤ calls_cost n (drop at script) = later_cost n script at more in
      let one = fewer_cost n script (at + more) in
      let same = ap (λ z. calls_cost n (drop z script)) (let next : at + suc more ≡ suc (at + more) = omega arith in next) in omega arith

  left_weight : (run : Run) (i skips : ℕ) → i < seats → run.begun i ≤ length (calls_of parts i)
      → run_weight parts (left_out parts run i skips) ≤ run_weight parts run
  left_weight run i skips in_range few =
      let stop : ℕ = min (run.begun i + skips) (length (calls_of parts i)) in
      let least : run.begun i ≤ stop = le-min (omega arith) few in
      let count : ℕ → ℕ = put run.begun i stop in
      let core = stands_weight (layout parts) i in_range run.core Rest in
      let all : rest count + calls_cost seats (drop (run.begun i) (calls_of parts i))
      ≡ rest run.begun + calls_cost seats (drop (count i) (calls_of parts i))
      = total_change seats (λ k. calls_cost seats (drop (run.begun k) (calls_of parts k)))
      (λ k. calls_cost seats (drop (count k) (calls_of parts k))) i in_range
      (λ k ne. ap (λ n. calls_cost seats (drop n (calls_of parts k))) (put_else run.begun i stop k ne)) in
      let now : count i ≡ run.begun i + (stop - run.begun i) = (let here = put_here run.begun i stop in omega arith) in
      let here = ap (λ n. calls_cost seats (drop n (calls_of parts i))) now in
      let later = later_cost seats (calls_of parts i) (run.begun i) (stop - run.begun i) in omega arith

  -- nor does the start
  abbrev idle : Run
  idle = record { core = first_core (layout parts); begun = λ s. 0 }

  not_yet : (n k : ℕ) → n ≤ k → (all_begun parts idle n).begun k ≡ 0
  not_yet zero k h = refl
  not_yet (suc n) k h = by (call_of parts n 0) (not_yet n k (omega arith))
    where
      by : (call : Option Call) → (all_begun parts idle n).begun k ≡ 0 → (begun (all_begun parts idle n) n call).begun k ≡ 0
      by None before = before
      by (Some call) before = put_else (all_begun parts idle n).begun n _ k (λ e. omega arith) ∙ before

  start_weight : (n : ℕ) → n ≤ seats → run_weight parts (all_begun parts idle n) ≤ run_weight parts idle
  start_weight zero h = omega arith
  start_weight (suc n) h =
      let so_far = start_weight n (omega arith) in
      let one = begun_weight (all_begun parts idle n) n (omega arith) (call_of parts n 0)
      (ap (slice_get (calls_of parts n)) (not_yet n n (omega arith))) in omega arith

  idle_weight : run_weight parts idle ≡ most_steps parts
  idle_weight = let none = core_starts (layout parts) in let sum = scripts_sum seats parts.calls in omega arith

  module _ (scenario : IsScenario parts) where
    abbrev Ending : Core → Type 0
    Ending = IsEnding (layout parts)

    keeps : KeepsRuns parts Ending
    keeps = record {
      starts = (core_at_first (layout parts), first_counted (layout parts));
      stand = λ s ending. ending.0.standing;
      known = λ s i there ending. record { seat = ending.0.semaphores.seats i; finds = ending.0.semaphores.finds i there };
      called = λ s i call there ending rests may.
          (calls_keep (layout parts) s i call there ending.0 rests may, calls_counted (layout parts) i there s call rests ending.1);
      rests = λ s i skips there ending at. (left_keeps (layout parts) s i skips ending.0 at, left_counted (layout parts) i there s skips at ending.1);
      kept = λ s i there ending can. row_ends (layout parts) s i there ending can;
    }

    -- what is known of a run for itself
    plainly : {run : Run} → IsSoundRunOf Ending parts run → IsSoundRun parts run
    plainly sound = record {
      core = sound.core.0;
      begun = sound.begun;
      ended = sound.ended;
      tickets = sound.tickets;
      skipped = sound.skipped;
      words = sound.words;
      carried = sound.carried;
      units = sound.units;
      handed = sound.handed;
    }

    -- a step lowers the weight
    less : (run : Run) (i : ℕ) → IsSoundRunOf Ending parts run → refusal parts run i ≡ None
        → run_weight parts (stepped parts run i) < run_weight parts run
    less run i sound free = by (next.core.standing i)
      where
        there : (i < seats) × (refusal_of (layout parts) run.core i (run.core.standing i) ≡ None)
        there = is_there i seats (refusal_of (layout parts) run.core i (run.core.standing i)) free

        next : Run
        next = record run { core = core_turned (layout parts) run.core i }

        row : run_weight parts next < run_weight parts run
        row =
            let falls = core_lowered (layout parts) run.core i there.0 (in_reach parts scenario run (plainly sound)) sound.core.0 sound.core.1
            (can_run_at (layout parts) run.core i (run.core.standing i) there.1) in omega arith

        by : (standing : Standing) → run_weight parts (continued parts next i standing) < run_weight parts run
        by Rest = let begins = begun_weight next i there.0 (call_of parts i (next.begun i)) refl in let falls = row in omega arith
        by (AtCounter after) = row
        by (AtList l ending) = row
        by (AtGroup g x) = row
        by (Left skips) =
            let left = left_weight next i skips there.0 (sound.begun i) in
            let begins = begun_weight (left_out parts next i skips) i there.0 (call_of parts i ((left_out parts next i skips).begun i)) refl in
            let falls = row in omega arith
        by (Failed misuse) = row

    -- along a schedule
    sound_after : (run : Run) (schedule : List ℕ) → IsSoundRunOf Ending parts run → AllRunFrom parts run schedule
        → IsSoundRunOf Ending parts (after_all parts run schedule)
    sound_after run [] sound runs = sound
    sound_after run (i ∷ schedule) sound runs =
        sound_after (stepped parts run i) schedule (steps_so parts keeps run i scenario sound runs.0) runs.1

    few_steps : (run : Run) (schedule : List ℕ) → IsSoundRunOf Ending parts run → AllRunFrom parts run schedule
        → length schedule + run_weight parts (after_all parts run schedule) ≤ run_weight parts run
    few_steps run [] sound runs = omega arith
    few_steps run (i ∷ schedule) sound runs =
        let one = less run i sound runs.0 in
        let rest = few_steps (stepped parts run i) schedule (steps_so parts keeps run i scenario sound runs.0) runs.1 in omega arith

    -- a seat that is there and can run its row isn't refused
    may : (b : Bool) (cause : StepRefused) → IsTrue b → unless b cause ≡ None
    may true cause e = refl
    may false cause e = absurd cc

    runs_on : (standing : Standing) (s : Core) (i : ℕ) → IsTrue (can_run (layout parts) s i standing) → refusal_of (layout parts) s i standing ≡ None
    runs_on Rest s i can = absurd cc
    runs_on (AtCounter after) s i can = may (can_run (layout parts) s i (AtCounter after)) _ can
    runs_on (AtList l ending) s i can = may (can_run (layout parts) s i (AtList l ending)) _ can
    runs_on (AtGroup g row) s i can = refl
    runs_on (Left skips) s i can = absurd cc
    runs_on (Failed misuse) s i can = absurd cc

    free : (run : Run) (i : ℕ) → i < seats → IsTrue (can_run (layout parts) run.core i (run.core.standing i)) → refusal parts run i ≡ None
    free run i there can =
        ap (λ b. cond b (refusal_of (layout parts) run.core i (run.core.standing i)) (Some NoSuchSeat)) (lt-ltb i seats there)
        ∙ runs_on (run.core.standing i) run.core i can

    -- the runs to which steps lead, until no seat can step
    abbrev Goes : Run → Type 0
    Goes run = (more : List ℕ) × AllRunFrom parts run more × IsCoreEnd (layout parts) (after_all parts run more).core

    abbrev can_step : Run → ℕ → Bool
    can_step run i = can_run (layout parts) run.core i (run.core.standing i)

    end_within : (bound : ℕ) (run : Run) → IsSoundRunOf Ending parts run → run_weight parts run < bound → Goes run
    end_within zero run sound few = absurd (omega arith)
    end_within (suc bound) run sound few = by (λ t held less. end_within bound t held less) (look (can_step run) seats)
      where
        by : ((t : Run) → IsSoundRunOf Ending parts t → run_weight parts t < bound → Goes t) → SomeCan (can_step run) seats
            ⊎ NoneCan (can_step run) seats → Goes run
        by goes (inl some) =
            let may_step = free run some.0 some.1 some.2 in
            let falls = less run some.0 sound may_step in
            let more = goes (stepped parts run some.0) (steps_so parts keeps run some.0 scenario sound may_step) (omega arith) in
            (some.0 ∷ more.0, (may_step, more.1), more.2)
        by goes (inr ended) = ([], tt, ended)

    sound_at : (schedule : List ℕ) → AllRun parts schedule → IsSoundRunOf Ending parts (reached parts schedule)
    sound_at schedule runs = sound_after (start parts) schedule (starts_so parts keeps scenario) runs

    few : (schedule : List ℕ) → AllRun parts schedule → length schedule + run_weight parts (reached parts schedule) ≤ most_steps parts
    few schedule runs =
        let steps = few_steps (start parts) schedule (starts_so parts keeps scenario) runs in
        let begins = start_weight seats (omega arith) in
        let idles = idle_weight in omega arith

    rests : (run : Run) → IsSoundRunOf Ending parts run → IsCoreEnd (layout parts) run.core → IsCoreAtRest (layout parts) run.core
    rests run sound ended = run_ends parts scenario run (plainly sound) ended

    ends : (schedule : List ℕ) → AllRun parts schedule
        → (more : List ℕ) × AllRunFrom parts (reached parts schedule) more
        × (length schedule + length more ≤ most_steps parts)
        × IsCoreEnd (layout parts) (after_all parts (reached parts schedule) more).core
        × IsCoreAtRest (layout parts) (after_all parts (reached parts schedule) more).core
    ends schedule runs =
        let run : Run = reached parts schedule in
        let sound : IsSoundRunOf Ending parts run = sound_at schedule runs in
        let goes : Goes run = end_within (suc (run_weight parts run)) run sound (omega arith) in
        let before = few schedule runs in
        let after = few_steps run goes.0 sound goes.1 in
        (goes.0, goes.1, omega arith, goes.2, rests (after_all parts run goes.0) (sound_after run goes.0 sound goes.1) goes.2)

pub the_run_ends : TheRunEnds
the_run_ends = record {
  lowered = λ parts schedule i scenario runs free. less parts scenario (reached parts schedule) i (sound_at parts scenario schedule runs) free;
  few = λ parts schedule scenario runs. few parts scenario schedule runs;
  ends = λ parts schedule scenario runs. ends parts scenario schedule runs;
  rests = λ parts schedule scenario runs ended. rests parts scenario (reached parts schedule) (sound_at parts scenario schedule runs) ended;
  bounded = bounded;
}
