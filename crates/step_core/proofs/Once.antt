-- What each call does at most once: so it is in each run, where it is so of each row, by whatever table.
use Rattle.std.proofs.Common.{◌≡◌, ◌≢◌, ℕ, zero, suc, ◌+◌, ◌<◌, ◌≤◌, Option, Some, None, length, refl, ◌∙◌, arith}
use Rattle.std.specs.Prelude.{min, slice_index_or, []}
use Rattle.step_table.specs.declared.call.Call.{Call}
use Rattle.step_table.specs.declared.parts.Parts.{Parts}
use Rattle.step_table.specs.declared.standing.Standing.{Standing}
use Rattle.step_table.specs.declared.standing.Standing.TheVariants.{Rest, AtCounter, AtList, AtGroup, Left, Failed}
use Rattle.step_table.specs.Counting.{total}
use Rattle.step_table.specs.Core.{CoreLayout, Core, first_core}
use Rattle.step_table.specs.CoreSteps.{stands, calls, core_turned}
use Rattle.step_table.specs.Run.{Run, layout, call_of, begun, left_out, continued, all_begun, start, stepped}
use Rattle.step_law_alike.specs.declared.variant.Variant.{Variant}
use Rattle.step_law_alike.specs.Changed.{changed}
use Rattle.step_core.specs.Stepping.{stepped_by}
use Rattle.step_table.proofs.Sums.{put_here, put_else, total_change}

-- seat i has changed, and did so no more often than it might and n calls more may
pub record Counts {A : Type 0} (done : A → ℕ) (may : A → ℕ → ℕ) (s t : A) (i n : ℕ) : Type 0 where
  pub others : (k : ℕ) → k ≢ i → may t k ≡ may s k
  pub here : done t + may t i ≤ done s + may s i + n

pub record IsOnce (done : Core → ℕ) (may : Core → ℕ → ℕ) : Type 0 where
  pub row : (m : CoreLayout) (s : Core) (i : ℕ) → Counts done may s (core_turned m s i) i 0
  pub call : (s : Core) (i : ℕ) (call : Call) → Counts done may s (calls s i call) i 1
  pub rests : (s : Core) (i : ℕ) → Counts done may s (stands s i Rest) i 0
  pub leads : (v : Variant) (s t : Core) (i : ℕ) → Counts done may t (changed v s t i (s.standing i)) i 0

module _ (done : Core → ℕ) (may : Core → ℕ → ℕ) where
  abbrev pub IsFew : Parts → Run → Type 0
  IsFew parts run = done run.core + total (length parts.calls) (may run.core) ≤ total (length parts.calls) run.begun

  -- the same of a run, in which the seat has begun calls
  record CountsIn (r s : Run) (i : ℕ) : Type 0 where
    others : (k : ℕ) → k ≢ i → may s.core k ≡ may r.core k
    begun : (k : ℕ) → k ≢ i → s.begun k ≡ r.begun k
    here : done s.core + may s.core i + r.begun i ≤ done r.core + may r.core i + s.begun i

  in_run : (r : Run) (t : Core) (i : ℕ) → Counts done may r.core t i 0 → CountsIn r (record r { core = t }) i
  in_run r t i counts = record { others = counts.others; begun = λ k ne. refl; here = let few = counts.here in omega arith }

  none_in : (r : Run) (i : ℕ) → CountsIn r r i
  none_in r i = record { others = λ k ne. refl; begun = λ k ne. refl; here = omega arith }

  then_in : (r s t : Run) (i : ℕ) → CountsIn r s i → CountsIn s t i → CountsIn r t i
  then_in r s t i a b = record {
    others = λ k ne. b.others k ne ∙ a.others k ne;
    begun = λ k ne. b.begun k ne ∙ a.begun k ne;
    here = let x = a.here in let y = b.here in omega arith;
  }

  few_kept : (parts : Parts) (r s : Run) (i : ℕ) → i < length parts.calls → CountsIn r s i → IsFew parts r → IsFew parts s
  few_kept parts r s i there counts few =
      let places = total_change (length parts.calls) (may r.core) (may s.core) i there counts.others in
      let calls = total_change (length parts.calls) r.begun s.begun i there counts.begun in
      let here = counts.here in omega arith

  module _ (once : IsOnce done may) where
    begun_in : (run : Run) (i : ℕ) (call : Option Call) → CountsIn run (begun run i call) i
    begun_in run i None = none_in run i
    begun_in run i (Some call) =
        let counts = once.call run.core i call in record {
          others = counts.others;
          begun = λ k ne. put_else run.begun i (run.begun i + 1) k ne;
          here = let few = counts.here in let more = put_here run.begun i (run.begun i + 1) in omega arith;
        }

    module _ (parts : Parts) (run : Run) (i : ℕ) (few : run.begun i ≤ length (slice_index_or parts.calls i [])) where
      left_in : (skips : ℕ) → CountsIn run (left_out parts run i skips) i
      left_in skips =
          let now : ℕ = min (run.begun i + skips) (length (slice_index_or parts.calls i [])) in
          let counts = once.rests run.core i in record {
            others = counts.others;
            begun = λ k ne. put_else run.begun i now k ne;
            here = let same = counts.here in let more = put_here run.begun i now in omega arith;
          }

      continued_in : (doing : Standing) → CountsIn run (continued parts run i doing) i
      continued_in Rest = begun_in run i (call_of parts i (run.begun i))
      continued_in (Left skips) =
          let next : Run = left_out parts run i skips in
          then_in run next _ i (left_in skips) (begun_in next i (call_of parts i (next.begun i)))
      continued_in (AtCounter after) = none_in run i
      continued_in (AtList l ending) = none_in run i
      continued_in (AtGroup g row) = none_in run i
      continued_in (Failed misuse) = none_in run i

    -- each step keeps it
    module _ (parts : Parts) (run : Run) (i : ℕ) (there : i < length parts.calls)
        (few : run.begun i ≤ length (slice_index_or parts.calls i [])) where
      stepped_in : CountsIn run (stepped parts run i) i
      stepped_in =
          let next : Run = record run { core = core_turned (layout parts) run.core i } in
          then_in run next _ i (in_run run next.core i (once.row (layout parts) run.core i))
          (continued_in parts next i few (next.core.standing i))

      stepped_by_in : (table : Option Variant) → CountsIn run (stepped_by table parts run i) i
      stepped_by_in None = stepped_in
      stepped_by_in (Some v) =
          let next : Run = stepped parts run i in
          then_in run next _ i stepped_in
          (in_run next (changed v run.core next.core i (run.core.standing i)) i (once.leads v run.core next.core i))

      pub few_stepped : (table : Option Variant) → IsFew parts run → IsFew parts (stepped_by table parts run i)
      few_stepped table = few_kept parts run (stepped_by table parts run i) i there (stepped_by_in table)

    -- and so it is at the start
    module _ (parts : Parts) (none : IsFew parts (record { core = first_core (layout parts); begun = λ s. 0 })) where
      abbrev idle_run : Run
      idle_run = record { core = first_core (layout parts); begun = λ s. 0 }

      few_begun : (n : ℕ) → n ≤ length parts.calls → IsFew parts (all_begun parts idle_run n)
      few_begun zero h = none
      few_begun (suc n) h =
          few_kept parts (all_begun parts idle_run n) (all_begun parts idle_run (suc n)) n (omega arith)
          (begun_in (all_begun parts idle_run n) n (call_of parts n 0)) (few_begun n (omega arith))

      pub few_started : IsFew parts (start parts)
      few_started = few_begun (length parts.calls) (omega arith)
