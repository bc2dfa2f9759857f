-- The law of the ends of the whole machine.
use Rattle.std.proofs.Common.{◌≡◌, ℕ, suc, ◌+◌, ◌<◌, ◌≤◌, IsTrue, refl, sym, subst, arith}
use Rattle.step_law_lists.specs.ListLawful.{told, IsInReach}
use Rattle.step_table.specs.Core.{CoreLayout, Core, first_core}
use Rattle.step_table.specs.CoreSteps.{can_run, core_turned, IsCoreEnd}
use Rattle.step_law_whole.specs.CoreLaw.{IsCoreInvariant, AllInReach, IsCoreAtRest}
use Rattle.step_law_whole.proofs.CoreCalling.{core_at_first, calls_keep}
use Rattle.step_law_whole.proofs.CoreKeeping.{rows_keep}
use Rattle.step_law_whole.proofs.ListReach.{row_before, call_journals}
use Rattle.step_law_whole.proofs.CoreEnding.{list_at_rest, core_ends}
use Rattle.step_law_whole.specs.CoreWeight.{core_weight, Called, called, WaitsCounted}
use Rattle.step_table.specs.Counting.{total}
use Rattle.step_table.proofs.Sums.{nothing}
use Rattle.step_law_whole.specs.Course.{Rows}
use Rattle.step_law_whole.specs.Course as course
use Rattle.step_law_whole.specs.CoreEnds.{CoreRow, CoreCourse, IsCoreReached, StaysInReach, TheCoreEnds}
use Rattle.step_law_whole.proofs.Courses.{course_keeps, course_within, few_rows, end_of, first}
use Rattle.step_law_whole.proofs.CoreWeights.{calls_raise}
use Rattle.step_law_whole.proofs.CoreFalling.{core_lowered}
use Rattle.step_law_whole.proofs.WaitsCounting.{calls_counted, rows_counted, first_counted}

-- what rows and calls keep
abbrev pub IsEnding : CoreLayout → Core → Type 0
IsEnding m s = IsCoreInvariant m s × WaitsCounted m s

pub row_ends : (m : CoreLayout) (s : Core) (i : ℕ) → i < m.seats → IsEnding m s
    → IsTrue (can_run m s i (s.standing i)) → IsEnding m (core_turned m s i)
row_ends m s i in_range ending can = (rows_keep m s i in_range ending.0 can, rows_counted m s i in_range (ending.0.standing i) ending.1)

raised : (m : CoreLayout) (s t : Core) (i cost : ℕ) → i < m.seats → Called m s i cost t → core_weight m t ≤ core_weight m s + cost
raised m s t i cost in_range = by
  where
    by : {cost : ℕ} {t : Core} → Called m s i cost t → core_weight m t ≤ core_weight m s + cost
    by (called call rests may) = calls_raise m i in_range s call

lowered : (m : CoreLayout) (s t : Core) (i : ℕ) → i < m.seats → AllInReach s → IsEnding m s
    → CoreRow m s i t → core_weight m t < core_weight m s
lowered m s t i in_range reach ending row =
    subst (λ t. core_weight m t < core_weight m s) (sym row.1) (core_lowered m s i in_range reach ending.0 ending.1 row.0)

module _ (m : CoreLayout) where
  row_kept : (s t : Core) (i : ℕ) → i < m.seats → IsEnding m s → CoreRow m s i t → IsEnding m t
  row_kept s t i in_range ending row = subst (IsEnding m) (sym row.1) (row_ends m s i in_range ending row.0)

  call_kept : (s t : Core) (i cost : ℕ) → i < m.seats → IsEnding m s → Called m s i cost t → IsEnding m t
  call_kept s t i cost in_range ending = by
    where
      by : {cost : ℕ} {t : Core} → Called m s i cost t → IsEnding m t
      by (called call rests may) = (calls_keep m s i call in_range ending.0 rests may, calls_counted m i in_range s call rests ending.1)

  course_ends : {s t : Core} {rows costs : ℕ} → CoreCourse m s rows costs t → IsEnding m s → IsEnding m t
  course_ends x ending = course_keeps (CoreRow m) (Called m) m.seats (IsEnding m) row_kept call_kept x ending

  reached : (s : Core) → IsCoreReached m s → IsEnding m s
  reached s led = course_ends led.2 (core_at_first m, first_counted m)

  -- where the journals of lists are in reach, they were before
  row_back : (s t : Core) (i : ℕ) → CoreRow m s i t → AllInReach t → AllInReach s
  row_back s t i row reach = row_before m s i row.0 (subst AllInReach row.1 reach)

  call_back : (s t : Core) (i cost : ℕ) → Called m s i cost t → AllInReach t → AllInReach s
  call_back s t i cost = by
    where
      by : {cost : ℕ} {t : Core} → Called m s i cost t → AllInReach t → AllInReach s
      by (called call rests may) reach l = subst IsInReach (call_journals s i call l) (reach l)

  few : (s t : Core) (rows costs : ℕ) → AllInReach t → IsCoreReached m s → CoreCourse m s rows costs t
      → rows + core_weight m t ≤ core_weight m s + costs
  few s t rows costs reach led x =
      few_rows (λ s i t. CoreRow m s i t × AllInReach s) (Called m) m.seats (IsEnding m) (core_weight m)
      (λ s t i h ending row. row_kept s t i h ending row.0) call_kept (λ s t i h ending row. lowered m s t i h row.1 ending row.0)
      (λ s t i cost h ending. raised m s t i cost h) (course_within (CoreRow m) (Called m) m.seats AllInReach row_back call_back x reach) (reached s led)

  -- rows lead on so
  abbrev Going : Core → Type 0
  Going s = IsEnding m s × StaysInReach m s

  going_kept : (s t : Core) (i : ℕ) → i < m.seats → Going s → CoreRow m s i t → Going t
  going_kept s t i in_range going row = (row_kept s t i in_range going.0 row, (λ rows u more. going.1 (suc rows) u (first i in_range row more)))

  ends : (s t : Core) (rows costs : ℕ) → IsCoreReached m s → CoreCourse m s rows costs t → StaysInReach m t
      → (u : Core) × (more : ℕ) × Rows (CoreRow m) m.seats t more u × (rows + more ≤ core_weight m s + costs) × IsCoreEnd m u
      × (((l : ℕ) → (told (u.lists l).journal).handed ≤ 9223372036854775808) → IsCoreAtRest m u)
  ends s t rows costs led x stays =
      let now : Going t = (course_ends x (reached s led), stays) in
      let ended = end_of (CoreRow m) (λ s i cost t. ⊥) m.seats Going (core_weight m) going_kept (λ s t i cost h rule never. absurd never)
      (λ s t i h going row. lowered m s t i h (going.1 0 s course.none) going.0 row) (λ s t i cost h rule never. absurd never)
      (λ s i. can_run m s i (s.standing i)) (core_turned m) (λ s i h going can. (can, refl)) t now in
      let before = few s t rows costs (stays 0 t course.none) led x in
      let more = ended.3 in
      (ended.0, ended.1, ended.2, omega arith, ended.5, (λ handed. core_ends list_at_rest m ended.0 ended.4.0.0 handed ended.5))

-- nothing weighs at the start
pub starts : (m : CoreLayout) → core_weight m (first_core m) ≡ 0
starts m =
    let none = nothing m.seats (λ k. 0) (λ k. refl) in
    let lists = nothing m.lists (λ l. total m.seats (λ k. 0)) (λ l. none) in omega arith

pub the_core_ends : TheCoreEnds
the_core_ends = record {
  starts = starts;
  lowered = λ m s t i in_range reach inv counted row. lowered m s t i in_range reach (inv, counted) row;
  raised = raised;
  counted = λ m s led. (reached m s led).1;
  few = λ m s t rows costs reach led x. few m s t rows costs reach led x;
  ends = λ m s t rows costs led x stays. ends m s t rows costs led x stays;
}
