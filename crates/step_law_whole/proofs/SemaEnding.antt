-- The law of the semaphores' ends.
use Rattle.std.proofs.Common.{◌≡◌, ℕ, ◌+◌, ◌<◌, ◌≤◌, refl, arith}
use Rattle.step_table.specs.World.{Layout, SemaWorld, first_world}
use Rattle.step_table.specs.Turn.{LeadsBy, none, more}
use Rattle.step_table.specs.Steps.{Turn, turned, can_turn, Step, turn, choose, IsReached, IsEnd}
use Rattle.step_law_semaphores.specs.Invariant.{IsInvariant}
use Rattle.step_law_semaphores.specs.Law.{IsAtRest}
use Rattle.step_law_semaphores.proofs.Ending.{at_rest}
use Rattle.step_law_semaphores.proofs.Promises.{kept, reached}
use Rattle.step_table.proofs.Sums.{nothing}
use Rattle.step_law_whole.specs.Course.{Rows}
use Rattle.step_law_whole.specs.Course as course
use Rattle.step_law_whole.specs.SemaWeight.{weight, cost, Chosen, chosen}
use Rattle.step_law_whole.specs.SemaEnds.{SemaCourse, TheSemaEnds}
use Rattle.step_law_whole.proofs.Courses.{course_keeps, few_rows, end_of}
use Rattle.step_law_whole.proofs.SemaWeights.{lowered, raised}

module _ (m : Layout) where
  row_kept : (s t : SemaWorld) (i : ℕ) → i < m.seats → IsInvariant m s → Turn m.root s i t → IsInvariant m t
  row_kept s t i in_range inv x = kept m s t i in_range inv (turn x)

  choice_kept : (s t : SemaWorld) (i cost : ℕ) → i < m.seats → IsInvariant m s → Chosen m s i cost t → IsInvariant m t
  choice_kept s t i cost in_range inv = by
    where
      by : {cost : ℕ} {t : SemaWorld} → Chosen m s i cost t → IsInvariant m t
      by (chosen choice) = kept m s _ i in_range inv (choose choice)

  -- steps are rows and choices
  counted : (s t : SemaWorld) → LeadsBy (Step m) m.seats s t → (rows : ℕ) × (costs : ℕ) × SemaCourse m s rows costs t
  counted s t none = (0, 0, course.none)
  counted s t (more {t = u} i in_range before step) = by (counted s u before) step
    where
      by : {v : SemaWorld} → ((rows : ℕ) × (costs : ℕ) × SemaCourse m s rows costs u) → Step m u i v
          → (rows : ℕ) × (costs : ℕ) × SemaCourse m s rows costs v
      by so_far (turn x) = (_, _, course.row i in_range so_far.2 x)
      by so_far (choose choice) = (_, _, course.choice i in_range so_far.2 (chosen choice))

  few : (s t : SemaWorld) (rows costs : ℕ) → IsReached m s → SemaCourse m s rows costs t → rows + weight m t ≤ weight m s + costs
  few s t rows costs led x =
      few_rows (Turn m.root) (Chosen m) m.seats (IsInvariant m) (weight m) row_kept choice_kept (lowered m)
      (λ s t i cost h rule. raised m s t i cost h) x (reached m s led)

  starts : weight m (first_world m.starts) ≡ 0
  starts = nothing m.seats (λ k. 0) (λ k. refl)

  ends : (s t : SemaWorld) (rows costs : ℕ) → IsReached m s → SemaCourse m s rows costs t
      → (u : SemaWorld) × (more : ℕ) × Rows (Turn m.root) m.seats t more u × (rows + more ≤ weight m s + costs) × IsEnd m u × IsAtRest m u
  ends s t rows costs led x =
      let now : IsInvariant m t = course_keeps (Turn m.root) (Chosen m) m.seats (IsInvariant m) row_kept choice_kept x (reached m s led) in
      let ended = end_of (Turn m.root) (Chosen m) m.seats (IsInvariant m) (weight m) row_kept choice_kept (lowered m)
      (λ s t i cost h rule. raised m s t i cost h) (can_turn m.root) (turned m.root) (λ s i h rule can. record { can = can; is = refl }) t now in
      let before = few s t rows costs led x in
      let more = ended.3 in
      (ended.0, ended.1, ended.2, omega arith, ended.5, at_rest m ended.0 ended.4 ended.5)

pub the_sema_ends : TheSemaEnds
the_sema_ends = record {
  starts = starts;
  lowered = lowered;
  raised = raised;
  counted = counted;
  few = few;
  ends = ends;
}
