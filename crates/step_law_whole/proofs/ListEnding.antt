-- The law of the ends of one notify list.
use Rattle.std.proofs.Common.{ℕ, suc, ◌+◌, ◌<◌, ◌≤◌, refl, arith}
use Rattle.step_table.specs.ListWorld.{ListWorld}
use Rattle.step_table.specs.Turn.{none, more}
use Rattle.step_table.specs.ListSteps.{ListTurn, turned, can_turn, ListStep, turn, choose, add, wait, Leads, IsListReached, IsListEnd}
use Rattle.step_law_lists.specs.ListLawful.{IsInReach}
use Rattle.step_law_lists.specs.ListLaw.{IsListAtRest}
use Rattle.step_law_lists.proofs.ListKeeping.{list_reached, reach_back}
use Rattle.step_law_lists.proofs.ListEnding.{list_ends}
use Rattle.step_table.proofs.Sums.{nothing}
use Rattle.step_law_whole.specs.Course.{Rows}
use Rattle.step_law_whole.specs.Course as course
use Rattle.step_law_whole.specs.ListWeight.{list_weight, ListChosen, chosen, adds, waits}
use Rattle.step_law_whole.specs.ListEnds.{ListCourse, StaysInReach, TheListEnds}
use Rattle.step_law_whole.proofs.Courses.{course_keeps, course_within, few_rows, end_of, first as first_row}
use Rattle.step_law_whole.proofs.ListWeights.{lowered, raised}

-- steps are rows and choices
counted : (seats : ℕ) (s t : ListWorld) → Leads seats s t → (rows : ℕ) × (costs : ℕ) × ListCourse seats s rows costs t
counted seats s t none = (0, 0, course.none)
counted seats s t (more {t = u} i in_range before step) = by (counted seats s u before) step
  where
    by : {v : ListWorld} → ((rows : ℕ) × (costs : ℕ) × ListCourse seats s rows costs u) → ListStep u i v
        → (rows : ℕ) × (costs : ℕ) × ListCourse seats s rows costs v
    by so_far (turn x) = (_, _, course.row i in_range so_far.2 x)
    by so_far (choose choice) = (_, _, course.choice i in_range so_far.2 (chosen choice))
    by so_far (add rests free) = (_, _, course.choice i in_range so_far.2 (adds rests free))
    by so_far (wait rests held) = (_, _, course.choice i in_range so_far.2 (waits rests held))

chosen_step : (s : ListWorld) (i : ℕ) {cost : ℕ} {t : ListWorld} → ListChosen s i cost t → ListStep s i t
chosen_step s i (chosen choice) = choose choice
chosen_step s i (adds rests free) = add rests free
chosen_step s i (waits rests held) = wait rests held

-- where a list's journal is in reach, it was before
abbrev InReach : ListWorld → Type 0
InReach s = IsInReach s.journal

row_back : (s t : ListWorld) (i : ℕ) → ListTurn s i t → InReach t → InReach s
row_back s t i x reach = reach_back s i (turn x) reach

choice_back : (s t : ListWorld) (i cost : ℕ) → ListChosen s i cost t → InReach t → InReach s
choice_back s t i cost x reach = reach_back s i (chosen_step s i x) reach

module _ (first seats : ℕ) where
  -- a row that is run while the journal is in reach
  abbrev Runs : ListWorld → ℕ → ListWorld → Type 0
  Runs s i t = ListTurn s i t × InReach s

  row_kept : (s t : ListWorld) (i : ℕ) → i < seats → IsListReached first seats s → ListTurn s i t → IsListReached first seats t
  row_kept s t i in_range led x = more i in_range led (turn x)

  choice_kept : (s t : ListWorld) (i cost : ℕ) → i < seats → IsListReached first seats s → ListChosen s i cost t → IsListReached first seats t
  choice_kept s t i cost in_range led x = more i in_range led (chosen_step s i x)

  falls : (s t : ListWorld) (i : ℕ) → i < seats → IsListReached first seats s → Runs s i t → list_weight seats t < list_weight seats s
  falls s t i in_range led x = lowered first seats s t i in_range (list_reached first seats s x.1 led) x.0

  few : (s t : ListWorld) (rows costs : ℕ) → InReach t → IsListReached first seats s → ListCourse seats s rows costs t
      → rows + list_weight seats t ≤ list_weight seats s + costs
  few s t rows costs reach led x =
      few_rows Runs ListChosen seats (IsListReached first seats) (list_weight seats) (λ s t i h led x. row_kept s t i h led x.0) choice_kept falls
      (λ s t i cost h rule. raised seats s t i cost h) (course_within ListTurn ListChosen seats InReach row_back choice_back x reach) led

  -- rows lead on so
  abbrev Going : ListWorld → Type 0
  Going s = IsListReached first seats s × StaysInReach seats s

  going_kept : (s t : ListWorld) (i : ℕ) → i < seats → Going s → ListTurn s i t → Going t
  going_kept s t i in_range going x = (row_kept s t i in_range going.0 x, (λ rows u more. going.1 (suc rows) u (first_row i in_range x more)))

  ends : (s t : ListWorld) (rows costs : ℕ) → IsListReached first seats s → ListCourse seats s rows costs t → StaysInReach seats t
      → (u : ListWorld) × (more : ℕ) × Rows ListTurn seats t more u × (rows + more ≤ list_weight seats s + costs) × IsListEnd seats u
      × IsListAtRest seats u
  ends s t rows costs led x stays =
      let now : Going t = (course_keeps ListTurn ListChosen seats (IsListReached first seats) row_kept choice_kept x led, stays) in
      let ended = end_of ListTurn (λ s i cost t. ⊥) seats Going (list_weight seats) going_kept (λ s t i cost h rule never. absurd never)
      (λ s t i h going x. falls s t i h going.0 (x, going.1 0 s course.none)) (λ s t i cost h rule never. absurd never)
      can_turn turned (λ s i h rule can. record { can = can; is = refl }) t now in
      let before = few s t rows costs (stays 0 t course.none) led x in
      let more = ended.3 in (
        ended.0,
        ended.1,
        ended.2,
        omega arith,
        ended.5,
        list_ends first seats ended.0 (list_reached first seats ended.0 (ended.4.1 0 ended.0 course.none) ended.4.0) ended.5,
      )

pub the_list_ends : TheListEnds
the_list_ends = record {
  starts = λ first seats. nothing seats (λ k. 0) (λ k. refl);
  lowered = lowered;
  raised = raised;
  counted = counted;
  few = λ first seats s t rows costs reach led x. few first seats s t rows costs reach led x;
  ends = λ first seats s t rows costs led x stays. ends first seats s t rows costs led x stays;
}
