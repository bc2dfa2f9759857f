-- The weight of a world of one notify list. A sleeper pays for the row that grants it, so no weight depends
-- on how many seats there are, or on how many waits a notification takes out.
use Rattle.std.specs.Prelude.{◌≡◌, ℕ, zero, suc, ◌+◌, Some, None}
use Rattle.step_table.specs.declared.list_place.AllRow.{AllRow}
use Rattle.step_table.specs.declared.list_place.AllRow.TheVariants.{L1, L2, L3, L4, L5, L6, L7, L8}
use Rattle.step_table.specs.declared.list_place.ListPlace.{ListPlace}
use Rattle.step_table.specs.declared.list_place.ListPlace.TheVariants.{Rest, Adding, Waiting, NotifyingOne}
use Rattle.step_table.specs.declared.list_place.ListPlace.TheVariants.{NotifyingAll}
use Rattle.step_table.specs.declared.list_place.OneRow.{OneRow}
use Rattle.step_table.specs.declared.list_place.OneRow.TheVariants.{O1, O2, O3, O4, O5, O6, O7, O8, O9}
use Rattle.step_table.specs.declared.list_place.Ticket.{Ticket}
use Rattle.step_table.specs.declared.list_place.WaitRow.{WaitRow}
use Rattle.step_table.specs.declared.list_place.ListParkedRow.{ListParkedRow}
use Rattle.step_table.specs.declared.list_place.ListParkedRow.TheVariants.{P, E1, E2, E3, E5}
use Rattle.step_table.specs.declared.list_place.WaitRow.TheVariants.{W1, W2, W3, W4, E4, Parked}
use Rattle.step_table.specs.Counting.{total}
use Rattle.step_table.specs.ListWorld.{ListWorld}
use Rattle.step_table.specs.ListSteps.{ListChoice, moved, waiting}

-- what a sleeper weighs, with this grant
abbrev pub parked_weight : ℕ → ℕ
parked_weight zero = 2
parked_weight (suc grant) = 1

-- what it weighs besides, where it gives up
abbrev pub leaving_weight : ListParkedRow → ℕ
leaving_weight P = 0
leaving_weight E1 = 2
leaving_weight E2 = 1
leaving_weight (E3 v) = 0
leaving_weight E5 = 1

-- what a seat weighs at a row of a wait, with this grant
abbrev pub wait_weight : WaitRow → ℕ → ℕ
wait_weight W1 grant = 5
wait_weight W2 grant = 4
wait_weight W3 grant = 1
wait_weight W4 grant = 3
wait_weight E4 grant = 1
wait_weight (Parked row) grant = parked_weight grant + leaving_weight row

abbrev pub one_weight : OneRow → ℕ
one_weight O1 = 7
one_weight (O2 a) = 6
one_weight O3 = 5
one_weight O4 = 4
one_weight (O5 t) = 3
one_weight O6 = 1
one_weight (O7 t) = 2
one_weight (O8 t) = 1
one_weight O9 = 0

abbrev pub all_weight : AllRow → ℕ
all_weight L1 = 7
all_weight (L2 a) = 6
all_weight L3 = 5
all_weight L4 = 4
all_weight (L5 t) = 3
all_weight (L6 r) = 2
all_weight (L7 n) = 1
all_weight L8 = 0

abbrev pub list_place_weight : ListPlace → ℕ → ℕ
list_place_weight Rest grant = 0
list_place_weight Adding grant = 1
list_place_weight (Waiting t row) grant = wait_weight row grant
list_place_weight (NotifyingOne h row) grant = one_weight row
list_place_weight (NotifyingAll h row) grant = all_weight row

abbrev pub list_weight : ℕ → ListWorld → ℕ
list_weight seats s = total seats (λ k. list_place_weight (s.seats k).place (s.words.grants k))

-- what a caller's choice costs: a notification its rows, to give up a sleep two rows, and all else nothing
abbrev pub choice_cost : ListPlace → ℕ
choice_cost Rest = 7
choice_cost (Waiting t (Parked P)) = 2
choice_cost _ = 0

-- the caller of seat i chooses, at this cost: to notify, to give up a sleep or to sleep on, to take a ticket,
-- or to wait with the one that it holds
pub data ListChosen (s : ListWorld) (i : ℕ) : ℕ → ListWorld → Type 0 where
  chosen : {place : ListPlace} → ListChoice (s.seats i).place place
      → ListChosen s i (choice_cost (s.seats i).place) (moved s i place)
  adds : (s.seats i).place ≡ Rest → (s.seats i).ticket ≡ None → ListChosen s i 1 (moved s i Adding)
  waits : {t : Ticket} → (s.seats i).place ≡ Rest → (s.seats i).ticket ≡ Some t
      → ListChosen s i 5 (waiting s i)
