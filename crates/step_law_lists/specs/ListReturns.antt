-- What a call has done whose row leads to rest: no call ends without it.
use Rattle.std.specs.Prelude.{◌≡◌, ◌⊎◌, ℕ}
use Rattle.step_table.specs.declared.list_place.ListPlace.{ListPlace}
use Rattle.step_table.specs.declared.list_place.ListPlace.TheVariants.{Rest, Adding, Waiting, NotifyingOne}
use Rattle.step_table.specs.declared.list_place.ListPlace.TheVariants.{NotifyingAll}
use Rattle.step_table.specs.declared.list_place.OneRow.TheVariants.{O8, O9}
use Rattle.step_table.specs.ListWorld.{ListWorld}
use Rattle.step_law_lists.specs.ListCalls.{Returns, Leaves, Concludes}

-- a ticket was taken; a wait returns, found granted or woken, or has left; or a notification concludes, or stands
-- where it has granted one ticket
abbrev pub HasDone : ListWorld → ℕ → ListPlace → Type 0
HasDone s i Rest = ⊥
HasDone s i Adding = Unit {0}
HasDone s i (Waiting t row) = Returns s i t ⊎ Leaves s i t
HasDone s i (NotifyingOne h (O8 t)) = Unit {0}
HasDone s i (NotifyingOne h O9) = Unit {0}
HasDone s i (NotifyingOne h row) = Concludes s (NotifyingOne h row) h
HasDone s i (NotifyingAll h row) = Concludes s (NotifyingAll h row) h

-- a row of seat i that leads to rest ends a call that has done so
abbrev pub EndsDone : ℕ → ListWorld → ListWorld → Type 0
EndsDone i s t = (t.seats i).place ≡ Rest → HasDone s i (s.seats i).place
