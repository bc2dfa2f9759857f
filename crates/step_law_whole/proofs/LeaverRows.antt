-- The rows on a counter of a wait on a group that has given up: by some it leaves, and by the others it remains.
use Rattle.std.proofs.Common.{◌≡◌, ℕ, if◌then◌else◌, Bool, true, false, refl}
use Rattle.step_table.specs.declared.call.GivingUp.{GivingUp}
use Rattle.step_table.specs.declared.place.Acquire.{Acquire}
use Rattle.step_table.specs.declared.place.AcquireRow.{AcquireRow}
use Rattle.step_table.specs.declared.place.AcquireRow.TheVariants.{D4, Parked}
use Rattle.step_table.specs.declared.place.ParkedRow.TheVariants.{P, D2, D3, D5}
use Rattle.step_table.specs.declared.place.Place.{Place}
use Rattle.step_table.specs.declared.place.Place.TheVariants.{Rest, Acquiring}
use Rattle.step_table.specs.declared.standing.After.TheVariants.{LooksAgain}
use Rattle.step_table.specs.declared.standing.Ending.TheVariants.{GaveUp}
use Rattle.step_table.specs.World.{SeatState, Words, stands_in}
use Rattle.step_table.specs.Core.{CoreLayout}
use Rattle.step_law_whole.specs.CoreLaw.{IsCallBefore, IsPatient}
use Rattle.step_law_whole.proofs.CoreRows.{IsPatientAt, patient}
use Rattle.step_law_whole.proofs.GroupUnits as units
use Rattle.step_law_whole.proofs.GroupSeats.{gone}

pub patient_stays : (p : Place) → IsPatientAt p → gone p ≡ 0
patient_stays (Acquiring a D4) is = absurd is
patient_stays (Acquiring a (Parked u P)) is = refl
patient_stays (Acquiring a (Parked u row)) is = absurd is
patient_stays _ is = refl

-- who doesn't give up its sleep stays
pub patient_led : (root : ℕ → ℕ) (i : ℕ) (seat : SeatState) (g : Words) (a : Acquire) (r : AcquireRow) → IsPatient r
    → gone (units.place_after root i seat g (Acquiring a r)) ≡ 0
patient_led root i seat g a r is =
    patient_stays (units.place_after root i seat g (Acquiring a r)) (patient i seat g.lists (units.found_at root i seat g (Acquiring a r)) a r is)

-- it goes to look at its group's word, withdraws, has left, or remains
pub data LeaverRow : Place → Place → Type 0 where
  looks : {a : Acquire} {u : ℕ} → LeaverRow (Acquiring a (Parked u D2)) (Acquiring a (Parked u D3))
  withdraws : {a : Acquire} {u : ℕ} → LeaverRow (Acquiring a (Parked u D3)) (Acquiring a D4)
  leaves : {a : Acquire} → LeaverRow (Acquiring a D4) Rest
  remains : {p q : Place} → gone p ≡ 0 → gone q ≡ 0 → LeaverRow p q

pub leaver_row : (m : CoreLayout) (h : ℕ) (how : GivingUp) (i : ℕ) (seat : SeatState) (g : Words) (p : Place)
    → IsCallBefore m (LooksAgain h (GaveUp how)) p → LeaverRow p (units.place_after m.root i seat g p)
leaver_row m h how i seat g (Acquiring a (Parked u D2)) is = by (stands_in i (g.lists a.counter))
  where
    by : (b : Bool) → LeaverRow (Acquiring a (Parked u D2)) (if b then Acquiring a (Parked u D3) else Acquiring a (Parked u D5))
    by true = looks
    by false = remains refl refl
leaver_row m h how i seat g (Acquiring a (Parked u D3)) is = withdraws
leaver_row m h how i seat g (Acquiring a D4) is = leaves
leaver_row m h how i seat g (Acquiring a (Parked u D5)) is = remains refl refl
leaver_row m h how i seat g (Acquiring a r) is = remains refl (patient_led m.root i seat g a r tt)
leaver_row m h how i seat g _ is = absurd is
