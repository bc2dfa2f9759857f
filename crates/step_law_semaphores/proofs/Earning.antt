-- No acquire ends without a unit, but where its seat has withdrawn its wait.
use Rattle.std.proofs.Common.{◌≡◌, ℕ, zero, suc, ◌+◌, ◌==◌, if◌then◌else◌, Bool, true, false, refl, sym, ap, ◌∙◌, subst, List}
use Rattle.step_table.specs.declared.place.Acquire.{Acquire}
use Rattle.step_table.specs.declared.place.AcquireRow.{AcquireRow}
use Rattle.step_table.specs.declared.place.AcquireRow.TheVariants.{A1, A2, A3, A4, A5, A6, A7, A8, A9, Parked, A10, A11, D4}
use Rattle.step_table.specs.declared.place.ParkedRow.TheVariants.{P, D2, D3, D5}
use Rattle.step_table.specs.declared.place.Place.{Place}
use Rattle.step_table.specs.declared.place.ParkedRow.{ParkedRow}
use Rattle.step_table.specs.declared.place.Place.TheVariants.{Rest, Acquiring}
use Rattle.step_table.specs.World.{Layout, SeatState, SemaWorld, seat_after, stands_in}
use Rattle.step_table.specs.Event.{Next}
use Rattle.step_table.specs.Acquire.{acquire_event}
use Rattle.step_table.specs.Table.{event_at}
use Rattle.step_table.specs.Steps.{Turn, event_of, finds}
use Rattle.step_table.specs.Counting.{wait}
use Rattle.step_law_semaphores.specs.Served.{gains, keeps, rests, EndsWithUnit, has_withdrawn}
use Rattle.step_table.proofs.Sums.{put_here}
use Rattle.waiters.specs.declared.wait.WaitId.{WaitId}

-- what the seat comes by and keeps, where it goes from the one place to the other
abbrev Earns : Place → Place → Type 0
Earns p q = gains p q + keeps p + has_withdrawn p ≡ keeps q + rests q

either_earns : (p : Place) (b : Bool) (won lost : Next) → Earns p won.0 → Earns p lost.0 → Earns p (if b then won else lost).0
either_earns p true won lost x y = x
either_earns p false won lost x y = y

row_earns : (s n : ℕ) (list : List WaitId) (a : Acquire) (row : AcquireRow) (v : ℕ) → Earns (Acquiring a row) ((acquire_event s n list a row).leads v).0
row_earns s n list a A1 zero = refl
row_earns s n list a A1 (suc v) = refl
row_earns s n list a (A2 left) v = either_earns (Acquiring a (A2 left)) (v == left + 1) _ _ refl refl
row_earns s n list a A3 v = refl
row_earns s n list a A4 v = refl
row_earns s n list a A5 zero = refl
row_earns s n list a A5 (suc v) = refl
row_earns s n list a (A6 left) v = either_earns (Acquiring a (A6 left)) (v == left + 1) _ _ refl refl
row_earns s n list a A7 v = refl
row_earns s n list a A8 v = refl
row_earns s n list a A9 v = refl
row_earns s n list a (Parked turn P) v = by (v == 1)
  where
    by : (b : Bool) → Earns (Acquiring a (Parked turn P)) (if b then Acquiring a A10 else Rest)
    by true = refl
    by false = refl
row_earns s n list a (Parked turn D2) v = by (stands_in s list)
  where
    by : (b : Bool) → Earns (Acquiring a (Parked turn D2)) (if b then Acquiring a (Parked turn D3) else Acquiring a (Parked turn D5))
    by true = refl
    by false = refl
row_earns s n list a (Parked turn D3) v = refl
row_earns s n list a D4 v = refl
row_earns s n list a (Parked turn D5) v = refl
row_earns s n list a A10 zero = refl
row_earns s n list a A10 (suc v) = refl
row_earns s n list a (A11 left) v = either_earns (Acquiring a (A11 left)) (v == left + 1) _ _ refl refl

pub ended : (m : Layout) (s t : SemaWorld) (i : ℕ) → Turn m.root s i t → EndsWithUnit i s t
ended m s t i turn a row at = subst (Earns (s.seats i).place) (sym place_is) here
  where
    next : Next
    next = (event_of s i).leads (finds m.root s i)

    here : Earns (s.seats i).place next.0
    here = subst (λ (p : Place). Earns p ((event_at i (s.seats i) s.words.lists p).leads (finds m.root s i)).0) (sym at)
        (row_earns i (s.seats i).turn (s.words.lists a.counter) a row (finds m.root s i))

    place_is : (t.seats i).place ≡ next.0
    place_is =
        ap (λ (u : SemaWorld). (u.seats i).place) turn.is
        ∙ ap (λ (z : SeatState). z.place) (put_here s.seats i (seat_after next.1 next.0 (s.seats i)))
