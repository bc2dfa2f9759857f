-- Waits, lists, held tickets and seats without the numbers of their tickets.
use Rattle.std.proofs.Common.{◌≡◌, ℕ, ◌==◌, ◌||◌, if◌then◌else◌, Bool, true, false, List, [], ◌∷◌, ◌++◌, length, suc, Option, Some, None}
use Rattle.std.proofs.Common.{refl, ap}
use Rattle.waiters.specs.declared.wait.Wait.{Wait}
use Rattle.waiters.specs.Lists.{first_with, without_first}
use Rattle.step_table.specs.declared.list_place.AllRow.TheVariants.{L6, L7}
use Rattle.step_table.specs.declared.list_place.ListPlace.{ListPlace}
use Rattle.step_table.specs.declared.list_place.ListPlace.TheVariants.{NotifyingAll}
use Rattle.step_table.specs.declared.list_place.Ticket.{Ticket}
use Rattle.step_table.specs.ListWorld.{ListSeat, is_queued, without_seat}
use Rattle.step_table.specs.ListErased.{erased_wait, erased_waits, erased_held, erased_list_place}
use Rattle.step_law_lists.specs.ListBlind.{erased_list_seat}

pub erased_append : (a b : List Wait) → erased_waits (a ++ b) ≡ erased_waits a ++ erased_waits b
erased_append [] b = refl
erased_append (w ∷ a) b = ap (λ z. erased_wait w ∷ z) (erased_append a b)

pub erased_twice : (l : List Wait) → erased_waits (erased_waits l) ≡ erased_waits l
erased_twice [] = refl
erased_twice (w ∷ l) = ap (λ z. erased_wait w ∷ z) (erased_twice l)

pub erased_length : (l : List Wait) → length (erased_waits l) ≡ length l
erased_length [] = refl
erased_length (w ∷ l) = ap suc (erased_length l)

-- a wait is found by its ticket's word
abbrev pub erased_found : Option Wait → Option Wait
erased_found None = None
erased_found (Some w) = Some (erased_wait w)

pub first_erased : (t : ℕ) (l : List Wait) → first_with t (erased_waits l) ≡ erased_found (first_with t l)
first_erased t [] = refl
first_erased t (w ∷ l) = by (w.ticket == t) (first_erased t l)
  where
    by : (b : Bool) → first_with t (erased_waits l) ≡ erased_found (first_with t l)
        → (if b then Some (erased_wait w) else first_with t (erased_waits l)) ≡ erased_found (if b then Some w else first_with t l)
    by true e = refl
    by false e = e

pub without_erased : (t : ℕ) (l : List Wait) → without_first t (erased_waits l) ≡ erased_waits (without_first t l)
without_erased t [] = refl
without_erased t (w ∷ l) = by (w.ticket == t) (without_erased t l)
  where
    by : (b : Bool) → without_first t (erased_waits l) ≡ erased_waits (without_first t l)
        → (if b then erased_waits l else erased_wait w ∷ without_first t (erased_waits l)) ≡ erased_waits (if b then l else w ∷ without_first t l)
    by true e = refl
    by false e = ap (λ z. erased_wait w ∷ z) e

pub queued_erased : (i : ℕ) (l : List Wait) → is_queued i (erased_waits l) ≡ is_queued i l
queued_erased i [] = refl
queued_erased i (w ∷ l) = ap (λ b. (w.id.seat == i) || b) (queued_erased i l)

pub seat_erased : (i : ℕ) (l : List Wait) → without_seat i (erased_waits l) ≡ erased_waits (without_seat i l)
seat_erased i [] = refl
seat_erased i (w ∷ l) = by (w.id.seat == i) (seat_erased i l)
  where
    by : (b : Bool) → without_seat i (erased_waits l) ≡ erased_waits (without_seat i l)
        → (if b then erased_waits l else erased_wait w ∷ without_seat i (erased_waits l)) ≡ erased_waits (if b then l else w ∷ without_seat i l)
    by true e = refl
    by false e = ap (λ z. erased_wait w ∷ z) e

erased_place_twice : (p : ListPlace) → erased_list_place (erased_list_place p) ≡ erased_list_place p
erased_place_twice (NotifyingAll h (L6 r)) = refl
erased_place_twice (NotifyingAll h (L7 n)) = refl
erased_place_twice _ = refl

pub erased_held_twice : (k : Option Ticket) → erased_held (erased_held k) ≡ erased_held k
erased_held_twice None = refl
erased_held_twice (Some t) = refl

pub erased_seat_twice : (z : ListSeat) → erased_list_seat (erased_list_seat z) ≡ erased_list_seat z
erased_seat_twice z = λ j. record { place = erased_place_twice z.place j; ticket = erased_held_twice z.ticket j; hand = erased_twice z.hand j; late = 0 }
