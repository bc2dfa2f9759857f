-- How a seat may stand between two calls, and how a call begins by its caller's choice.
use Rattle.std.specs.Prelude.{◌≡◌, ℕ, ◌<◌, ◌^◌, Bool, true, false, Some, None}
use Rattle.step_table.specs.declared.list_place.AllRow.TheVariants.{L1, L3, L4}
use Rattle.step_table.specs.declared.list_place.ListPlace.{ListPlace}
use Rattle.step_table.specs.declared.list_place.ListPlace.TheVariants.{Rest, Adding, Waiting, NotifyingOne}
use Rattle.step_table.specs.declared.list_place.ListPlace.TheVariants.{NotifyingAll}
use Rattle.step_table.specs.declared.list_place.OneRow.TheVariants.{O1, O3, O4}
use Rattle.step_table.specs.declared.list_place.Ticket.{Ticket}
use Rattle.step_table.specs.declared.list_place.WaitRow.TheVariants.{W1, W2, Parked}
use Rattle.step_table.specs.declared.list_place.ListParkedRow.TheVariants.{P, E1, E2, E3}
use Rattle.step_table.specs.ListWorld.{ListSeat}
use Rattle.step_table.specs.ListSteps.{with_ticket}

-- a seat that may begin a call: at rest, or after two looks that found a difference
abbrev pub is_free : ListPlace → Bool
is_free Rest = true
is_free (NotifyingOne h O3) = true
is_free _ = false

-- a seat that gives up has a ticket of the first 2^60, and was never late: so a ticket that goes wasn't passed
abbrev pub GoesEarly : ListPlace → ℕ → Type 0
GoesEarly (Waiting t (Parked E1)) late = (t.number < 2 ^ 60) × (late ≡ 0)
GoesEarly (Waiting t (Parked E2)) late = (t.number < 2 ^ 60) × (late ≡ 0)
GoesEarly (Waiting t (Parked (E3 v))) late = (t.number < 2 ^ 60) × (late ≡ 0)
GoesEarly _ late = Unit {0}

-- the seat stands at another place
abbrev pub at_place : ListPlace → ListSeat → ListSeat
at_place place a = record a { place = place }

-- the seat waits with the ticket that it holds; one that holds none stands as before
abbrev pub waiting : ListSeat → ListSeat
waiting a = with_ticket a a.ticket

-- a parked seat gives up its sleep; another stands as before
abbrev pub leaving_at : ListPlace → ListPlace
leaving_at (Waiting t (Parked P)) = Waiting t (Parked E1)
leaving_at place = place

abbrev pub giving_up : ListSeat → ListSeat
giving_up a = at_place (leaving_at a.place) a

-- a seat that stands like the first may run the row at which the second stands: it stands there, begins a call,
-- or gives up its sleep
pub data Begins (a : ListSeat) : ListSeat → Type 0 where
  stands : Begins a a
  adds : is_free a.place ≡ true → a.ticket ≡ None → Begins a (at_place Adding a)
  ones : is_free a.place ≡ true → Begins a (at_place (NotifyingOne 0 O1) a)
  alls : is_free a.place ≡ true → Begins a (at_place (NotifyingAll 0 L1) a)
  waits : {t : Ticket} → a.place ≡ Rest → a.ticket ≡ Some t → Begins a (waiting a)
  leaves : {t : Ticket} → a.place ≡ Waiting t (Parked P) → t.number < 2 ^ 60 → a.late ≡ 0
      → Begins a (at_place (Waiting t (Parked E1)) a)

-- the row takes the lock
abbrev pub takes_lock : ListPlace → Bool
takes_lock (Waiting t W1) = true
takes_lock (NotifyingOne h O3) = true
takes_lock (NotifyingAll h L3) = true
takes_lock _ = false

-- where it leads
abbrev pub locked : ListPlace → ListPlace
locked (Waiting t W1) = Waiting t W2
locked (NotifyingOne h O3) = NotifyingOne h O4
locked (NotifyingAll h L3) = NotifyingAll h L4
locked place = place
