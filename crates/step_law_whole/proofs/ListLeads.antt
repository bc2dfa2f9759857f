-- Where the rows of a notify list lead: to a row of the same call, or to its end.
use Rattle.std.proofs.Common.{◌≢◌, ℕ, refl, Bool, true, false, if◌then◌else◌, ◌==◌, nat_lt, List, [], ◌∷◌, length, Option, Some, None}
use Rattle.waiters.specs.declared.wait.Wait.{Wait}
use Rattle.waiters.specs.Lists.{first_with}
use Rattle.step_table.specs.Wrapping.{less}
use Rattle.step_table.specs.declared.list_place.AllRow.{AllRow}
use Rattle.step_table.specs.declared.list_place.AllRow.TheVariants.{L1, L2, L3, L4, L5, L6, L7, L8}
use Rattle.step_table.specs.declared.list_place.ListEffect.TheVariants.{Nothing, TakesOut}
use Rattle.step_table.specs.declared.list_place.ListParkedRow.TheVariants.{P, E1, E2, E3, E5}
use Rattle.step_table.specs.declared.list_place.ListPlace.{ListPlace}
use Rattle.step_table.specs.declared.list_place.ListPlace.TheVariants.{Rest, Adding, Waiting, NotifyingOne, NotifyingAll}
use Rattle.step_table.specs.declared.list_place.OneRow.{OneRow}
use Rattle.step_table.specs.declared.list_place.OneRow.TheVariants.{O1, O2, O3, O4, O5, O6, O7, O8, O9}
use Rattle.step_table.specs.declared.list_place.Ticket.{Ticket}
use Rattle.step_table.specs.declared.list_place.WaitRow.{WaitRow}
use Rattle.step_table.specs.declared.list_place.WaitRow.TheVariants.{W1, W2, W3, W4, E4, Parked}
use Rattle.step_table.specs.declared.standing.Ending.{Ending}
use Rattle.step_table.specs.declared.standing.Ending.TheVariants.{NextCall, MayGiveUp, GaveUp, GivesBack}
use Rattle.step_table.specs.ListWorld.{ListWords, ListSeat, is_queued}
use Rattle.step_table.specs.ListEvent.{ListNext, by_found, if_any}
use Rattle.step_table.specs.ListTable.{list_event_at}
use Rattle.step_law_whole.specs.CoreLaw.{IsListCallBefore}

-- a place of the same call, or rest
abbrev pub IsSameListCall : ListPlace → ListPlace → Type 0
IsSameListCall p Rest = Unit {0}
IsSameListCall (Waiting t row) (Waiting u next) = Unit {0}
IsSameListCall (NotifyingOne h row) (NotifyingOne j next) = Unit {0}
IsSameListCall (NotifyingAll h row) (NotifyingAll j next) = Unit {0}
IsSameListCall _ _ = ⊥

either : (Has : ListPlace → Type 0) (b : Bool) (p q : ListPlace) → Has p → Has q → Has (if b then p else q)
either Has true p q first second = first
either Has false p q first second = second

module _ (i : ℕ) (seat : ListSeat) (g : ListWords) (v : ℕ) where
  waits : (t : Ticket) (row : WaitRow) → IsSameListCall (Waiting t row) ((list_event_at i seat g (Waiting t row)).leads v).0
  waits t W1 = tt
  waits t W2 = either (IsSameListCall (Waiting t W2)) (less t.word v) (Waiting t W3) (Waiting t W4) tt tt
  waits t W3 = tt
  waits t W4 = tt
  waits t E4 = tt
  waits t (Parked P) = tt
  waits t (Parked E1) =
      either (IsSameListCall (Waiting t (Parked E1))) (is_queued i g.queue) (Waiting t (Parked E2)) (Waiting t (Parked E5)) tt tt
  waits t (Parked E2) = tt
  waits t (Parked (E3 w)) = tt
  waits t (Parked E5) = tt

  notifies_one : (h : ℕ) (row : OneRow) → IsSameListCall (NotifyingOne h row) ((list_event_at i seat g (NotifyingOne h row)).leads v).0
  notifies_one h (O2 a) = either (IsSameListCall (NotifyingOne h (O2 a))) (a == v) Rest (NotifyingOne h O3) tt tt
  notifies_one h (O5 t) = either (IsSameListCall (NotifyingOne h (O5 t))) (v == t) (NotifyingOne h O6) (NotifyingOne h (O7 t)) tt tt
  notifies_one h (O8 t) = by (first_with t g.queue)
    where
      by : (w : Option Wait) → IsSameListCall (NotifyingOne h (O8 t)) (by_found {A = ListNext} w (Rest, Nothing) (λ w. (NotifyingOne h O9, TakesOut t))).0
      by None = tt
      by (Some w) = tt
  notifies_one h O1 = tt
  notifies_one h O3 = tt
  notifies_one h O4 = tt
  notifies_one h O6 = tt
  notifies_one h (O7 t) = tt
  notifies_one h O9 = tt

  notifies_all : (h : ℕ) (row : AllRow) → IsSameListCall (NotifyingAll h row) ((list_event_at i seat g (NotifyingAll h row)).leads v).0
  notifies_all h (L2 a) = either (IsSameListCall (NotifyingAll h (L2 a))) (a == v) Rest (NotifyingAll h L3) tt tt
  notifies_all h (L7 n) = by g.queue
    where
      by : (queue : List Wait) → IsSameListCall (NotifyingAll h (L7 n)) (if_any queue (NotifyingAll h L8) Rest)
      by [] = tt
      by (w ∷ queue) = tt
  notifies_all h L8 = either (IsSameListCall (NotifyingAll h L8)) (nat_lt 1 (length seat.hand)) (NotifyingAll h L8) Rest tt tt
  notifies_all h L1 = tt
  notifies_all h L3 = tt
  notifies_all h L4 = tt
  notifies_all h (L5 t) = tt
  notifies_all h (L6 r) = tt

  pub list_leads_on : (p : ListPlace) → IsSameListCall p ((list_event_at i seat g p).leads v).0
  list_leads_on Rest = tt
  list_leads_on Adding = tt
  list_leads_on (Waiting t row) = waits t row
  list_leads_on (NotifyingOne h row) = notifies_one h row
  list_leads_on (NotifyingAll h row) = notifies_all h row

-- what ends a call ends it at each of its places
pub same_ending : (ending : Ending) (p q : ListPlace) → IsListCallBefore ending p → IsSameListCall p q → q ≢ Rest → IsListCallBefore ending q
same_ending NextCall p q before same awake = awake
same_ending ending p Rest before same awake = absurd (awake refl)
same_ending (MayGiveUp how) (Waiting t row) (Waiting u next) before same awake = tt
same_ending (GaveUp how) (Waiting t row) (Waiting u next) before same awake = tt
same_ending (GivesBack skips) (NotifyingOne h row) (NotifyingOne j next) before same awake = tt
same_ending (MayGiveUp how) (Waiting t row) _ before same awake = absurd same
same_ending (GaveUp how) (Waiting t row) _ before same awake = absurd same
same_ending (GivesBack skips) (NotifyingOne h row) _ before same awake = absurd same
same_ending _ _ _ before same awake = absurd before
