-- Where a changed table leads, a seat stands as well as where the table leads: only what has been seen, and the count of
-- waiter words, can tell the places apart.
use Rattle.std.proofs.Common.{◌≡◌, ℕ, Bool, true, false, if◌then◌else◌, nat_lt, List, Option, refl}
use Rattle.waiters.specs.declared.wait.Wait.{Wait}
use Rattle.waiters.specs.declared.wait.WaitId.{WaitId}
use Rattle.step_table.specs.declared.list_place.ListPlace.{ListPlace}
use Rattle.step_table.specs.declared.list_place.ListPlace.TheVariants.{Waiting}
use Rattle.step_table.specs.declared.list_place.Ticket.{Ticket}
use Rattle.step_table.specs.declared.list_place.WaitRow.{WaitRow}
use Rattle.step_table.specs.declared.list_place.WaitRow.TheVariants.{W2, W3, W4}
use Rattle.step_table.specs.declared.place.Acquire.{Acquire}
use Rattle.step_table.specs.declared.place.AcquireRow.{AcquireRow}
use Rattle.step_table.specs.declared.place.AcquireRow.TheVariants.{A3, A4, A5, A6, A7, A8, A9}
use Rattle.step_table.specs.declared.place.Place.{Place}
use Rattle.step_table.specs.declared.place.Place.TheVariants.{Acquiring}
use Rattle.step_table.specs.declared.place.Place.TheVariants as on_counter
use Rattle.step_table.specs.declared.list_place.ListPlace.TheVariants as on_list
use Rattle.step_table.specs.declared.standing.After.{After}
use Rattle.step_table.specs.declared.standing.After.TheVariants.{Closes, LooksAgain, Releases}
use Rattle.step_table.specs.declared.standing.Ending.{Ending}
use Rattle.step_table.specs.declared.standing.Ending.TheVariants.{NextCall, MayGiveUp, GaveUp, GivesBack}
use Rattle.step_law_alike.specs.declared.variant.Variant.{Variant}
use Rattle.step_law_alike.specs.declared.variant.Variant.TheVariants.{NoLook, LateCount, PlainLess}
use Rattle.step_law_semaphores.specs.Lawful.{holds, IsGrantOf}
use Rattle.step_table.specs.Counting.{counter_at, IsWithin}
use Rattle.step_law_semaphores.specs.Invariant.{awaits, asleep, owing, HandFits, Finds}
use Rattle.step_table.specs.ListWorld.{ListWords}
use Rattle.step_law_lists.specs.ListLawful as lists
use Rattle.step_law_lists.specs.ListInvariant as list
use Rattle.step_table.specs.Core.{CoreLayout}
use Rattle.step_law_whole.specs.CoreLaw.{IsCallBefore, IsListCallBefore, IsPatient, IsQueuedOn}
use Rattle.step_law_whole.specs.RunInvariant.{to_add, to_take, has_ticket}
use Rattle.step_law_alike.specs.Changed.{changed_row, changed_place, changed_wait_row, changed_list_place}
use Rattle.step_law_lists.specs.ListWellFormed.{StillReads, WaitFits}
use Rattle.step_law_whole.proofs.CoreKeeping.{stays_in}

-- two places between which a change of the table leads
pub data ChangesTo : Place → Place → Type 0 where
  same : {p : Place} → ChangesTo p p
  skips_look : {a : Acquire} → ChangesTo (Acquiring a A5) (Acquiring a A7)
  looks_first : {a : Acquire} → ChangesTo (Acquiring a A4) (Acquiring a A5)
  counts_late : {a : Acquire} → ChangesTo (Acquiring a A7) (Acquiring a A4)
  lowers_none : {a : Acquire} → ChangesTo (Acquiring a A8) (Acquiring a A9)

row_changes : (v : Variant) (b : Acquire) (from next : AcquireRow) → ChangesTo (Acquiring b next) (Acquiring b (changed_row v from next))
row_changes NoLook b A4 A5 = skips_look
row_changes LateCount b A3 A4 = looks_first
row_changes LateCount b A5 A7 = counts_late
row_changes LateCount b A4 A5 = skips_look
row_changes LateCount b (A6 left) A8 = lowers_none
row_changes v b from next = same

pub changes : (v : Variant) (from next : Place) → ChangesTo next (changed_place v from next)
changes v (Acquiring a from) (Acquiring b next) = row_changes v b from next
changes v from next = same

-- what of a place the invariant of form and bounds looks at
pub record IsAsGood (p q : Place) : Type 0 where
  pub holds : (root : ℕ → ℕ) (r : ℕ) → holds root r q ≡ holds root r p
  pub counter : counter_at q ≡ counter_at p
  pub awaits : (c : ℕ) (w : WaitId) (k grant : ℕ) → awaits c w k q grant ≡ awaits c w k p grant
  pub asleep : (grant : ℕ) → asleep q grant ≡ asleep p grant
  pub owing : (n : ℕ) → owing q n ≡ owing p n
  pub to_add : to_add q ≡ to_add p
  pub within : (n : ℕ) → IsWithin n p → IsWithin n q
  pub fits : (n : ℕ) → HandFits p n → HandFits q n
  pub granted : (grant : ℕ) → IsGrantOf p grant → IsGrantOf q grant
  pub finds : (k : ℕ) (waits : ℕ → List WaitId) → Finds k waits p → Finds k waits q
  pub call : (m : CoreLayout) (after : After) → IsCallBefore m after p → IsCallBefore m after q
  pub queued : (m : CoreLayout) (g : ℕ) → IsQueuedOn m g p → IsQueuedOn m g q
  pub rest : p ≡ on_counter.Rest → q ≡ on_counter.Rest

call_at : (m : CoreLayout) (after : After) (a : Acquire) (row next : AcquireRow) → (IsPatient row → IsPatient next)
    → IsCallBefore m after (Acquiring a row) → IsCallBefore m after (Acquiring a next)
call_at m (Closes NextCall) a row next still is = ((λ e. cc), is.1)
call_at m (Closes (MayGiveUp how)) a row next still is = is
call_at m (Closes (GaveUp how)) a row next still is = is
call_at m (Closes (GivesBack skips)) a row next still is = is
call_at m (LooksAgain g ending) a row next still is = (is.0, is.1, is.2, stays_in ending row next still is.3)
call_at m (Releases g more) a row next still is = is

pub as_good : {p q : Place} → ChangesTo p q → IsAsGood p q
as_good same = record {
  holds = λ root r. refl;
  counter = refl;
  awaits = λ c w k grant. refl;
  asleep = λ grant. refl;
  owing = λ n. refl;
  to_add = refl;
  within = λ n is. is;
  fits = λ n is. is;
  granted = λ grant is. is;
  finds = λ k waits is. is;
  call = λ m after is. is;
  queued = λ m g is. is;
  rest = λ e. e;
}
as_good (skips_look {a = a}) = record {
  holds = λ root r. refl;
  counter = refl;
  awaits = λ c w k grant. refl;
  asleep = λ grant. refl;
  owing = λ n. refl;
  to_add = refl;
  within = λ n is. is;
  fits = λ n is. is;
  granted = λ grant is. is;
  finds = λ k waits is. is;
  call = λ m after is. call_at m after a A5 A7 (λ still. tt) is;
  queued = λ m g is. is;
  rest = λ e. cc;
}
as_good (looks_first {a = a}) = record {
  holds = λ root r. refl;
  counter = refl;
  awaits = λ c w k grant. refl;
  asleep = λ grant. refl;
  owing = λ n. refl;
  to_add = refl;
  within = λ n is. is;
  fits = λ n is. is;
  granted = λ grant is. is;
  finds = λ k waits is. is;
  call = λ m after is. call_at m after a A4 A5 (λ still. tt) is;
  queued = λ m g is. is;
  rest = λ e. cc;
}
as_good (counts_late {a = a}) = record {
  holds = λ root r. refl;
  counter = refl;
  awaits = λ c w k grant. refl;
  asleep = λ grant. refl;
  owing = λ n. refl;
  to_add = refl;
  within = λ n is. is;
  fits = λ n is. is;
  granted = λ grant is. is;
  finds = λ k waits is. is;
  call = λ m after is. call_at m after a A7 A4 (λ still. tt) is;
  queued = λ m g is. is;
  rest = λ e. cc;
}
as_good (lowers_none {a = a}) = record {
  holds = λ root r. refl;
  counter = refl;
  awaits = λ c w k grant. refl;
  asleep = λ grant. refl;
  owing = λ n. refl;
  to_add = refl;
  within = λ n is. is;
  fits = λ n is. is;
  granted = λ grant is. is;
  finds = λ k waits is. is;
  call = λ m after is. call_at m after a A8 A9 (λ still. tt) is;
  queued = λ m g is. is;
  rest = λ e. cc;
}

-- the same of a list
pub data ListChangesTo : ListPlace → ListPlace → Type 0 where
  same_place : {p : ListPlace} → ListChangesTo p p
  parks : {t : Ticket} → ListChangesTo (Waiting t W3) (Waiting t W4)
  returns : {t : Ticket} → ListChangesTo (Waiting t W4) (Waiting t W3)

from_w3 : (t : Ticket) (b : Bool) → ListChangesTo (Waiting t W3) (Waiting t (if b then W3 else W4))
from_w3 t true = same_place
from_w3 t false = parks

from_w4 : (t : Ticket) (b : Bool) → ListChangesTo (Waiting t W4) (Waiting t (if b then W3 else W4))
from_w4 t true = returns
from_w4 t false = same_place

wait_changes : (v : Variant) (t : Ticket) (ticket notify : ℕ) (from next : WaitRow)
    → ListChangesTo (Waiting t next) (Waiting t (changed_wait_row v ticket notify from next))
wait_changes PlainLess t ticket notify W2 W3 = from_w3 t (nat_lt ticket notify)
wait_changes PlainLess t ticket notify W2 W4 = from_w4 t (nat_lt ticket notify)
wait_changes v t ticket notify from next = same_place

pub list_changes : (v : Variant) (notify : ℕ) (from next : ListPlace) → ListChangesTo next (changed_list_place v notify from next)
list_changes v notify (Waiting t from) (Waiting u next) = wait_changes v u t.word notify from next
list_changes v notify from next = same_place

pub record IsAsGoodOnList (p q : ListPlace) : Type 0 where
  pub holds : lists.holds q ≡ lists.holds p
  pub awaits : (w : Wait) (k grant : ℕ) → list.awaits w k q grant ≡ list.awaits w k p grant
  pub to_take : to_take q ≡ to_take p
  pub has : (ticket : Option Ticket) → has_ticket q ticket ≡ has_ticket p ticket
  pub fits : (n : ℕ) → list.HandFits p n → list.HandFits q n
  pub only : (ticket : Option Ticket) → list.TicketFits p ticket → list.TicketFits q ticket
  pub granted : (grant : ℕ) → lists.IsGrantOf p grant → lists.IsGrantOf q grant
  pub reads : (first : ℕ) (g : ListWords) → StillReads first g p → StillReads first g q
  pub waits : (first : ℕ) (g : ListWords) (k : ℕ) → WaitFits first g k p → WaitFits first g k q
  pub call : (ending : Ending) → IsListCallBefore ending p → IsListCallBefore ending q
  pub still : p ≡ on_list.Rest → q ≡ on_list.Rest

has_none : (t : Ticket) (row next : WaitRow) (ticket : Option Ticket) → has_ticket (Waiting t row) ticket ≡ has_ticket (Waiting t next) ticket
has_none t row next Rattle.std.specs.Prelude.None = refl
has_none t row next (Rattle.std.specs.Prelude.Some u) = refl

wait_call : (t : Ticket) (row next : WaitRow) (ending : Ending) → IsListCallBefore ending (Waiting t row) → IsListCallBefore ending (Waiting t next)
wait_call t row next NextCall is = λ e. cc
wait_call t row next (MayGiveUp how) is = tt
wait_call t row next (GaveUp how) is = tt
wait_call t row next (GivesBack skips) is = is

pub as_good_on_list : {p q : ListPlace} → ListChangesTo p q → IsAsGoodOnList p q
as_good_on_list same_place = record {
  holds = refl;
  awaits = λ w k grant. refl;
  to_take = refl;
  has = λ ticket. refl;
  fits = λ n is. is;
  only = λ ticket is. is;
  granted = λ grant is. is;
  reads = λ first g is. is;
  waits = λ first g k is. is;
  call = λ ending is. is;
  still = λ e. e;
}
as_good_on_list (parks {t = t}) = record {
  holds = refl;
  awaits = λ w k grant. refl;
  to_take = refl;
  has = λ ticket. has_none t W4 W3 ticket;
  fits = λ n is. is;
  only = λ ticket is. is;
  granted = λ grant is. is;
  reads = λ first g is. is;
  waits = λ first g k is. is;
  call = λ ending is. wait_call t W3 W4 ending is;
  still = λ e. cc;
}
as_good_on_list (returns {t = t}) = record {
  holds = refl;
  awaits = λ w k grant. refl;
  to_take = refl;
  has = λ ticket. has_none t W3 W4 ticket;
  fits = λ n is. is;
  only = λ ticket is. is;
  granted = λ grant is. is;
  reads = λ first g is. is;
  waits = λ first g k is. is;
  call = λ ending is. wait_call t W4 W3 ending is;
  still = λ e. cc;
}
