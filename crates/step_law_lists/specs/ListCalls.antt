-- What calls on a notify list may conclude, late tickets or not.
use Rattle.std.specs.Prelude.{◌≡◌, ℕ, ◌+◌, ◌-◌, ◌<◌, ◌≤◌, ◌≢◌, ◌⊎◌, List, ◌++◌, length, cond, false, Some, None, ◌^◌}
use Rattle.waiters.specs.declared.wait.Wait.{Wait}
use Rattle.waiters.specs.Lists.{first_with}
use Rattle.step_table.specs.declared.list_place.AllRow.TheVariants.{L2, L6, L7, L8}
use Rattle.step_table.specs.declared.list_place.ListEffect.TheVariants.{Grants}
use Rattle.step_table.specs.declared.list_place.ListPlace.{ListPlace}
use Rattle.step_table.specs.declared.list_place.ListPlace.TheVariants.{Rest, Waiting, NotifyingOne}
use Rattle.step_table.specs.declared.list_place.ListPlace.TheVariants.{NotifyingAll}
use Rattle.step_table.specs.declared.list_place.OneRow.TheVariants.{O2, O6, O7, O8}
use Rattle.step_table.specs.declared.list_place.Reach.{Reach}
use Rattle.step_table.specs.declared.list_place.Ticket.{Ticket}
use Rattle.step_table.specs.declared.list_place.WaitRow.TheVariants.{W3, E4, Parked}
use Rattle.step_table.specs.declared.list_place.ListParkedRow.TheVariants.{P}
use Rattle.step_table.specs.Wrapping.{word_of, minus}
use Rattle.step_table.specs.Counting.{total}
use Rattle.step_table.specs.ListWorld.{ListEntry, ListWorld, is_gone}
use Rattle.step_table.specs.ListSteps.{Leads, IsListReached, effect_of}
use Rattle.step_law_lists.specs.ListLawful.{told, times, NoneLate, times_granted, times_forgone, last_granted}
use Rattle.step_law_lists.specs.ListLawful.{NeverFar, IsInReach, LeftInTime, leaves}

-- the ticket's wait returns with the seat's next row: it was found granted, or woken
abbrev pub Returns : ListWorld → ℕ → Ticket → Type 0
Returns s k t =
    ((s.seats k).place ≡ Waiting t W3) ⊎ (((s.seats k).place ≡ Waiting t (Parked P)) × (0 < s.words.grants k))

-- the ticket's wait ends with the seat's next row: it has left
abbrev pub Leaves : ListWorld → ℕ → Ticket → Type 0
Leaves s k t = (s.seats k).place ≡ Waiting t E4

-- the seat's notification ends for want of a ticket to grant, or has granted all: it found two equal words,
-- without the lock or under it, or has stored the wait word. At its first look h tickets were handed out
pub data Concludes (s : ListWorld) : ListPlace → ℕ → Type 0 where
  one_equal : (h a : ℕ) → a ≡ s.words.notify → Concludes s (NotifyingOne h (O2 a)) h
  one_locked : (h : ℕ) → Concludes s (NotifyingOne h O6) h
  all_equal : (h a : ℕ) → a ≡ s.words.notify → Concludes s (NotifyingAll h (L2 a)) h
  all_stored : (h n : ℕ) → Concludes s (NotifyingAll h (L7 n)) h
  all_given : (h : ℕ) → Concludes s (NotifyingAll h L8) h

-- how many tickets there are from number `least` on, so many in all, that aren't gone
abbrev pub still_waiting : ℕ → ℕ → List ℕ → ℕ
still_waiting least many gone = total many (λ n. cond {A = ℕ} (is_gone (least + n) gone) 0 1)

-- a notification of all that reaches so far passes `minus waited notified` tickets: those handed out up to
-- its read of the wait word that weren't passed. It grants those of them that aren't gone
abbrev pub Reaches : ℕ → ListWorld → ℕ → Reach → Type 0
Reaches first s h r =
    (minus r.waited r.notified + (told s.journal).passed ≡ r.handed)
    × (r.notified ≡ word_of first (told s.journal).passed)
    × (r.waited ≡ word_of first r.handed)
    × (r.handed ≤ (told s.journal).handed)
    × (h ≤ r.handed)
    × (minus r.waited r.notified - length s.words.gone
    ≡ still_waiting (told s.journal).passed (minus r.waited r.notified) (told s.journal).gone)

-- what holds of the calls of each world
pub record CallsConclude (first seats : ℕ) (s : ListWorld) : Type 0 where
  -- no more tickets are outstanding than there are seats, and tickets that are gone between them
  pub few : (told s.journal).handed ≤ (told s.journal).passed + seats + length (told s.journal).gone
  -- no ticket is taken back: as many are handed out as at any beginning of the journal, or more
  pub grows : (before after : List ListEntry) → s.journal ≡ before ++ after
      → (told before).handed ≤ (told s.journal).handed
  -- a wait that returns has its ticket granted
  pub returned : (k : ℕ) (t : Ticket) → k < seats → Returns s k t
      → (t.word ≡ word_of first t.number) × (t.number < (told s.journal).passed)
      × (times_granted t.number s.journal ≡ 1)
  -- one that has left has a ticket that is gone, and wasn't granted
  pub left : (k : ℕ) (t : Ticket) → k < seats → Leaves s k t
      → (t.word ≡ word_of first t.number) × (times_forgone t.number s.journal ≡ 1)
      × (times_granted t.number s.journal ≡ 0)
  -- a notification that ends has the tickets of its first look passed: each is granted or gone
  pub notified : (k h : ℕ) → k < seats → Concludes s (s.seats k).place h → h ≤ (told s.journal).passed
  -- a notification of all passes as many as the difference of the words that it read
  pub reached : (k h : ℕ) (r : Reach) → k < seats → (s.seats k).place ≡ NotifyingAll h (L6 r)
      → Reaches first s h r
  -- the notify word isn't at a gone ticket
  pub at_left : is_gone s.words.notify s.words.gone ≡ false

-- a row grants the least ticket that is neither granted nor gone alone, or all such that were handed out when L5
-- read the wait word
abbrev pub GrantsLeast : ℕ → ListWorld → ℕ → Type 0
GrantsLeast first s i =
    (upto : ℕ) → effect_of s i ≡ Grants upto
    → ((h : ℕ) × (t : ℕ) × ((s.seats i).place ≡ NotifyingOne h (O7 t))
    × (upto ≡ (told s.journal).passed + 1) × (t ≡ word_of first (told s.journal).passed))
    ⊎ ((h : ℕ) × (r : Reach) × ((s.seats i).place ≡ NotifyingAll h (L6 r)) × (upto ≡ r.handed))

-- a notification that a seat has begun since s, and that ends now, has all tickets passed that were handed
-- out at s: each is granted or gone
abbrev pub TellsSince : Type 0
TellsSince =
    (first seats k h : ℕ) (s t : ListWorld) → IsInReach t.journal → k < seats → IsListReached first seats s
    → (s.seats k).place ≡ Rest → Leads seats s t → Concludes t (t.seats k).place h
    → (told s.journal).handed ≤ (told t.journal).passed

-- a notification of one takes out the wait of the very ticket that it granted, and finds none only where that
-- wait isn't in the list
abbrev pub OwnTaken : ℕ → ListWorld → Type 0
OwnTaken seats s =
    (k h t : ℕ) → k < seats → (s.seats k).place ≡ NotifyingOne h (O8 t)
    → ((w : Wait) → first_with t s.words.queue ≡ Some w → w.id.turn + 1 ≡ last_granted s.journal)
    × (first_with t s.words.queue ≡ None → (w : Wait) → 0 < times w s.words.queue
    → w.id.turn + 1 ≢ last_granted s.journal)

-- and that where no seat has looked at a late ticket
abbrev pub TakesOwn : ℕ → ListWorld → Type 0
TakesOwn seats s = NoneLate seats s → OwnTaken seats s

-- no seat has looked at a late ticket before more than 2^63 tickets were handed out
abbrev pub EarlyNoneLate : Type 0
EarlyNoneLate =
    (first seats : ℕ) (s : ListWorld) → IsListReached first seats s
    → (told s.journal).handed ≤ 2 ^ 63 → NoneLate seats s × IsInReach s.journal

-- where no seat has looked at a late ticket, no ticket goes that was passed before
abbrev pub NoneLateInTime : Type 0
NoneLateInTime =
    (first seats : ℕ) (s : ListWorld) → IsListReached first seats s → NeverFar s.journal → NoneLate seats s
    → LeftInTime s.journal

-- a journal is in reach where seats and tickets that have gone are together at most 2^63, and no seat has looked at
-- a late ticket or none has left
abbrev pub FewInReach : Type 0
FewInReach =
    (first seats : ℕ) (s : ListWorld) → IsListReached first seats s → NoneLate seats s ⊎ (leaves s.journal ≡ 0)
    → seats + leaves s.journal ≤ 2 ^ 63 → IsInReach s.journal

-- where seats and tickets that have gone are together at most 2^63, the numbers handed out and passed were never
-- further apart
abbrev pub FewNeverFar : Type 0
FewNeverFar =
    (first seats : ℕ) (s : ListWorld) → IsListReached first seats s → LeftInTime s.journal
    → seats + leaves s.journal ≤ 2 ^ 63 → NeverFar s.journal
