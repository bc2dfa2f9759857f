-- The invariant of the rows of a notify list.
use Rattle.std.specs.Prelude.{◌≡◌, ◌⊎◌, ℕ, zero, ◌+◌, ◌<◌, ◌≤◌, ◌^◌, List, [], ◌∷◌, map, length, Option, Some, None}
use Rattle.waiters.specs.declared.wait.Wait.{Wait}
use Rattle.step_table.specs.declared.list_place.AllRow.TheVariants.{L2, L3, L4, L5, L6, L7, L8}
use Rattle.step_table.specs.declared.list_place.ListPlace.{ListPlace}
use Rattle.step_table.specs.declared.list_place.ListPlace.TheVariants.{Adding, Waiting, NotifyingOne}
use Rattle.step_table.specs.declared.list_place.ListPlace.TheVariants.{NotifyingAll}
use Rattle.step_table.specs.declared.list_place.OneRow.TheVariants.{O2, O3, O4, O5, O6, O7, O8, O9}
use Rattle.step_table.specs.declared.list_place.Ticket.{Ticket}
use Rattle.step_table.specs.declared.list_place.WaitRow.TheVariants.{W1, W2, W3, W4, E4, Parked}
use Rattle.step_table.specs.declared.list_place.ListParkedRow.{ListParkedRow}
use Rattle.step_table.specs.declared.list_place.ListParkedRow.TheVariants.{E3}
use Rattle.step_table.specs.Counting.{on, same, total, among}
use Rattle.step_table.specs.Wrapping.{word_of}
use Rattle.step_table.specs.ListWorld.{Numbers, ListWords, ListSeat, ListEntry, ListWorld}
use Rattle.step_table.specs.ListTable.{wait_for}
use Rattle.step_law_lists.specs.ListLawful.{told, Follows, LockHeld, TicketsHeld, times, standing, GrantsHeld}
use Rattle.step_law_lists.specs.ListLawful.{NoneLate, IsPlacedAt, times_forgone, times_granted, last_granted}

-- the words are those of the numbers
abbrev pub WordsTell : ℕ → ListWords → Type 0
WordsTell first g =
    (g.wait ≡ word_of first g.numbers.handed)
    × (g.notify ≡ word_of first g.numbers.passed)
    × (g.numbers.passed ≤ g.numbers.handed)
    × (g.gone ≡ map (word_of first) g.numbers.gone)

-- each number is less than all that come after it
abbrev pub IsRising : List ℕ → Type 0
IsRising [] = Unit {0}
IsRising (m ∷ l) = ((n : ℕ) → 0 < among n l → m < n) × IsRising l

-- 1 where the seat k is parked with the wait w and wasn't granted
abbrev pub awaits : Wait → ℕ → ListPlace → ℕ → ℕ
awaits w k (Waiting t (Parked row)) zero = on w.ticket t.word (same w.id (wait_for k t).id)
awaits w k _ grant = 0

-- a wait stands in the list and in hands as often as a parked seat awaits it
abbrev pub WaitsPlaced : ℕ → ListWorld → Type 0
WaitsPlaced seats s =
    (w : Wait) → standing seats s w ≡ total seats (λ k. awaits w k (s.seats k).place (s.words.grants k))

-- every wait of the list has a ticket below number m
abbrev pub AllBelow : ℕ → List Wait → Type 0
AllBelow m l = (w : Wait) → 0 < times w l → w.id.turn < m

-- the ticket is one that was handed out
abbrev pub IsTicket : ℕ → ListWords → Ticket → Type 0
IsTicket first g t = (t.word ≡ word_of first t.number) × (t.number < g.numbers.handed)

-- what a seat that leaves has read under the lock still stands
abbrev pub ReadsNotify : ListWords → ListParkedRow → Type 0
ReadsNotify g (E3 v) = v ≡ g.notify
ReadsNotify g _ = Unit {0}

-- what the seat k knows: a word that it read is that of a number that was reached, and what it read under the
-- lock still stands. A notification knows that the h tickets of its first look were handed out, and in the
-- end that they are granted
abbrev pub Knows : ℕ → ListWords → ℕ → ListPlace → ℕ → Type 0
Knows first g k (Waiting t W1) late = IsTicket first g t
Knows first g k (Waiting t W2) late = IsTicket first g t
Knows first g k (Waiting t W3) late = IsTicket first g t × (t.number < g.numbers.passed)
Knows first g k (Waiting t W4) late = IsTicket first g t × (late ≡ 0 → g.numbers.passed ≤ t.number)
Knows first g k (Waiting t (Parked row)) late =
    IsTicket first g t × (0 < g.grants k → t.number < g.numbers.passed) × IsPlacedAt g k t row × ReadsNotify g row
Knows first g k (NotifyingOne h (O2 a)) late = (a ≡ word_of first h) × (h ≤ g.numbers.handed)
Knows first g k (NotifyingOne h O3) late = h ≤ g.numbers.handed
Knows first g k (NotifyingOne h O4) late = h ≤ g.numbers.handed
Knows first g k (NotifyingOne h (O5 t)) late = (t ≡ g.notify) × (h ≤ g.numbers.handed)
Knows first g k (NotifyingOne h O6) late = h ≤ g.numbers.passed
Knows first g k (NotifyingOne h (O7 t)) late =
    (t ≡ g.notify) × (h ≤ g.numbers.handed) × (g.numbers.passed < g.numbers.handed)
Knows first g k (NotifyingAll h (L2 a)) late = (a ≡ word_of first h) × (h ≤ g.numbers.handed)
Knows first g k (NotifyingAll h L3) late = h ≤ g.numbers.handed
Knows first g k (NotifyingAll h L4) late = h ≤ g.numbers.handed
Knows first g k (NotifyingAll h (L5 t)) late = (t ≡ g.notify) × (h ≤ g.numbers.handed)
Knows first g k (NotifyingAll h (L6 r)) late =
    (r.notified ≡ g.notify) × (r.waited ≡ word_of first r.handed)
    × (g.numbers.passed ≤ r.handed) × (r.handed ≤ g.numbers.handed)
    × (h ≤ r.handed) × AllBelow r.handed g.queue
    × ((n : ℕ) → 0 < among n g.numbers.gone → n < r.handed)
Knows first g k (NotifyingAll h (L7 n)) late = (h ≤ g.numbers.passed) × AllBelow g.numbers.passed g.queue
Knows first g k (NotifyingAll h L8) late = h ≤ g.numbers.passed
Knows first g k _ late = Unit {0}

-- how many waits a seat has in hand
abbrev pub HandFits : ListPlace → ℕ → Type 0
HandFits (NotifyingOne h O9) n = n ≡ 1
HandFits (NotifyingAll h L8) n = 0 < n
HandFits _ n = n ≡ 0

-- a seat that takes a ticket or waits with one holds none beside it
abbrev pub TicketFits : ListPlace → Option Ticket → Type 0
TicketFits Adding held = held ≡ None
TicketFits (Waiting t row) held = held ≡ None
TicketFits _ held = Unit {0}

-- the ticket that a seat holds is one that was handed out
abbrev pub HeldTicket : ℕ → ListWords → Option Ticket → Type 0
HeldTicket first g None = Unit {0}
HeldTicket first g (Some t) = IsTicket first g t

-- what is known of the seat k: the waits in its hand are passed
pub record IsListSeat (first : ℕ) (g : ListWords) (k : ℕ) (seat : ListSeat) : Type 0 where
  pub fits : HandFits seat.place (length seat.hand)
  pub granted : AllBelow g.numbers.passed seat.hand
  pub only : TicketFits seat.place seat.ticket
  pub held : HeldTicket first g seat.ticket
  pub knows : Knows first g k seat.place seat.late

-- the wait, which is in the list, may have been granted by the seat at this place, which holds the lock
abbrev pub MayGrant : List ListEntry → Wait → ListPlace → Type 0
MayGrant journal w (NotifyingOne h (O8 t)) = w.id.turn + 1 ≡ last_granted journal
MayGrant journal w (NotifyingAll h (L7 n)) = Unit {0}
MayGrant journal w _ = ⊥

-- where no seat has looked at a late ticket, a wait in the list isn't granted but by a call that holds the
-- lock
abbrev pub QueuedFresh : ℕ → ListWorld → Type 0
QueuedFresh seats s =
    NoneLate seats s → (w : Wait) → 0 < times w s.words.queue
    → (times_granted w.id.turn s.journal ≡ 0)
    ⊎ ((k : ℕ) × (k < seats) × MayGrant s.journal w (s.seats k).place)

-- what the journal tells of what a seat that holds the lock has done: its ticket has gone; or it has granted the
-- ticket whose wait it takes out, which was passed not long ago
abbrev pub Recalls : ℕ → List ListEntry → Numbers → ListPlace → Type 0
Recalls first journal numbers (Waiting t E4) =
    (t.word ≡ word_of first t.number) × (times_forgone t.number journal ≡ 1)
Recalls first journal numbers (NotifyingOne h (O8 t)) =
    (m : ℕ) × (t ≡ word_of first m) × (last_granted journal ≡ m + 1) × (m < numbers.passed)
    × (numbers.passed ≤ m + 2 ^ 63)
Recalls first journal numbers _ = Unit {0}

-- the invariant. The gone tickets are in order: in another, the same ones would make another world
pub record IsListInvariant (first seats : ℕ) (s : ListWorld) : Type 0 where
  pub lock : LockHeld seats s
  pub words : WordsTell first s.words
  pub rising : IsRising s.words.numbers.gone
  pub tickets : TicketsHeld seats s.seats s.words.numbers s.journal
  pub placed : WaitsPlaced seats s
  pub grants : GrantsHeld s
  pub seats_known : (k : ℕ) → k < seats → IsListSeat first s.words k (s.seats k)
  pub fresh : QueuedFresh seats s
  pub recalls : (k : ℕ) → k < seats → Recalls first s.journal s.words.numbers (s.seats k).place
  pub numbers : s.words.numbers ≡ told s.journal
  pub follows : Follows s.journal
