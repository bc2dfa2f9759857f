-- Form and bounds of a notify list: what each run keeps, by the table or by a changed one.
use Rattle.std.specs.Prelude.{◌≡◌, ℕ, zero, ◌+◌, ◌<◌, ◌≤◌, ◌^◌, length}
use Rattle.step_table.specs.declared.list_place.AllRow.TheVariants.{L5, L6}
use Rattle.step_table.specs.declared.list_place.ListPlace.{ListPlace}
use Rattle.step_table.specs.declared.list_place.ListPlace.TheVariants.{Waiting, NotifyingOne, NotifyingAll}
use Rattle.step_table.specs.declared.list_place.OneRow.TheVariants.{O5, O7}
use Rattle.step_table.specs.declared.list_place.WaitRow.TheVariants.{Parked}
use Rattle.step_table.specs.declared.list_place.ListParkedRow.TheVariants.{E3}
use Rattle.step_table.specs.Counting.{total, among}
use Rattle.step_table.specs.Wrapping.{word_of}
use Rattle.step_table.specs.ListWorld.{ListWords, ListSeat, ListWorld}
use Rattle.step_law_lists.specs.ListLawful.{LockHeld, GrantsHeld, IsPlacedAt}
use Rattle.step_law_lists.specs.ListInvariant.{WordsTell, IsTicket, HandFits, TicketFits, HeldTicket}
use Rattle.step_law_lists.specs.ListInvariant as list

-- 1 where a seat at this place of a list is parked without a grant
abbrev pub asleep_on_list : ListPlace → ℕ → ℕ
asleep_on_list (Waiting t (Parked row)) zero = 1
asleep_on_list _ grant = 0

-- the waits in the list and in hands are as many as the seats that are parked without a grant
abbrev pub ListSleepersCounted : ℕ → ListWorld → Type 0
ListSleepersCounted seats s =
    length s.words.queue + total seats (λ k. length (s.seats k).hand)
    ≡ total seats (λ k. asleep_on_list (s.seats k).place (s.words.grants k))

-- what a notification, or a seat that leaves, has read under the lock still stands
abbrev pub StillReads : ℕ → ListWords → ListPlace → Type 0
StillReads first g (Waiting t (Parked (E3 v))) = v ≡ g.notify
StillReads first g (NotifyingOne h (O5 t)) = t ≡ g.notify
StillReads first g (NotifyingOne h (O7 t)) = (t ≡ g.notify) × (g.numbers.passed < g.numbers.handed)
StillReads first g (NotifyingAll h (L5 t)) = t ≡ g.notify
StillReads first g (NotifyingAll h (L6 r)) =
    (r.notified ≡ g.notify) × (r.waited ≡ word_of first r.handed) × (r.handed ≤ g.numbers.handed)
    × ((n : ℕ) → 0 < among n g.numbers.gone → n < r.handed)
StillReads first g _ = Unit {0}

-- the ticket with which the seat k waits is one that was handed out; and while it leaves, its wait stays in
-- the list, or isn't there
abbrev pub WaitFits : ℕ → ListWords → ℕ → ListPlace → Type 0
WaitFits first g k (Waiting t (Parked row)) = IsTicket first g t × IsPlacedAt g k t row
WaitFits first g k (Waiting t row) = IsTicket first g t
WaitFits first g k _ = Unit {0}

-- what is known of the seat k of a list
pub record IsWellFormedListSeat (first : ℕ) (g : ListWords) (k : ℕ) (seat : ListSeat) : Type 0 where
  pub fits : HandFits seat.place (length seat.hand)
  pub only : TicketFits seat.place seat.ticket
  pub held : HeldTicket first g seat.ticket
  pub waits : WaitFits first g k seat.place
  pub reads : StillReads first g seat.place

-- the parts of a list's invariant that tell not which tickets wait, nor whether they are passed
pub record IsWellFormedList (first seats : ℕ) (s : ListWorld) : Type 0 where
  pub lock : LockHeld seats s
  pub words : WordsTell first s.words
  pub placed : list.WaitsPlaced seats s
  pub grants : GrantsHeld s
  pub seats_known : (k : ℕ) → k < seats → IsWellFormedListSeat first s.words k (s.seats k)
  -- the gone tickets are some that were handed out
  pub gone : (n : ℕ) → 0 < among n s.words.numbers.gone → n < s.words.numbers.handed

-- the list is so while at most 2^63 tickets were handed out. By a changed table too, and whichever tickets go
abbrev pub IsWellFormedWhileFew : ℕ → ℕ → ListWorld → Type 0
IsWellFormedWhileFew first seats s = s.words.numbers.handed ≤ 2 ^ 63 → IsWellFormedList first seats s
