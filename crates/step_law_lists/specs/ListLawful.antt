-- What is promised of each world of a notify list, in the words of the subject.
use Rattle.std.specs.Prelude.{◌≡◌, ℕ, ◌+◌, ◌<◌, ◌≤◌, ◌≢◌, ◌^◌, nat_lt, cond, List, [], ◌∷◌, ◌++◌, map, Option, Some, None}
use Rattle.waiters.specs.declared.wait.Wait.{Wait}
use Rattle.step_table.specs.declared.list_place.AllRow.TheVariants.{L4, L5, L6, L7}
use Rattle.step_table.specs.declared.list_place.ListPlace.{ListPlace}
use Rattle.step_table.specs.declared.list_place.ListPlace.TheVariants.{Adding, Waiting, NotifyingOne}
use Rattle.step_table.specs.declared.list_place.ListPlace.TheVariants.{NotifyingAll}
use Rattle.step_table.specs.declared.list_place.OneRow.TheVariants.{O4, O5, O6, O7, O8}
use Rattle.step_table.specs.declared.list_place.Ticket.{Ticket}
use Rattle.step_table.specs.declared.list_place.WaitRow.{WaitRow}
use Rattle.step_table.specs.declared.list_place.WaitRow.TheVariants.{W2, W3, W4, E4, Parked}
use Rattle.step_table.specs.declared.list_place.ListParkedRow.{ListParkedRow}
use Rattle.step_table.specs.declared.list_place.ListParkedRow.TheVariants.{E2, E3, E5}
use Rattle.step_table.specs.Counting.{on, same, total, among, granted}
use Rattle.step_table.specs.Wrapping.{word_of}
use Rattle.step_table.specs.ListWorld.{Numbers, ListWords, ListSeat, ListEntry, Took, Granted, Forgone, ListWorld}
use Rattle.step_table.specs.ListWorld.{is_gone, with_gone, passing}
use Rattle.step_table.specs.ListTable.{wait_for}

-- the numbers after an entry of the journal, and after all
abbrev pub counted : ListEntry → Numbers → Numbers
counted (Took s) n = record n { handed = n.handed + 1 }
counted (Granted upto s) n = passing n.handed upto n.gone
counted (Forgone m s) n = passing n.handed n.passed (with_gone nat_lt m n.gone)

abbrev pub replay : Numbers → List ListEntry → Numbers
replay n [] = n
replay n (e ∷ es) = replay (counted e n) es

abbrev pub none_told : Numbers
none_told = record { handed = 0; passed = 0; gone = [] }

-- how many tickets were handed out, the first that is neither granted nor gone, and the gone ones after it, as the
-- journal tells
abbrev pub told : List ListEntry → Numbers
told journal = replay none_told journal

-- a grant is of more tickets than were passed, and of none that wasn't handed out. A ticket that goes was handed
-- out, and is neither granted nor gone
abbrev pub IsDefined : ListEntry → Numbers → Type 0
IsDefined (Took s) n = Unit {0}
IsDefined (Granted upto s) n = (n.passed < upto) × (upto ≤ n.handed)
IsDefined (Forgone m s) n = (n.passed ≤ m) × (m < n.handed) × (among m n.gone ≡ 0)

-- each entry was defined where it stands
abbrev pub Follows : List ListEntry → Type 0
Follows journal = (before after : List ListEntry) (e : ListEntry) → journal ≡ before ++ e ∷ after
    → IsDefined e (told before)

-- how often the ticket of number n has gone
abbrev pub times_forgone : ℕ → List ListEntry → ℕ
times_forgone n [] = 0
times_forgone n (Forgone m s ∷ es) = on m n 1 + times_forgone n es
times_forgone n (e ∷ es) = times_forgone n es

-- how often an entry grants the ticket of number n: once where it is one of those that are passed by it, and isn't
-- gone
abbrev pub grants_it : ℕ → ListEntry → Numbers → ℕ
grants_it n (Granted upto s) numbers =
    cond {A = ℕ} (nat_lt n numbers.passed) 0
    (cond {A = ℕ} (nat_lt n upto) (cond {A = ℕ} (is_gone n numbers.gone) 0 1) 0)
grants_it n e numbers = 0

abbrev pub granted_from : Numbers → ℕ → List ListEntry → ℕ
granted_from numbers n [] = 0
granted_from numbers n (e ∷ es) = grants_it n e numbers + granted_from (counted e numbers) n es

-- how often the ticket of number n was granted
abbrev pub times_granted : ℕ → List ListEntry → ℕ
times_granted n journal = granted_from none_told n journal

-- each ticket is granted or goes, never both: once where it is passed; one that isn't passed wasn't granted, and
-- has gone where it is among the gone ones. These were handed out, and the first that is neither isn't one of them
pub record EachOnce (journal : List ListEntry) : Type 0 where
  pub once : (n : ℕ) → times_granted n journal + times_forgone n journal ≤ 1
  pub passed : (n : ℕ) → n < (told journal).passed → times_granted n journal + times_forgone n journal ≡ 1
  pub waiting : (n : ℕ) → (told journal).passed ≤ n
      → (times_granted n journal ≡ 0) × (times_forgone n journal ≡ among n (told journal).gone)
  pub gone : (n : ℕ) → 0 < among n (told journal).gone
      → ((told journal).passed < n) × (n < (told journal).handed)
  pub order : (told journal).passed ≤ (told journal).handed

-- the ticket of number n is granted
abbrev pub IsGranted : ℕ → List ListEntry → Type 0
IsGranted n journal = (n < (told journal).passed) × (times_granted n journal ≡ 1)

-- the numbers handed out and passed are at most 2^63 apart
abbrev pub IsNear : Numbers → Type 0
IsNear n = n.handed ≤ n.passed + 2 ^ 63

-- and were so at each beginning of the journal
abbrev pub NeverFar : List ListEntry → Type 0
NeverFar journal = (before after : List ListEntry) → journal ≡ before ++ after → IsNear (told before)

-- no ticket has gone that was passed before
abbrev pub LeftInTime : List ListEntry → Type 0
LeftInTime journal =
    (before after : List ListEntry) (n k : ℕ) → journal ≡ before ++ Forgone n k ∷ after
    → (told before).passed ≤ n

-- what the law asks of a journal
pub record IsInReach (journal : List ListEntry) : Type 0 where
  pub near : NeverFar journal
  pub in_time : LeftInTime journal

-- how many tickets have gone
abbrev pub leaves : List ListEntry → ℕ
leaves [] = 0
leaves (Forgone n s ∷ es) = 1 + leaves es
leaves (e ∷ es) = leaves es

-- the number up to which the last grant was, 0 before any
abbrev pub last_from : ℕ → List ListEntry → ℕ
last_from upto [] = upto
last_from upto (Granted next s ∷ es) = last_from next es
last_from upto (e ∷ es) = last_from upto es

abbrev pub last_granted : List ListEntry → ℕ
last_granted journal = last_from 0 journal

-- one lawful journal tells the words
abbrev pub OneJournal : ℕ → ListWorld → Type 0
OneJournal first s =
    Follows s.journal
    × (s.words.wait ≡ word_of first (told s.journal).handed)
    × (s.words.notify ≡ word_of first (told s.journal).passed)
    × (s.words.gone ≡ map (word_of first) (told s.journal).gone)

-- 1 where the seat holds the lock
abbrev pub holds : ListPlace → ℕ
holds (Waiting t W2) = 1
holds (Waiting t W3) = 1
holds (Waiting t W4) = 1
holds (Waiting t E4) = 1
holds (Waiting t (Parked E2)) = 1
holds (Waiting t (Parked (E3 v))) = 1
holds (Waiting t (Parked E5)) = 1
holds (NotifyingOne h O4) = 1
holds (NotifyingOne h (O5 t)) = 1
holds (NotifyingOne h O6) = 1
holds (NotifyingOne h (O7 t)) = 1
holds (NotifyingOne h (O8 t)) = 1
holds (NotifyingAll h L4) = 1
holds (NotifyingAll h (L5 t)) = 1
holds (NotifyingAll h (L6 r)) = 1
holds (NotifyingAll h (L7 n)) = 1
holds _ = 0

-- the lock word is 1 while one seat holds the lock, and else 0
abbrev pub LockHeld : ℕ → ListWorld → Type 0
LockHeld seats s = (s.words.lock ≡ total seats (λ k. holds (s.seats k).place)) × (s.words.lock ≤ 1)

-- 1 where this is the ticket of number n
abbrev pub is_held : ℕ → Option Ticket → ℕ
is_held n None = 0
is_held n (Some t) = on t.number n 1

-- 1 where the seat waits with it, and hasn't left
abbrev pub waits_with : ℕ → ListPlace → ℕ
waits_with n (Waiting t E4) = 0
waits_with n (Waiting t row) = on t.number n 1
waits_with n _ = 0

-- how often the seat has the ticket of number n, to wait with later or now
abbrev pub has : ℕ → ListSeat → ℕ
has n seat = is_held n seat.ticket + waits_with n seat.place

-- where so many tickets were handed out and passed, how many seats have each: at most one, and none where it has
-- gone; none before it is handed out; and one until it is passed or goes
abbrev pub TicketsHeld : ℕ → (ℕ → ListSeat) → Numbers → List ListEntry → Type 0
TicketsHeld seats stand numbers journal =
    (n : ℕ)
    → (total seats (λ k. has n (stand k)) + times_forgone n journal ≤ 1)
    × (numbers.handed ≤ n → total seats (λ k. has n (stand k)) + times_forgone n journal ≡ 0)
    × (numbers.passed ≤ n → n < numbers.handed
    → total seats (λ k. has n (stand k)) + times_forgone n journal ≡ 1)

-- the ticket that a seat holds is one that was handed out, and the seat neither takes another nor waits with
-- one
abbrev pub HeldTaken : ℕ → ℕ → ListWorld → Type 0
HeldTaken first seats s =
    (k : ℕ) (t : Ticket) → k < seats → (s.seats k).ticket ≡ Some t
    → (t.word ≡ word_of first t.number) × (t.number < (told s.journal).handed) × ((s.seats k).place ≢ Adding)
    × ((u : Ticket) (row : WaitRow) → (s.seats k).place ≢ Waiting u row)

-- how often a wait stands in a list
abbrev pub times : Wait → List Wait → ℕ
times w [] = 0
times w (x ∷ l) = on w.ticket x.ticket (same w.id x.id) + times w l

-- how often it stands in the list and in the hands
abbrev pub standing : ℕ → ListWorld → Wait → ℕ
standing seats s w = times w s.words.queue + total seats (λ k. times w (s.seats k).hand)

-- the wait of a parked seat is in exactly one place: in the list, in a hand, or granted
abbrev pub ParkedOnce : ℕ → ListWorld → Type 0
ParkedOnce seats s =
    (k : ℕ) (t : Ticket) (row : ListParkedRow) → k < seats → (s.seats k).place ≡ Waiting t (Parked row)
    → standing seats s (wait_for k t) + granted (s.words.grants k) ≡ 1

-- each wait in the list or in a hand is that of a parked seat
abbrev pub EachIsParked : ℕ → ListWorld → Type 0
EachIsParked seats s =
    (w : Wait) → 0 < standing seats s w
    → (w.id.seat < seats)
    × ((row : ListParkedRow)
    × ((s.seats w.id.seat).place ≡ Waiting (record { word = w.ticket; number = w.id.turn }) (Parked row)))

-- a seat that gives up has found its wait in the list, where it stays until it is taken out, or hasn't
abbrev pub IsPlacedAt : ListWords → ℕ → Ticket → ListParkedRow → Type 0
IsPlacedAt g k t E2 = 0 < times (wait_for k t) g.queue
IsPlacedAt g k t (E3 v) = 0 < times (wait_for k t) g.queue
IsPlacedAt g k t E5 = times (wait_for k t) g.queue ≡ 0
IsPlacedAt g k t _ = Unit {0}

abbrev pub LeavingPlaced : ℕ → ListWorld → Type 0
LeavingPlaced seats s =
    (k : ℕ) (t : Ticket) (row : ListParkedRow) → k < seats → (s.seats k).place ≡ Waiting t (Parked row)
    → IsPlacedAt s.words k t row

-- a seat that isn't parked has no grant, and a grant is at most 1
abbrev pub IsGrantOf : ListPlace → ℕ → Type 0
IsGrantOf (Waiting t (Parked row)) grant = grant ≤ 1
IsGrantOf _ grant = grant ≡ 0

abbrev pub GrantsHeld : ListWorld → Type 0
GrantsHeld s = (k : ℕ) → IsGrantOf (s.seats k).place (s.words.grants k)

-- no seat has looked at a late ticket
abbrev pub NoneLate : ℕ → ListWorld → Type 0
NoneLate seats s = (k : ℕ) → k < seats → (s.seats k).late ≡ 0

-- while the lock is free no ticket in the list is granted
abbrev pub NoneGranted : ListWorld → Type 0
NoneGranted s =
    s.words.lock ≡ 0 → (w : Wait) → 0 < times w s.words.queue → (told s.journal).passed ≤ w.id.turn

-- and that where no seat has looked at a late one
abbrev pub QueuedUngranted : ℕ → ListWorld → Type 0
QueuedUngranted seats s = NoneLate seats s → NoneGranted s

-- the ticket of a wait in a hand, or of a seat with a grant, is granted
abbrev pub TakenGranted : ℕ → ListWorld → Type 0
TakenGranted seats s =
    ((k : ℕ) (w : Wait) → k < seats → 0 < times w (s.seats k).hand → IsGranted w.id.turn s.journal)
    × ((k : ℕ) (t : Ticket) (row : ListParkedRow) → k < seats → (s.seats k).place ≡ Waiting t (Parked row)
    → 0 < s.words.grants k → IsGranted t.number s.journal)

-- a lawful world
pub record IsLawfulList (first seats : ℕ) (s : ListWorld) : Type 0 where
  pub journal : OneJournal first s
  pub lock : LockHeld seats s
  pub each : EachOnce s.journal
  pub tickets : TicketsHeld seats s.seats (told s.journal) s.journal
  pub held : HeldTaken first seats s
  pub once : ParkedOnce seats s
  pub parked : EachIsParked seats s
  pub leaving : LeavingPlaced seats s
  pub grants : GrantsHeld s
  pub queued : QueuedUngranted seats s
  pub taken : TakenGranted seats s
