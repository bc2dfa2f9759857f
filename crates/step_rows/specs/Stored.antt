-- The semaphores as they are stored, and their world.
use Rattle.std.specs.Prelude.{◌≡◌, ℕ, ◌+◌, ◌^◌, ◌<◌, List, [], ◌++◌, Option, Some, None, length, slice_get}
use Rattle.std.specs.Prelude.{slice_index_or, IfSome, IsTrue, replicate}
use Rattle.std.specs.Prelude.{Bool, true, false, cond, ◌==◌, nat_lt}
use Rattle.waiters.specs.declared.wait.WaitId.{WaitId}
use Rattle.step_rows.specs.declared.caller.Caller.{Caller}
use Rattle.step_rows.specs.declared.caller.RowGuard.{RowGuard}
use Rattle.step_rows.specs.declared.caller.RowGuard.TheVariants.{Shut, Open, Unlocked, Granted}
use Rattle.step_table.specs.declared.entry.Entry.{Entry}
use Rattle.step_table.specs.declared.entry.Entry.TheVariants.{Queue, Leave}
use Rattle.step_table.specs.declared.effect.Effect.{Effect}
use Rattle.step_table.specs.declared.effect.Effect.TheVariants.{Tells}
use Rattle.step_table.specs.declared.refusal.StepRefused.{StepRefused}
use Rattle.step_table.specs.declared.refusal.StepRefused.TheVariants.{LockHeld, Asleep}
use Rattle.step_table.specs.declared.place.AcquireRow.TheVariants.{A7, Parked}
use Rattle.step_table.specs.declared.place.ParkedRow.TheVariants.{D2}
use Rattle.step_table.specs.declared.place.ReleaseRow.TheVariants.{R4, R5, R6, R8, R9, R10}
use Rattle.step_table.specs.declared.place.ManyRow.TheVariants.{M4, M5, M6, M7}
use Rattle.step_table.specs.declared.place.Place.{Place}
use Rattle.step_table.specs.declared.place.Place.TheVariants.{Rest, Acquiring, Releasing, ReleasingMany}
use Rattle.step_rows.specs.declared.ready.Ready.{Ready}
use Rattle.step_table.specs.declared.word.Word.{Word}
use Rattle.step_table.specs.declared.word.Word.TheVariants.{Counter, Lock, Waiters, Grant}
use Rattle.step_table.specs.World.{Words, SeatState, SemaWorld, root_number, put, found, lists_after}
use Rattle.step_table.specs.World.{journal_after, turn_after, hand_after, stands_in}
use Rattle.step_table.specs.Event.{Event}
use Rattle.step_table.specs.Table.{event_at}
use Rattle.step_table.specs.Steps.{words_after, event_of, finds, turned, moved}
use Rattle.step_table.specs.Counting.{IsWithin}
use Rattle.step_rows.specs.Roots.{queued}
use Rattle.step_outcomes.specs.Outcomes.{IsOutcome, HasRoom}

-- the elements of a list by their places, and d past its end
abbrev pub each : {A : Type 0} → A → List A → ℕ → A
each d l = λ i. slice_index_or l i d

-- how many counters are no group's and how many roots those have; and the words, lists and hands as they are
-- stored: by counter, by root and by seat
pub record Stored : Type 0 where
  pub own : ℕ
  pub roots : ℕ
  pub numbers : List ℕ
  pub locks : List ℕ
  pub waiters : List ℕ
  pub grants : List ℕ
  pub lists : List (List WaitId)
  pub hands : List (List WaitId)

abbrev pub stored_words : Stored → Words
stored_words h =
    record {
      numbers = each 0 h.numbers;
      locks = each 0 h.locks;
      waiters = each 0 h.waiters;
      grants = each 0 h.grants;
      lists = each [] h.lists;
    }

-- the waits in hand
abbrev pub hands_of : Stored → ℕ → List WaitId
hands_of h = each [] h.hands

abbrev pub root_of : Stored → ℕ → ℕ
root_of h = root_number h.own h.roots

-- the word is one of those that are stored
abbrev pub HasWord : Stored → Word → Type 0
HasWord h (Counter c) = c < length h.numbers
HasWord h (Lock c) = root_of h c < length h.locks
HasWord h (Waiters c) = root_of h c < length h.waiters
HasWord h (Grant s) = s < length h.grants

-- fewer waits are in lists than there are seats
abbrev pub HasSpace : Stored → Type 0
HasSpace h = queued h.lists < length h.grants

-- fewer waits are in hand than there are seats
abbrev pub HasHand : Stored → Type 0
HasHand h = queued h.hands < length h.grants

-- the same counters and roots, as many words, lists and hands, and these
pub record Becomes (h : Stored) (g : Words) (in_hand : ℕ → List WaitId) (k : Stored) : Type 0 where
  pub own : k.own ≡ h.own
  pub roots : k.roots ≡ h.roots
  pub numbers : length k.numbers ≡ length h.numbers
  pub locks : length k.locks ≡ length h.locks
  pub waiters : length k.waiters ≡ length h.waiters
  pub grants : length k.grants ≡ length h.grants
  pub lists : length k.lists ≡ length h.lists
  pub seats : length k.hands ≡ length h.hands
  pub words : stored_words k ≡ g
  pub hands : hands_of k ≡ in_hand

abbrev pub WordsBecome : Stored → Words → Stored → Type 0
WordsBecome h g k = Becomes h g (hands_of h) k

abbrev pub ListsBecome : Stored → (ℕ → List WaitId) → Stored → Type 0
ListsBecome h lists k = WordsBecome h (record (stored_words h) { lists = lists }) k

-- the hand of the seat has become this
abbrev pub HandBecomes : Stored → ℕ → List WaitId → Stored → Type 0
HandBecomes h s hand k = Becomes h (stored_words h) (put (hands_of h) s hand) k

-- lists and the hand of the seat have changed as the effect says
abbrev pub Makes : Effect → ℕ → Stored → Stored → Type 0
Makes e s h k =
    Becomes h (record (stored_words h) { lists = lists_after e (stored_words h).lists })
    (put (hands_of h) s (hand_after e (hands_of h s))) k

-- a seat that has queued nothing
abbrev pub idle : Caller
idle = record { place = Rest; turn = 0 }

-- the seat of the step table
abbrev pub seat_of : Caller → List WaitId → SeatState
seat_of caller hand = record { place = caller.place; turn = caller.turn; hand = hand }

abbrev pub seats_of : List Caller → List (List WaitId) → ℕ → SeatState
seats_of callers hands s = seat_of (slice_index_or callers s idle) (each [] hands s)

-- the words, lists and hands, and where each seat stands
pub record SemaMachine : Type 0 where
  pub stored : Stored
  pub callers : List Caller

-- their world, with this journal
abbrev pub world_of : SemaMachine → List Entry → SemaWorld
world_of m journal =
    record { words = stored_words m.stored; seats = seats_of m.callers m.stored.hands; journal = journal }

-- the words are those of so many counters, with one for each group, roots, with one for each group, and seats
pub record IsStoredFor (own groups roots seats : ℕ) (h : Stored) : Type 0 where
  pub own_is : h.own ≡ own
  pub roots_is : h.roots ≡ roots
  pub numbers : length h.numbers ≡ own + groups
  pub lists : length h.lists ≡ own + groups
  pub locks : length h.locks ≡ roots + groups
  pub waiters : length h.waiters ≡ roots + groups
  pub grants : length h.grants ≡ seats
  pub hands : length h.hands ≡ seats

-- the words and lists of the start: the numbers, and nothing else
abbrev pub first_stored : List ℕ → ℕ → ℕ → ℕ → Stored
first_stored starts groups roots seats =
    record {
      own = length starts;
      roots = roots;
      numbers = starts ++ replicate groups 0;
      locks = replicate (roots + groups) 0;
      waiters = replicate (roots + groups) 0;
      grants = replicate seats 0;
      lists = replicate (length starts + groups) [];
      hands = replicate seats [];
    }

-- the row of this place looks at its counter's list
abbrev pub looks_at_list : Place → Bool
looks_at_list (Acquiring a (Parked turn D2)) = true
looks_at_list (Releasing r R4) = true
looks_at_list (Releasing r R5) = true
looks_at_list (ReleasingMany r M4) = true
looks_at_list (ReleasingMany r M5) = true
looks_at_list _ = false

-- it looks at the hand of its seat
abbrev pub looks_at_hand : Place → Bool
looks_at_hand (Releasing r R6) = true
looks_at_hand (Releasing r (R8 left)) = true
looks_at_hand (Releasing r R9) = true
looks_at_hand (Releasing r R10) = true
looks_at_hand (ReleasingMany r M5) = true
looks_at_hand (ReleasingMany r M6) = true
looks_at_hand (ReleasingMany r M7) = true
looks_at_hand _ = false

-- the lists and the hand as they are to a row of this place: empty where it doesn't look
abbrev pub lists_seen : Place → (ℕ → List WaitId) → ℕ → List WaitId
lists_seen place lists = λ c. cond (looks_at_list place) (lists c) []

abbrev pub hand_seen : Place → List WaitId → List WaitId
hand_seen place hand = cond (looks_at_hand place) hand []

-- the first wait of the list of a release's counter, and how many waits that list has
abbrev pub IsListed : (ℕ → List WaitId) → Place → Option WaitId → Type 0
IsListed lists (Releasing r row) first = slice_get (lists r.counter) 0 ≡ first
IsListed lists (ReleasingMany r row) first = slice_get (lists r.counter) 0 ≡ first
IsListed lists _ first = Unit {0}

abbrev pub IsQueue : (ℕ → List WaitId) → Place → ℕ → Type 0
IsQueue lists (ReleasingMany r row) n = length (lists r.counter) ≡ n
IsQueue lists _ n = Unit {0}

-- whether the list of an acquire's counter has a wait of the seat
abbrev pub IsInList : ℕ → (ℕ → List WaitId) → Place → Bool → Type 0
IsInList s lists (Acquiring a row) b = stands_in s (lists a.counter) ≡ b
IsInList s lists _ b = Unit {0}

-- the wait that an effect puts into a list or a hand fits
abbrev pub HasSeat : Stored → Effect → Type 0
HasSeat h (Tells (Queue c w lifo)) = HasSpace h
HasSeat h (Tells (Leave c w s)) = HasHand h
HasSeat h _ = Unit {0}

-- and so does that which the row of this place moves
abbrev pub MayMove : Stored → Place → Type 0
MayMove h (Acquiring a A7) = HasSpace h
MayMove h (Releasing r R5) = HasHand h
MayMove h (ReleasingMany r M5) = HasHand h
MayMove h _ = Unit {0}

-- a row whose condition doesn't hold: its word tells why
abbrev pub refused_by : Word → StepRefused
refused_by (Lock c) = LockHeld
refused_by _ = Asleep

-- the event of a seat, and what it finds
abbrev pub row_event : ℕ → Caller → Stored → List WaitId → Event
row_event s caller h hand = event_at s (seat_of caller hand) (stored_words h).lists caller.place

abbrev pub row_finds : ℕ → Caller → Stored → List WaitId → ℕ
row_finds s caller h hand = found (root_of h) (stored_words h) (row_event s caller h hand).word

-- a seat s behind this guard can run its row
abbrev pub lets_through : Stored → ℕ → RowGuard → Bool
lets_through h s Shut = false
lets_through h s Open = true
lets_through h s (Unlocked c) = (stored_words h).locks (root_of h c) == 0
lets_through h s Granted = nat_lt 0 ((stored_words h).grants s)

-- its counter is one of so many
abbrev pub HasGuard : ℕ → RowGuard → Type 0
HasGuard counters (Unlocked c) = c < counters
HasGuard counters _ = Unit {0}

-- so many words and lists are stored that a row of this seat finds its own
pub record HasRowsOf (h : Stored) (s : ℕ) (place : Place) (in_hand : Option WaitId) : Type 0 where
  pub within : IsWithin (length h.numbers) place
  pub lists : length h.lists ≡ length h.numbers
  pub locks : (c : ℕ) → c < length h.numbers → root_of h c < length h.locks
  pub waiters : (c : ℕ) → c < length h.numbers → root_of h c < length h.waiters
  pub seat : s < length h.grants
  pub hand : s < length h.hands
  pub waiter : IfSome in_hand (λ w. w.seat < length h.grants)
  pub moves : MayMove h place

-- the row can run of which this is the word and the outcome
pub record IsReady (h : Stored) (s : ℕ) (ready : Ready) : Type 0 where
  pub hand : s < length h.hands
  pub stored : HasWord h ready.word
  pub room : HasRoom (length h.lists) ready.outcome.effect
  pub fits : HasSeat h ready.outcome.effect
  pub word : ready.word ≡ (row_event s ready.caller h (hands_of h s)).word
  pub does : IsOutcome (row_event s ready.caller h (hands_of h s))
      (row_finds s ready.caller h (hands_of h s)) ready.outcome

-- the row of the seat ran: words, lists and hands, its effect, and where it stands next, are those of its
-- event
pub record HasRun
    (s : ℕ) (caller : Caller) (h : Stored) (hand : List WaitId) (effect : Effect) (k : Stored)
    (next : Caller) : Type 0 where
  pub can : IsTrue ((row_event s caller h hand).can (row_finds s caller h hand))
  pub place : next.place ≡ ((row_event s caller h hand).leads (row_finds s caller h hand)).0
  pub turn : next.turn ≡ turn_after effect caller.turn
  pub effect_is : effect ≡ ((row_event s caller h hand).leads (row_finds s caller h hand)).1
  pub stored :
      Becomes h (words_after (root_of h) (stored_words h) (row_event s caller h hand) (row_finds s caller h hand))
      (put (hands_of h) s (hand_after effect hand)) k

-- the row is refused by this: its condition doesn't hold
abbrev pub IsRowRefusedBy : StepRefused → ℕ → Caller → Stored → List WaitId → Type 0
IsRowRefusedBy cause s caller h hand =
    (IsTrue ((row_event s caller h hand).can (row_finds s caller h hand)) → ⊥)
    × (cause ≡ refused_by (row_event s caller h hand).word)

-- the seat, and all that its row asks for
pub record HasRow (m : SemaMachine) (s : ℕ) : Type 0 where
  pub there : s < length m.callers
  pub rows : HasRowsOf m.stored s (slice_index_or m.callers s idle).place (slice_get (hands_of m.stored s) 0)
  pub fits : row_finds s (slice_index_or m.callers s idle) m.stored (hands_of m.stored s) + 2 ^ 32 < 2 ^ 64
  pub turn : (slice_index_or m.callers s idle).turn + 1 < 2 ^ 64

-- the row of the seat can run
pub record IsReadyFor (m : SemaMachine) (s : ℕ) (ready : Ready) : Type 0 where
  pub there : slice_get m.callers s ≡ Some ready.caller
  pub turn : ready.caller.turn + 1 < 2 ^ 64
  pub row : IsReady m.stored s ready

-- as many of everything, and the same roots
pub record IsSameSize (m n : SemaMachine) : Type 0 where
  pub own : n.stored.own ≡ m.stored.own
  pub roots : n.stored.roots ≡ m.stored.roots
  pub numbers : length n.stored.numbers ≡ length m.stored.numbers
  pub locks : length n.stored.locks ≡ length m.stored.locks
  pub waiters : length n.stored.waiters ≡ length m.stored.waiters
  pub grants : length n.stored.grants ≡ length m.stored.grants
  pub lists : length n.stored.lists ≡ length m.stored.lists
  pub hands : length n.stored.hands ≡ length m.stored.hands
  pub callers : length n.callers ≡ length m.callers

-- the event of seat s, and what it finds
abbrev pub event_in : SemaMachine → ℕ → Event
event_in m s = event_of (world_of m []) s

abbrev pub finds_in : SemaMachine → ℕ → ℕ
finds_in m s = finds (root_of m.stored) (world_of m []) s

-- seat s has run its row, which had this effect: with each journal its world has turned
pub record HasTurned (m : SemaMachine) (s : ℕ) (effect : Effect) (n : SemaMachine) : Type 0 where
  pub effect_is : effect ≡ ((event_in m s).leads (finds_in m s)).1
  pub world : (journal : List Entry)
      → world_of n (journal_after effect journal) ≡ turned (root_of m.stored) (world_of m journal) s
  pub alike : IsSameSize m n

-- seat s stands at another place
pub record HasMoved (m : SemaMachine) (s : ℕ) (place : Place) (n : SemaMachine) : Type 0 where
  pub world : (journal : List Entry) → world_of n journal ≡ moved (world_of m journal) s place
  pub alike : IsSameSize m n

-- the entry of an effect, if it has one
abbrev pub entry_of : Effect → Option Entry
entry_of (Tells e) = Some e
entry_of _ = None
