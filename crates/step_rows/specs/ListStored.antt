-- A notify list as it is stored, what its rows see, and what they ask for.
use Rattle.std.specs.Prelude.{◌≡◌, ◌≢◌, ℕ, ◌+◌, ◌*◌, ◌<◌, ◌≤◌, ◌^◌, IsTrue, List}
use Rattle.std.specs.Prelude.{[], Option, Some, None, IfSome, length, slice_get}
use Rattle.std.specs.Option.{option_map}
use Rattle.waiters.specs.declared.wait.Wait.{Wait}
use Rattle.waiters.specs.Lists.{Lists, list_at, IsOpen, waits_at}
use Rattle.step_table.specs.declared.list_place.AllRow.TheVariants.{L6, L7}
use Rattle.step_table.specs.declared.list_place.ListEffect.{ListEffect}
use Rattle.step_table.specs.declared.list_place.ListEffect.TheVariants.{HandsOut, Grants, Queues}
use Rattle.step_table.specs.declared.list_place.ListEffect.TheVariants.{TakesAll, Forgoes}
use Rattle.step_table.specs.declared.list_place.ListParkedRow.TheVariants.{E3}
use Rattle.step_table.specs.declared.list_place.ListPlace.{ListPlace}
use Rattle.step_table.specs.declared.list_place.ListPlace.TheVariants.{Rest, Waiting, NotifyingAll}
use Rattle.step_table.specs.declared.list_place.ListWord.{ListWord}
use Rattle.step_table.specs.declared.list_place.ListWord.TheVariants.{Lock}
use Rattle.step_table.specs.declared.list_place.Ticket.{Ticket}
use Rattle.step_table.specs.declared.list_place.WaitRow.TheVariants.{W2, W4, Parked}
use Rattle.step_rows.specs.declared.ready.ListReady.{ListReady}
use Rattle.step_rows.specs.declared.list_machine.SeatRecord.{SeatRecord}
use Rattle.step_table.specs.declared.refusal.StepRefused.{StepRefused}
use Rattle.step_table.specs.declared.refusal.StepRefused.TheVariants.{LockHeld, Asleep}
use Rattle.step_table.specs.Counting.{total}
use Rattle.step_table.specs.World.{put}
use Rattle.step_table.specs.ListWorld.{ListWords, ListSeat, ListEntry, ListWorld, numbers_after}
use Rattle.step_table.specs.ListWorld.{queue_after, gone_after, hand_after, ticket_after, journal_after, first_list}
use Rattle.step_table.specs.ListSteps.{event_of, finds, effect_of, can_turn, ListTurn}
use Rattle.step_outcomes.specs.ListOutcomes.{IsListOutcome, HasListWord}

-- a list as it is stored, with a record for each seat
pub record StoredSeat : Type 0 where
  pub place : ListPlace
  pub ticket : Option Ticket
  pub grant : ℕ
  pub hand : List Wait

pub record StoredList : Type 0 where
  pub wait : ℕ
  pub notify : ℕ
  pub lock : ℕ
  pub handed : ℕ
  pub passed : ℕ
  pub gone_numbers : List ℕ
  pub gone : List ℕ
  pub queue : List Wait
  pub seats : List StoredSeat

-- a seat by its record, or a seat at rest where there is none; no seat has looked at a late ticket
abbrev pub seat_of : Option StoredSeat → ListSeat
seat_of None = record { place = Rest; ticket = None; hand = []; late = 0 }
seat_of (Some s) = record { place = s.place; ticket = s.ticket; hand = s.hand; late = 0 }

abbrev pub grant_of : Option StoredSeat → ℕ
grant_of None = 0
grant_of (Some s) = s.grant

-- a list's words and seats, of which there are so many
pub record ListMoment : Type 0 where
  pub words : ListWords
  pub seats : ℕ → ListSeat
  pub count : ℕ

abbrev pub moment_of : StoredList → ListMoment
moment_of l =
    record {
      words = record {
        wait = l.wait;
        notify = l.notify;
        lock = l.lock;
        grants = λ k. grant_of (slice_get l.seats k);
        numbers = record { handed = l.handed; passed = l.passed; gone = l.gone_numbers };
        queue = l.queue;
        gone = l.gone;
      };
      seats = λ k. seat_of (slice_get l.seats k);
      count = length l.seats;
    }

-- the world of a list, with this journal, which is its caller's
abbrev pub world_at : ListMoment → List ListEntry → ListWorld
world_at m journal = record { words = m.words; seats = m.seats; journal = journal }

abbrev pub world_of : StoredList → List ListEntry → ListWorld
world_of l = world_at (moment_of l)

-- the start of a list whose first ticket has this word
abbrev pub first_moment : ℕ → ℕ → ListMoment
first_moment first seats =
    record { words = (first_list first).words; seats = (first_list first).seats; count = seats }

-- a seat's record, with the waits under the key of its hand
abbrev pub stored_seat : Lists → SeatRecord → StoredSeat
stored_seat waits s =
    record { place = s.place; ticket = s.ticket; grant = s.grant; hand = waits_at waits s.hand }

-- the seats whose records and waits these are
abbrev pub seats_in : Lists → List SeatRecord → ℕ → ListSeat
seats_in waits seats = λ k. seat_of (option_map (stored_seat waits) (slice_get seats k))

-- how many waits are in hands
abbrev pub held : ℕ → (ℕ → ListSeat) → ℕ
held seats stand = total seats (λ k. length (stand k).hand)

-- the queue and each hand are lists of their own, and a wait of each seat fits
pub record AreLists (waits : Lists) (queue : ℕ) (seats : List SeatRecord) : Type 0 where
  pub open_queue : IsOpen waits queue
  pub open_hand : (k : ℕ) (s : SeatRecord) → slice_get seats k ≡ Some s → IsOpen waits s.hand
  pub apart : (k : ℕ) (s : SeatRecord) → slice_get seats k ≡ Some s → s.hand ≢ queue
  pub different : (k l : ℕ) (s t : SeatRecord) → slice_get seats k ≡ Some s → slice_get seats l ≡ Some t
      → k ≢ l
      → s.hand ≢ t.hand
  pub room : waits.room + length (waits_at waits queue) + held (length seats) (seats_in waits seats)
      ≡ length seats

-- how many waits are in the list and in hands
abbrev pub waits_in : ℕ → ListWords → (ℕ → ListSeat) → ℕ
waits_in seats g stand = length g.queue + held seats stand

-- how many tickets of so many seats may be gone: one of each call of a scenario
abbrev pub most_gone : ℕ → ℕ
most_gone seats = 32 * seats

-- one more fits
pub record HasGoneRoom (seats : ℕ) (g : ListWords) : Type 0 where
  pub words : length g.gone < most_gone seats
  pub numbers : length g.numbers.gone < most_gone seats

-- what the row at this place asks for: that the ticket isn't late, that its wait fits, that a gone ticket fits,
-- that the number to which it passes fits a word, or that the hand is empty
abbrev pub AsksAt : ℕ → ListWords → (ℕ → ListSeat) → ListSeat → ListPlace → Type 0
AsksAt seats g stand seat (Waiting t W2) = g.numbers.passed ≤ t.number + 2 ^ 63
AsksAt seats g stand seat (Waiting t W4) = waits_in seats g stand < seats
AsksAt seats g stand seat (Waiting t (Parked (E3 v))) = HasGoneRoom seats g
AsksAt seats g stand seat (NotifyingAll h (L6 r)) = r.handed + length g.numbers.gone < 2 ^ 64
AsksAt seats g stand seat (NotifyingAll h (L7 n)) = seat.hand ≡ []
AsksAt seats g stand seat _ = Unit {0}

-- all that a row of seat i asks for, of so many seats
pub record HasListRow (seats : ℕ) (g : ListWords) (stand : ℕ → ListSeat) (i : ℕ) : Type 0 where
  pub seat : i < seats
  pub handed : g.numbers.handed + 1 < 2 ^ 64
  pub passed : g.numbers.passed + length g.numbers.gone + 2 < 2 ^ 64
  pub waiter : IfSome (slice_get (stand i).hand 0) (λ w. w.id.seat < seats)
  pub asks : AsksAt seats g stand (stand i) (stand i).place

abbrev pub CanStep : StoredList → ℕ → Type 0
CanStep l = HasListRow (moment_of l).count (moment_of l).words (moment_of l).seats

-- a row whose condition doesn't hold: its word tells why
abbrev pub list_refused_by : ListWord → StepRefused
list_refused_by Lock = LockHeld
list_refused_by _ = Asleep

-- the seat i at another place
abbrev pub placed : ListMoment → ℕ → ListPlace → ListMoment
placed l i place = record l { seats = put l.seats i (record (l.seats i) { place = place }) }

-- the list after this effect of a row of seat i, which writes x
abbrev pub made : ListMoment → ℕ → ListEffect → ℕ → ListMoment
made l i effect x =
    record l {
      words = record l.words {
        numbers = numbers_after effect l.words.numbers;
        queue = queue_after effect l.words.queue;
        gone = gone_after effect x l.words.gone;
      };
      seats = put l.seats i (record (l.seats i) {
        ticket = ticket_after effect (l.seats i).ticket;
        hand = hand_after effect l.words.queue (l.seats i).hand;
      });
    }

-- what an effect of seat i asks for
abbrev pub Allows : ListMoment → ℕ → ListEffect → Type 0
Allows l i (HandsOut t) = l.words.numbers.handed + 1 < 2 ^ 64
Allows l i (Queues w) = waits_in l.count l.words l.seats < l.count
Allows l i (Grants upto) = upto + length l.words.numbers.gone < 2 ^ 64
Allows l i TakesAll = (l.seats i).hand ≡ []
Allows l i (Forgoes w) =
    HasGoneRoom l.count l.words × (l.words.numbers.passed + length l.words.numbers.gone + 1 < 2 ^ 64)
Allows l i _ = Unit {0}

-- seat i has run its row, with this effect: the world with any journal has turned, and the journal tells the
-- effect
pub record IsListTurned (l : StoredList) (i : ℕ) (effect : ListEffect) (m : StoredList) : Type 0 where
  pub effect_is : effect ≡ effect_of (world_of l []) i
  pub turn : (journal : List ListEntry)
      → ListTurn (world_of l journal) i (world_of m (journal_after i effect journal))
  pub count : length m.seats ≡ length l.seats

-- the row of seat i can run of which this is the word and the outcome
pub record IsListReady (l : StoredList) (i : ℕ) (ready : ListReady) : Type 0 where
  pub asks : CanStep l i
  pub word : ready.word ≡ (event_of (world_of l []) i).word
  pub within : HasListWord (length l.seats) ready.word
  pub does : IsListOutcome (event_of (world_of l []) i) (finds (world_of l []) i) ready.outcome

-- the row of seat i is refused by this: its condition doesn't hold
pub record IsListRefusedBy (cause : StepRefused) (l : StoredList) (i : ℕ) : Type 0 where
  pub cannot : IsTrue (can_turn (world_of l []) i) → ⊥
  pub is : cause ≡ list_refused_by (event_of (world_of l []) i).word

-- so many seats at rest, each with an empty list of its own that wasn't open before, and the other lists as
-- they were
pub record AreFresh (old new : Lists) (seats : List SeatRecord) (count : ℕ) : Type 0 where
  pub count_is : length seats ≡ count
  pub rest : (k : ℕ) (s : SeatRecord) → slice_get seats k ≡ Some s
      → (s.place ≡ Rest) × (s.ticket ≡ None) × (s.grant ≡ 0)
  pub empty : (k : ℕ) (s : SeatRecord) → slice_get seats k ≡ Some s → list_at new s.hand ≡ Some []
  pub closed : (k : ℕ) (s : SeatRecord) → slice_get seats k ≡ Some s → list_at old s.hand ≡ None
  pub different : (k l : ℕ) (s t : SeatRecord) → slice_get seats k ≡ Some s → slice_get seats l ≡ Some t
      → k ≢ l
      → s.hand ≢ t.hand
  pub kept : (key : ℕ) → IsOpen old key → list_at new key ≡ list_at old key
  pub room : new.room ≡ old.room
  pub list_room : new.list_room + count ≡ old.list_room
