-- Steps of the world of a notify list: rows of its table, and what a caller may begin or end between them.
use Rattle.std.specs.Prelude.{◌≡◌, ℕ, Bool, Option, Some, None}
use Rattle.step_table.specs.declared.list_place.AllRow.TheVariants.{L1}
use Rattle.step_table.specs.declared.list_place.ListEffect.{ListEffect}
use Rattle.step_table.specs.declared.list_place.ListParkedRow.TheVariants.{P, E1}
use Rattle.step_table.specs.declared.list_place.ListPlace.{ListPlace}
use Rattle.step_table.specs.declared.list_place.ListPlace.TheVariants.{Rest, Adding, Waiting, NotifyingOne}
use Rattle.step_table.specs.declared.list_place.ListPlace.TheVariants.{NotifyingAll}
use Rattle.step_table.specs.declared.list_place.OneRow.TheVariants.{O1, O3}
use Rattle.step_table.specs.declared.list_place.Ticket.{Ticket}
use Rattle.step_table.specs.declared.list_place.WaitRow.TheVariants.{W1, Parked}
use Rattle.step_table.specs.declared.list_place.ListWord.{ListWord}
use Rattle.step_table.specs.World.{put}
use Rattle.step_table.specs.ListWorld.{ListWords, ListSeat, ListWorld, found, written, numbers_after}
use Rattle.step_table.specs.ListWorld.{queue_after, gone_after, hand_after, ticket_after, late_after, journal_after}
use Rattle.step_table.specs.ListWorld.{first_list}
use Rattle.step_table.specs.ListEvent.{ListNext, ListEvent}
use Rattle.step_table.specs.ListTable.{list_table}
use Rattle.step_table.specs.Turn.{Rules, TurnOf, LeadsBy, IsEndOf}
pub use Rattle.step_table.specs.Turn.{none, more}
use Rattle.step_table.specs.Turn as turns

-- the words, numbers, waits and gone tickets after x was written in this word
abbrev pub words_with : ListWords → ListWord → ℕ → ListNext → ListWords
words_with g w x next =
    record (written g w x) {
      numbers = numbers_after next.1 g.numbers;
      queue = queue_after next.1 g.queue;
      gone = gone_after next.1 x g.gone;
    }

-- those after an event that found v
abbrev pub words_after : ListWords → ListEvent → ℕ → ListWords
words_after g e v = words_with g e.word (e.becomes v) (e.leads v)

-- a seat after this of its events
abbrev pub seat_after : ListWords → ListNext → ListSeat → ListSeat
seat_after g next seat =
    record {
      place = next.0;
      ticket = ticket_after next.1 seat.ticket;
      hand = hand_after next.1 g.queue seat.hand;
      late = late_after seat.place g.numbers.passed seat.late;
    }

-- the event of seat i
abbrev pub event_of : ListWorld → ℕ → ListEvent
event_of s i = list_table i (s.seats i) s.words

-- the world after seat i wrote x in this word
abbrev pub after : ListWorld → ℕ → ListWord → ℕ → ListNext → ListWorld
after s i w x next =
    record {
      words = words_with s.words w x next;
      seats = put s.seats i (seat_after s.words next (s.seats i));
      journal = journal_after i next.1 s.journal;
    }

abbrev pub list_rules : Rules ListWorld ListWord ℕ ListNext
list_rules = record { event_of = event_of; found = λ s. found s.words; after = after }

abbrev pub finds : ListWorld → ℕ → ℕ
finds = turns.finds list_rules

-- what its row would do beside its word
abbrev pub effect_of : ListWorld → ℕ → ListEffect
effect_of s i = ((event_of s i).leads (finds s i)).1

abbrev pub can_turn : ListWorld → ℕ → Bool
can_turn = turns.can_turn list_rules

abbrev pub turned : ListWorld → ℕ → ListWorld
turned = turns.turned list_rules

abbrev pub ListTurn : ListWorld → ℕ → ListWorld → Type 0
ListTurn = TurnOf list_rules

-- the seat i at another place
abbrev pub moved : ListWorld → ℕ → ListPlace → ListWorld
moved s i place = record s { seats = put s.seats i (record (s.seats i) { place = place }) }

-- the seat i, which waits with the ticket that it holds
abbrev pub with_ticket : ListSeat → Option Ticket → ListSeat
with_ticket seat None = seat
with_ticket seat (Some t) = record seat { place = Waiting t W1; ticket = None }

abbrev pub waiting : ListWorld → ℕ → ListWorld
waiting s i = record s { seats = put s.seats i (with_ticket (s.seats i) (s.seats i).ticket) }

-- what a caller may choose: to notify one or all; to end after the two looks of a notification of one; to give
-- up a sleep, and, before it has taken the lock, to sleep on
pub data ListChoice : ListPlace → ListPlace → Type 0 where
  notify_one : ListChoice Rest (NotifyingOne 0 O1)
  notify_all : ListChoice Rest (NotifyingAll 0 L1)
  end_looks : (h : ℕ) → ListChoice (NotifyingOne h O3) Rest
  leave : (t : Ticket) → ListChoice (Waiting t (Parked P)) (Waiting t (Parked E1))
  sleep_on : (t : Ticket) → ListChoice (Waiting t (Parked E1)) (Waiting t (Parked P))

-- one step of seat i: a row, or a choice of its caller
pub data ListStep (s : ListWorld) (i : ℕ) : ListWorld → Type 0 where
  turn : {t : ListWorld} → ListTurn s i t → ListStep s i t
  choose : {place : ListPlace} → ListChoice (s.seats i).place place → ListStep s i (moved s i place)
  -- a seat at rest that holds no ticket may take one, and one that holds one may wait with it
  add : (s.seats i).place ≡ Rest → (s.seats i).ticket ≡ None → ListStep s i (moved s i Adding)
  wait : {t : Ticket} → (s.seats i).place ≡ Rest → (s.seats i).ticket ≡ Some t → ListStep s i (waiting s i)

-- the worlds to which steps of the seats lead, and those to which they lead from the first
abbrev pub Leads : ℕ → ListWorld → ListWorld → Type 0
Leads = LeadsBy ListStep

abbrev pub IsListReached : ℕ → ℕ → ListWorld → Type 0
IsListReached first seats s = Leads seats (first_list first) s

-- no seat can run a row
abbrev pub IsListEnd : ℕ → ListWorld → Type 0
IsListEnd = IsEndOf list_rules
