-- Steps of the world: rows of the table, and what a caller may begin or give up between them.
use Rattle.std.specs.Prelude.{ℕ, ◌<◌, ◌≤◌, Bool}
use Rattle.step_table.specs.declared.place.Acquire.{Acquire}
use Rattle.step_table.specs.declared.place.AcquireRow.TheVariants.{A1, A3, Parked}
use Rattle.step_table.specs.declared.place.ParkedRow.TheVariants.{P, D2, D3, D5}
use Rattle.step_table.specs.declared.place.Release.{Release}
use Rattle.step_table.specs.declared.place.ReleaseRow.TheVariants.{R1, R3}
use Rattle.step_table.specs.declared.place.ReleaseMany.{ReleaseMany}
use Rattle.step_table.specs.declared.place.ManyRow.TheVariants.{M1}
use Rattle.step_table.specs.declared.place.Place.{Place}
use Rattle.step_table.specs.declared.place.Place.TheVariants.{Rest, Acquiring, Releasing, ReleasingMany}
use Rattle.step_table.specs.declared.word.Word.{Word}
use Rattle.step_table.specs.World.{Layout, Words, SemaWorld, put, found, written, lists_after, journal_after}
use Rattle.step_table.specs.World.{seat_after, first_world}
use Rattle.step_table.specs.Event.{Event, Next}
use Rattle.step_table.specs.Turn.{Rules, TurnOf, LeadsBy, IsEndOf}
use Rattle.step_table.specs.Turn as turns
use Rattle.step_table.specs.Table.{table}

-- the words and lists after x was written in this word
abbrev pub words_with : (ℕ → ℕ) → Words → Word → ℕ → Next → Words
words_with root g w x next =
    let h : Words = written root g w x in record h { lists = lists_after next.1 h.lists }

-- those after an event that found v
abbrev pub words_after : (ℕ → ℕ) → Words → Event → ℕ → Words
words_after root g e v = words_with root g e.word (e.becomes v) (e.leads v)

-- the event of seat i
abbrev pub event_of : SemaWorld → ℕ → Event
event_of s i = table i (s.seats i) s.words.lists

-- the world after seat i wrote x in this word
abbrev pub after : (ℕ → ℕ) → SemaWorld → ℕ → Word → ℕ → Next → SemaWorld
after root s i w x next =
    record {
      words = words_with root s.words w x next;
      seats = put s.seats i (seat_after next.1 next.0 (s.seats i));
      journal = journal_after next.1 s.journal;
    }

abbrev pub rules : (ℕ → ℕ) → Rules SemaWorld Word ℕ Next
rules root = record { event_of = event_of; found = λ s. found root s.words; after = after root }

abbrev pub finds : (ℕ → ℕ) → SemaWorld → ℕ → ℕ
finds root = turns.finds (rules root)

abbrev pub can_turn : (ℕ → ℕ) → SemaWorld → ℕ → Bool
can_turn root = turns.can_turn (rules root)

abbrev pub turned : (ℕ → ℕ) → SemaWorld → ℕ → SemaWorld
turned root = turns.turned (rules root)

abbrev pub Turn : (ℕ → ℕ) → SemaWorld → ℕ → SemaWorld → Type 0
Turn root = TurnOf (rules root)

-- the seat i at another place
abbrev pub moved : SemaWorld → ℕ → Place → SemaWorld
moved s i place = record s { seats = put s.seats i (record (s.seats i) { place = place }) }

-- what a caller may choose: to begin an acquire, at its first row or at the lock, a release, or a release of
-- 1 to 256 units; to give up an acquire before it has the lock; of a release that goes to the lock, whether it
-- hands its unit over; to give up a sleep, to sleep on before it has the lock, and to sleep on after it found
-- its wait queued
pub data Choice (counters : ℕ) : Place → Place → Type 0 where
  acquire : (a : Acquire) → a.counter < counters → Choice counters Rest (Acquiring a A1)
  enter : (a : Acquire) → a.counter < counters → Choice counters Rest (Acquiring a A3)
  release : (r : Release) → r.counter < counters → Choice counters Rest (Releasing r R1)
  release_many : (r : ReleaseMany) → r.counter < counters → 1 ≤ r.units → r.units ≤ 256
      → Choice counters Rest (ReleasingMany r M1)
  give_up : (a : Acquire) → Choice counters (Acquiring a A1) Rest
  give_up_lock : (a : Acquire) → Choice counters (Acquiring a A3) Rest
  decide : (r : Release) (handoff : Bool)
      → Choice counters (Releasing r R3) (Releasing (record r { handoff = handoff }) R3)
  leave : (a : Acquire) (turn : ℕ) → Choice counters (Acquiring a (Parked turn P)) (Acquiring a (Parked turn D2))
  sleep_on : (a : Acquire) (turn : ℕ) → Choice counters (Acquiring a (Parked turn D2)) (Acquiring a (Parked turn P))
  stay : (a : Acquire) (turn : ℕ) → Choice counters (Acquiring a (Parked turn D3)) (Acquiring a (Parked turn D5))

-- one step of seat i: a row, or a choice of its caller
pub data Step (m : Layout) (s : SemaWorld) (i : ℕ) : SemaWorld → Type 0 where
  turn : {t : SemaWorld} → Turn m.root s i t → Step m s i t
  choose : {place : Place} → Choice m.counters (s.seats i).place place → Step m s i (moved s i place)

-- the worlds to which steps of the seats lead
abbrev pub IsReached : Layout → SemaWorld → Type 0
IsReached m = LeadsBy (Step m) m.seats (first_world m.starts)

-- no seat can run a row
abbrev pub IsEnd : Layout → SemaWorld → Type 0
IsEnd m = IsEndOf (rules m.root) m.seats
