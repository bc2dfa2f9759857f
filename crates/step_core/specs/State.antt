-- The machine as it is stored, and the run that it shows.
use Rattle.std.specs.Prelude.{◌≡◌, ℕ, ◌+◌, ◌^◌, ◌<◌, ◌≤◌, List, [], ◌∷◌, ◌++◌, Option, Some, None, IsTrue}
use Rattle.std.specs.Prelude.{Bool, true, false}
use Rattle.std.specs.Prelude.{length, slice_index_or}
use Rattle.step_table.specs.declared.call.Call.{Call}
use Rattle.step_table.specs.declared.call.Call.TheVariants.{Add, Wait, WaitOrLeave, One, All}
use Rattle.step_table.specs.declared.entry.Entry.{Entry}
use Rattle.step_table.specs.declared.entry.Entry.TheVariants.{Ticket, Grant, Forgo}
use Rattle.step_table.specs.declared.group_word.GroupWord.{GroupWord}
use Rattle.step_table.specs.declared.list_place.ListEffect.{ListEffect}
use Rattle.step_table.specs.declared.list_place.ListEffect.TheVariants.{HandsOut, Grants, Forgoes}
use Rattle.step_table.specs.declared.list_place.ListPlace.{ListPlace}
use Rattle.step_table.specs.declared.list_place.ListPlace.TheVariants.{Waiting}
use Rattle.step_table.specs.declared.list_place.WaitRow.TheVariants.{E4}
use Rattle.step_core.specs.declared.turn.Turn.{Turn}
use Rattle.step_core.specs.declared.turn.Turn.TheVariants as turn
use Rattle.step_table.specs.declared.refusal.StepRefused.{StepRefused}
use Rattle.step_table.specs.declared.parts.Parts.{Parts}
use Rattle.step_table.specs.declared.standing.After.{After}
use Rattle.step_table.specs.declared.place.AcquireRow.TheVariants as on_counter
use Rattle.step_table.specs.declared.place.AcquireRow.TheVariants.{D4}
use Rattle.step_table.specs.declared.place.ParkedRow.TheVariants.{D2, D3}
use Rattle.step_table.specs.declared.place.Place.{Place}
use Rattle.step_table.specs.declared.place.Place.TheVariants.{Acquiring}
use Rattle.step_table.specs.declared.standing.After.TheVariants.{Closes, LooksAgain, Releases}
use Rattle.step_table.specs.declared.standing.Ending.{Ending}
use Rattle.step_table.specs.declared.standing.Ending.TheVariants.{MayGiveUp}
use Rattle.step_table.specs.declared.standing.GroupRow.TheVariants.{V1, V2}
use Rattle.step_table.specs.declared.standing.Standing.{Standing}
use Rattle.step_table.specs.declared.standing.Standing.TheVariants.{Rest, AtCounter, AtList, AtGroup}
use Rattle.step_table.specs.Counting.{total}
use Rattle.step_table.specs.Journal.{Plain, plain_start, replay}
use Rattle.step_rows.specs.Stored.{SemaMachine, IsStoredFor, IsSameSize, HasRow, IsReadyFor, each, root_of}
use Rattle.step_rows.specs.Stored.{event_in, finds_in}
use Rattle.step_rows.specs.Stored as sema
use Rattle.step_table.specs.ListWorld.{ListWorld}
use Rattle.step_law_lists.specs.ListGrants.{EachGrantsLeast}
use Rattle.step_law_semaphores.specs.Lawful.{withdrawals}
use Rattle.step_rows.specs.ListStored.{StoredList, CanStep, IsListReady}
use Rattle.step_rows.specs.ListStored as list
use Rattle.step_table.specs.Group.{empty_word}
use Rattle.step_table.specs.Core.{CoreLayout, Core, sema_entries, list_entries}
use Rattle.step_table.specs.CoreSteps.{IsCoreEnd, core_turned, may_give_up, may_give_up_on_list}
use Rattle.step_law_whole.specs.CoreLaw.{IsCoreAtRest}
use Rattle.step_law_whole.specs.RunPromises.{IsLawfulRun}
use Rattle.step_table.specs.Run.{Run, layout, call_of, begun, left_out, continued, start, refusal_of, reached, AllRun}
use Rattle.step_law_alike.specs.declared.variant.Variant.{Variant}
use Rattle.step_law_whole.specs.RunInvariant.{IsSoundRun, IsScenario}
use Rattle.step_law_whole.specs.RunWeight.{most_steps}

-- the semaphores, the lists, the words of the groups, and what each seat is doing
pub record WholeMachine : Type 0 where
  pub semaphores : SemaMachine
  pub lists : List StoredList
  pub groups : List GroupWord
  pub standing : List Standing

-- a list without seats, on which nothing has happened
abbrev pub no_list : StoredList
no_list =
    record {
      wait = 0;
      notify = 0;
      lock = 0;
      handed = 0;
      passed = 0;
      gone_numbers = [];
      gone = [];
      queue = [];
      seats = [];
    }

-- the list l, with what this journal tells of it
abbrev pub list_of : List StoredList → List Entry → ℕ → ListWorld
list_of lists journal l = list.world_of (each no_list lists l) (list_entries l journal)

-- so many lists at these first tickets, with so many seats each
pub record AreFirst (firsts : List ℕ) (number seats : ℕ) (lists : List StoredList) : Type 0 where
  pub count : length lists ≡ number
  pub first : (l : ℕ) → l < number
      → list.moment_of (each no_list lists l) ≡ list.first_moment (slice_index_or firsts l 0) seats

-- the whole machine, with this journal
abbrev pub core_of : WholeMachine → List Entry → Core
core_of h journal =
    record {
      semaphores = sema.world_of h.semaphores (sema_entries journal);
      lists = list_of h.lists journal;
      groups = each empty_word h.groups;
      standing = each Rest h.standing;
      journal = journal;
    }

-- the machine has this layout
pub record IsMachineFor (m : CoreLayout) (h : WholeMachine) : Type 0 where
  pub root : root_of h.semaphores.stored ≡ m.root
  pub counters : h.semaphores.stored.own ≡ m.counters
  pub callers : length h.semaphores.callers ≡ m.seats
  pub lists : length h.lists ≡ m.lists
  pub seats : (l : ℕ) → l < m.lists → length (each no_list h.lists l).seats ≡ m.seats
  pub groups : length h.groups ≡ m.groups
  pub standing : length h.standing ≡ m.seats

-- as many of everything
pub record AreSameSize (h k : WholeMachine) : Type 0 where
  pub semaphores : IsSameSize h.semaphores k.semaphores
  pub lists : length k.lists ≡ length h.lists
  pub seats : (l : ℕ) → length (each no_list k.lists l).seats ≡ length (each no_list h.lists l).seats
  pub groups : length k.groups ≡ length h.groups
  pub standing : length k.standing ≡ length h.standing

-- the machine has changed to what `f` makes of it, with each journal
pub record Becomes (f : CoreLayout → Core → Core) (h k : WholeMachine) : Type 0 where
  pub alike : AreSameSize h k
  pub core : (m : CoreLayout) → IsMachineFor m h → (journal : List Entry)
      → core_of k (f m (core_of h journal)).journal ≡ f m (core_of h journal)

-- the seat is one of the machine's
abbrev pub HasSeat : WholeMachine → ℕ → Type 0
HasSeat h i = (i < length h.semaphores.callers) × (i < length h.standing)

abbrev pub HasListSeat : WholeMachine → ℕ → ℕ → Type 0
HasListSeat h l i = (l < length h.lists) × (i < length (each no_list h.lists l).seats)

-- and it is one of the list that its call is on
abbrev pub HasSeatOn : WholeMachine → ℕ → Standing → Type 0
HasSeatOn h i (AtList l ending) = HasListSeat h l i
HasSeatOn h i _ = Unit {0}

abbrev pub HasSeatAt : WholeMachine → ℕ → Type 0
HasSeatAt h i = HasSeat h i × HasSeatOn h i (each Rest h.standing i)

-- a group has a counter
abbrev pub HasGroup : WholeMachine → ℕ → Type 0
HasGroup h g = h.semaphores.stored.own + g < 2 ^ 32

-- a seat may begin this call, and may go on with what comes after a call on a counter, or after a row
abbrev pub MayBegin : WholeMachine → ℕ → Call → Type 0
MayBegin h i (Add l) = HasListSeat h l i
MayBegin h i (Wait l) = HasListSeat h l i
MayBegin h i (WaitOrLeave l how) = HasListSeat h l i
MayBegin h i (One l) = HasListSeat h l i
MayBegin h i (All l) = HasListSeat h l i
MayBegin h i _ = Unit {0}

abbrev pub MayGoOn : WholeMachine → After → Type 0
MayGoOn h (Releases g more) = HasGroup h g
MayGoOn h _ = Unit {0}

abbrev pub MayGo : WholeMachine → Standing → Type 0
MayGo h (AtCounter after) = MayGoOn h after
MayGo h (AtGroup g row) = HasGroup h g
MayGo h _ = Unit {0}

-- why the seat can't step, or that it can
abbrev pub IsRefusal : WholeMachine → ℕ → Option StepRefused → Type 0
IsRefusal h i cause =
    (m : CoreLayout) → IsMachineFor m h → (journal : List Entry)
    → refusal_of m (core_of h journal) i (each Rest h.standing i) ≡ cause

-- what the row asks for of a seat that does this
abbrev pub AsksFor : WholeMachine → ℕ → Standing → Type 0
AsksFor h i (AtCounter after) = HasRow h.semaphores i
AsksFor h i (AtList l ending) = (l < length h.lists) × CanStep (each no_list h.lists l) i
AsksFor h i (AtGroup g row) = g < length h.groups
AsksFor h i _ = Unit {0}

-- a call, after which this comes, may give up while its seat sleeps
abbrev pub is_given_up_in_sleep : After → Bool
is_given_up_in_sleep (Closes (MayGiveUp how)) = true
is_given_up_in_sleep (LooksAgain g (MayGiveUp how)) = true
is_given_up_in_sleep after = false

-- seat i sleeps in a call on a counter that may give up, after which this comes
abbrev pub gives_up_in : WholeMachine → ℕ → After → Bool
gives_up_in h i after = may_give_up (sema.world_of h.semaphores []) i after

-- it sleeps on the list l in such a call
abbrev pub gives_up_on_list_in : WholeMachine → ℕ → ℕ → Ending → Bool
gives_up_on_list_in h l i ending = may_give_up_on_list (list.world_of (each no_list h.lists l) []) i ending

-- this is the row of a seat that does this, and it can run
abbrev pub IsReadyAt : WholeMachine → ℕ → Standing → Turn → Type 0
IsReadyAt h i (AtCounter after) (turn.OnCounter next ready) =
    (next ≡ after) × IsReadyFor h.semaphores i ready
    × IsTrue ((event_in h.semaphores i).can (finds_in h.semaphores i)) × (gives_up_in h i after ≡ false)
IsReadyAt h i (AtCounter after) (turn.GivesUp next) = (next ≡ after) × (gives_up_in h i after ≡ true)
IsReadyAt h i (AtList l ending) (turn.OnList k next ready) =
    (k ≡ l) × (next ≡ ending) × (l < length h.lists) × IsListReady (each no_list h.lists l) i ready
    × (gives_up_on_list_in h l i ending ≡ false)
IsReadyAt h i (AtList l ending) (turn.GivesUpOnList k next) =
    (k ≡ l) × (next ≡ ending) × (l < length h.lists) × (gives_up_on_list_in h l i ending ≡ true)
IsReadyAt h i (AtGroup g row) (turn.OnGroup k now) = (k ≡ g) × (now ≡ row) × (g < length h.groups)
IsReadyAt h i _ _ = ⊥

abbrev pub IsReady : WholeMachine → ℕ → Turn → Type 0
IsReady h i ready = IsReadyAt h i (each Rest h.standing i) ready

-- what the journal tells of a row of seat s on the list l
abbrev pub list_entry : ℕ → ℕ → ListEffect → Option Entry
list_entry l s (HandsOut t) = Some (Ticket l s)
list_entry l s (Grants upto) = Some (Grant l upto s)
list_entry l s (Forgoes w) = Some (Forgo l w.id.turn s)
list_entry l s _ = None

-- the journal with the entry, if there is one
abbrev pub and_then : List Entry → Option Entry → List Entry
and_then journal None = journal
and_then journal (Some e) = journal ++ e ∷ []

-- the seat has run its row, which told this
pub record HasRunRow (i : ℕ) (h k : WholeMachine) (entry : Option Entry) : Type 0 where
  pub turned : Becomes (λ m s. core_turned m s i) h k
  pub told : (m : CoreLayout) → IsMachineFor m h → (journal : List Entry)
      → (core_turned m (core_of h journal) i).journal ≡ and_then journal entry

-- the run of the machine, with how many calls each seat has begun
abbrev pub run_with : WholeMachine → List ℕ → List Entry → Run
run_with h counts journal = record { core = core_of h journal; begun = each 0 counts }

-- the seat has begun its next call, if it has one: with each journal, its run is the one in which it has
pub record HasBegun (parts : Parts) (i : ℕ) (h : WholeMachine) (counts : List ℕ) (k : WholeMachine) (now : List ℕ)
    : Type 0 where
  pub alike : AreSameSize h k
  pub count : length now ≡ length counts
  pub run : (journal : List Entry)
      → run_with k now journal ≡ begun (run_with h counts journal) i (call_of parts i (each 0 counts i))

-- so many of its next calls are left out
pub record HasLeftOut (parts : Parts) (i skips : ℕ) (h : WholeMachine) (counts : List ℕ) (k : WholeMachine)
    (now : List ℕ) : Type 0 where
  pub alike : AreSameSize h k
  pub count : length now ≡ length counts
  pub run : (journal : List Entry) → run_with k now journal ≡ left_out parts (run_with h counts journal) i skips
  pub few : each 0 now i ≤ length (slice_index_or parts.calls i [])

-- where the call of the seat, which does this, has ended, it has begun the next
pub record GoesOn (parts : Parts) (i : ℕ) (h : WholeMachine) (counts : List ℕ) (k : WholeMachine) (now : List ℕ)
    (standing : Standing) : Type 0 where
  pub alike : AreSameSize h k
  pub count : length now ≡ length counts
  pub run : (journal : List Entry)
      → run_with k now journal ≡ continued parts (run_with h counts journal) i standing

-- all that a run has at one moment but its journal, and the change of the step table by which it steps, if
-- there is one
pub record Moment : Type 0 where
  pub parts : Parts
  pub machine : WholeMachine
  pub begun : List ℕ
  pub table : Option Variant

-- how a run stands, with its journal
pub record State : Type 0 where
  pub parts : Parts
  pub machine : WholeMachine
  pub begun : List ℕ
  pub journal : List Entry

-- the moment, and a journal of how it came to be
abbrev pub telling : Moment → List Entry → State
telling m journal = record { parts = m.parts; machine = m.machine; begun = m.begun; journal = journal }

abbrev pub run_of : State → Run
run_of m = run_with m.machine m.begun m.journal

-- the run that a moment shows, with nothing in its journal
abbrev pub run_at : Moment → Run
run_at m = run_of (telling m [])

-- the numbers and lists that the journal tells
abbrev pub told : State → Plain
told m = replay (plain_start (layout m.parts).starts) m.journal

-- each part of what is shown is lawful, and where no seat can run, it is at rest
abbrev pub ShowsLawful : State → Type 0
ShowsLawful m = IsLawfulRun (layout m.parts) (run_of m).core

abbrev pub RestsAtEnd : State → Type 0
RestsAtEnd m = IsCoreEnd (layout m.parts) (run_of m).core → IsCoreAtRest (layout m.parts) (run_of m).core

-- each grant of the journal is of the least ungranted ticket alone, or of all that were handed out when L5
-- read the wait word
abbrev pub TellsLeast : State → Type 0
TellsLeast m =
    (l : ℕ) → EachGrantsLeast ((layout m.parts).firsts l) (length m.parts.calls) (list_entries l m.journal)

-- no schedule that leads here has more steps than all calls of the scenario cost
abbrev pub HasFewSteps : State → Type 0
HasFewSteps m = (schedule : List ℕ) → AllRun m.parts schedule → run_of m ≡ reached m.parts schedule
    → length schedule ≤ most_steps m.parts

-- 1 where a seat at this place of a list waits with a ticket that may still go
abbrev pub may_go : ListPlace → ℕ
may_go (Waiting t E4) = 0
may_go (Waiting t row) = 1
may_go place = 0

-- 1 where a call that ends so may still be given up
abbrev pub may_be_left : Ending → ℕ
may_be_left (MayGiveUp how) = 1
may_be_left _ = 0

-- 1 where the seat, which does this and stands at this place of a counter, may still withdraw its wait
abbrev pub may_leave : Standing → ℕ
may_leave (AtCounter (Closes ending)) = may_be_left ending
may_leave (AtCounter (LooksAgain g ending)) = may_be_left ending
may_leave _ = 0

abbrev pub may_withdraw : Place → Standing → ℕ
may_withdraw (Acquiring a (on_counter.Parked turn D2)) doing = 1
may_withdraw (Acquiring a (on_counter.Parked turn D3)) doing = 1
may_withdraw (Acquiring a D4) doing = 0
may_withdraw (Acquiring a row) doing = may_leave doing
may_withdraw place doing = 0

-- 1 where it is about to wait on a group, and may withdraw that wait
abbrev pub may_sleep : Standing → ℕ
may_sleep (AtGroup g (V1 ending)) = may_be_left ending
may_sleep (AtGroup g (V2 ending w)) = may_be_left ending
may_sleep _ = 0

-- each call withdraws at most one wait, or lets one ticket of a list go
pub record FewLeave (parts : Parts) (run : Run) : Type 0 where
  pub waits :
      withdrawals run.core.semaphores.journal
      + total (length parts.calls)
      (λ k. may_withdraw (run.core.semaphores.seats k).place (run.core.standing k) + may_sleep (run.core.standing k))
      ≤ total (length parts.calls) run.begun
  pub tickets : (l : ℕ) →
      length (run.core.lists l).words.numbers.gone
      + total (length parts.calls) (λ k. may_go ((run.core.lists l).seats k).place)
      ≤ total (length parts.calls) run.begun

-- what is true of every run by the step table that is stored
pub record IsSound (m : State) : Type 0 where
  pub scenario : IsScenario m.parts
  pub starts : (c : ℕ) → (layout m.parts).starts c < 2 ^ 32
  pub stored : IsStoredFor (length m.parts.starts) m.parts.groups m.parts.roots
      (length m.parts.calls) m.machine.semaphores.stored
  pub machine : IsMachineFor (layout m.parts) m.machine
  pub begun : length m.begun ≡ length m.parts.calls
  pub run : IsSoundRun m.parts (run_of m)
  pub leave : FewLeave m.parts (run_of m)

-- the run starts: these parts, and the run at its start
pub record IsStarted (scenario : Parts) (m : State) : Type 0 where
  pub parts : m.parts ≡ scenario
  pub run : run_of m ≡ start scenario

-- what the journal tells of a row of seat s
abbrev pub entry_of : ℕ → Turn → Option Entry
entry_of s (turn.OnCounter next ready) = sema.entry_of ready.outcome.effect
entry_of s (turn.OnList l ending ready) = list_entry l s ready.outcome.effect
entry_of s (turn.GivesUp after) = None
entry_of s (turn.GivesUpOnList l ending) = None
entry_of s (turn.OnGroup g row) = None
