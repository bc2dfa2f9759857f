-- A scenario's run: each seat makes its calls one after the other, and a schedule says whose row runs next.
use Rattle.std.specs.Prelude.{◌≡◌, ◌⊎◌, ℕ, zero, suc, ◌+◌, nat_lt, cond, Bool, true, false, List, [], ◌∷◌}
use Rattle.std.specs.Prelude.{◌++◌, Option, Some, None, length, min, slice_get, slice_index_or, take}
use Rattle.step_table.specs.declared.call.Call.{Call}
use Rattle.step_table.specs.declared.entry.Entry.{Entry}
use Rattle.step_table.specs.declared.list_place.ListWord.{ListWord}
use Rattle.step_table.specs.declared.list_place.ListWord.TheVariants as list_word
use Rattle.step_table.specs.declared.parts.Parts.{Parts}
use Rattle.step_table.specs.declared.refusal.RunRefused.{RunRefused}
use Rattle.step_table.specs.declared.refusal.StepRefused.{StepRefused}
use Rattle.step_table.specs.declared.refusal.StepRefused.TheVariants.{NoSuchSeat, SeatEnded, LockHeld, Asleep}
use Rattle.step_table.specs.declared.refusal.StepRefused.TheVariants.{SeatFailed, NoMemory}
use Rattle.step_table.specs.declared.standing.Standing.{Standing}
use Rattle.step_table.specs.declared.standing.Standing.TheVariants.{Rest, AtCounter, AtList, AtGroup, Left, Failed}
use Rattle.step_table.specs.declared.word.Word.{Word}
use Rattle.step_table.specs.declared.word.Word.TheVariants as word
use Rattle.step_table.specs.World.{root_number, put}
use Rattle.step_table.specs.Steps.{event_of}
use Rattle.step_table.specs.ListSteps as list
use Rattle.step_table.specs.Core.{CoreLayout, Core, first_core}
use Rattle.step_table.specs.CoreSteps.{calls, can_run, core_turned, stands}

-- the machine, and how many of its calls each seat has begun
pub record Run : Type 0 where
  pub core : Core
  pub begun : ℕ → ℕ

-- the root of counter c is c modulo the number of roots, and that of each group's semaphore one of its own
abbrev pub root_in : Parts → ℕ → ℕ
root_in parts = root_number (length parts.starts) parts.roots

abbrev pub layout : Parts → CoreLayout
layout parts =
    record {
      seats = length parts.calls;
      counters = length parts.starts;
      lists = length parts.firsts;
      groups = parts.groups;
      root = root_in parts;
      starts = λ c. slice_index_or parts.starts c 0;
      firsts = λ l. slice_index_or parts.firsts l 0;
    }

-- the call of this number of the seat, if it has so many
abbrev pub call_of : Parts → ℕ → ℕ → Option Call
call_of parts seat number = slice_get (slice_index_or parts.calls seat []) number

-- the seat i begins this call: that is no step
abbrev pub begun : Run → ℕ → Option Call → Run
begun run i None = run
begun run i (Some call) = record { core = calls run.core i call; begun = put run.begun i (run.begun i + 1) }

-- so many of the seat's next calls are left out, of those that there are
abbrev pub left_out : Parts → Run → ℕ → ℕ → Run
left_out parts run i skips =
    record {
      core = stands run.core i Rest;
      begun = put run.begun i (min (run.begun i + skips) (length (slice_index_or parts.calls i [])));
    }

-- where its call has ended, the seat i begins its next one, if it has one
abbrev pub continued : Parts → Run → ℕ → Standing → Run
continued parts run i Rest = begun run i (call_of parts i (run.begun i))
continued parts run i (Left skips) =
    let next : Run = left_out parts run i skips in begun next i (call_of parts i (next.begun i))
continued parts run i standing = run

-- each of the first n seats has begun its first call
abbrev pub all_begun : Parts → Run → ℕ → Run
all_begun parts run zero = run
all_begun parts run (suc n) = let before : Run = all_begun parts run n in begun before n (call_of parts n 0)

-- the start: each counter at its number, each list at its first ticket, nobody waits, each seat at the first
-- row of its first call, and nothing else
abbrev pub start : Parts → Run
start parts =
    all_begun parts (record { core = first_core (layout parts); begun = λ s. 0 }) (length parts.calls)

-- the run after a step of seat i: its row, and where that ended its call the next begins
abbrev pub stepped : Parts → Run → ℕ → Run
stepped parts run i =
    let next : Run = record run { core = core_turned (layout parts) run.core i } in
    continued parts next i (next.core.standing i)

-- why a row can't run: its word is a lock that is held, or a grant that isn't there
abbrev pub refused_at : Word → StepRefused
refused_at (word.Lock c) = LockHeld
refused_at w = Asleep

abbrev pub list_refused_at : ListWord → StepRefused
list_refused_at list_word.Lock = LockHeld
list_refused_at w = Asleep

abbrev pub unless : Bool → StepRefused → Option StepRefused
unless true cause = None
unless false cause = Some cause

-- why seat i, which does this, can't step
abbrev pub refusal_of : CoreLayout → Core → ℕ → Standing → Option StepRefused
refusal_of m s i Rest = Some SeatEnded
refusal_of m s i (AtCounter after) =
    unless (can_run m s i (AtCounter after)) (refused_at (event_of s.semaphores i).word)
refusal_of m s i (AtList l ending) =
    unless (can_run m s i (AtList l ending)) (list_refused_at (list.event_of (s.lists l) i).word)
refusal_of m s i (AtGroup g row) = None
refusal_of m s i (Left skips) = Some SeatEnded
refusal_of m s i (Failed misuse) = Some SeatFailed

-- why seat i can't step, memory aside: there is no such seat, it has ended or failed, or its row's condition
-- doesn't hold
abbrev pub refusal : Parts → Run → ℕ → Option StepRefused
refusal parts run i =
    cond (nat_lt i (length parts.calls)) (refusal_of (layout parts) run.core i (run.core.standing i))
    (Some NoSuchSeat)

-- the row of seat i has an entry
abbrev pub HasEntry : Parts → Run → ℕ → Type 0
HasEntry parts run i =
    (e : Entry) × ((core_turned (layout parts) run.core i).journal ≡ run.core.journal ++ e ∷ [])

-- a step is refused by this: its own cause, or want of memory, which is answered only for a row that could
-- run and has an entry
abbrev pub IsRefusedBy : StepRefused → Parts → Run → ℕ → Type 0
IsRefusedBy NoMemory parts run i = (refusal parts run i ≡ None) × HasEntry parts run i
IsRefusedBy cause parts run i = refusal parts run i ≡ Some cause

-- the run to which a schedule leads
abbrev pub after_all : Parts → Run → List ℕ → Run
after_all parts run [] = run
after_all parts run (i ∷ schedule) = after_all parts (stepped parts run i) schedule

abbrev pub reached : Parts → List ℕ → Run
reached parts schedule = after_all parts (start parts) schedule

-- each step in turn can run
abbrev pub AllRunFrom : Parts → Run → List ℕ → Type 0
AllRunFrom parts run [] = Unit {0}
AllRunFrom parts run (i ∷ schedule) =
    (refusal parts run i ≡ None) × AllRunFrom parts (stepped parts run i) schedule

abbrev pub AllRun : Parts → List ℕ → Type 0
AllRun parts schedule = AllRunFrom parts (start parts) schedule

-- the steps before this one can run in turn, and it is refused by this
pub record IsRefusedAt (parts : Parts) (schedule : List ℕ) (at : ℕ) (cause : StepRefused) : Type 0 where
  pub before : AllRun parts (take at schedule)
  pub here : (i : ℕ) × (slice_get schedule at ≡ Some i)
      × IsRefusedBy cause parts (reached parts (take at schedule)) i

-- a schedule is refused: there was no memory for the start, which is told of step 0, or this is its first
-- step that can't be run
abbrev pub IsRefusedRun : RunRefused → Parts → List ℕ → Type 0
IsRefusedRun refused parts schedule =
    ((refused.at ≡ 0) × (refused.cause ≡ NoMemory)) ⊎ IsRefusedAt parts schedule refused.at refused.cause
