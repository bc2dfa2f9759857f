-- What is true of each run that is stored, whichever table it steps by: what rows ask for follows from it.
use Rattle.std.specs.Prelude.{◌≡◌, ℕ, ◌<◌, ◌^◌, List, Option, Some, None, length}
use Rattle.step_table.specs.declared.entry.Entry.{Entry}
use Rattle.step_law_alike.specs.declared.variant.Variant.{Variant}
use Rattle.step_law_alike.specs.ChangedInvariant.{IsWellFormedCore, WaitersRaisedIn}
use Rattle.step_table.specs.Core.{counters_of}
use Rattle.step_table.specs.Run.{layout}
use Rattle.step_law_whole.specs.RunInvariant.{IsSoundRunOf, IsScenario}
use Rattle.step_rows.specs.Stored.{IsStoredFor}
use Rattle.step_core.specs.State.{Moment, State, FewLeave, IsMachineFor, IsSound, run_of, telling}

-- form and bounds of a run by the step table with this change
pub record IsWellFormed (v : Variant) (m : State) : Type 0 where
  pub scenario : IsScenario m.parts
  pub starts : (c : ℕ) → (layout m.parts).starts c < 2 ^ 32
  pub stored : IsStoredFor (length m.parts.starts) m.parts.groups m.parts.roots
      (length m.parts.calls) m.machine.semaphores.stored
  pub machine : IsMachineFor (layout m.parts) m.machine
  pub begun : length m.begun ≡ length m.parts.calls
  pub run : IsSoundRunOf (IsWellFormedCore (layout m.parts)) m.parts (run_of m)
  pub leave : FewLeave m.parts (run_of m)
  pub waiters : WaitersRaisedIn v (counters_of (layout m.parts)) (run_of m).core.semaphores

-- by the step table the run is sound, by a change of it well formed
abbrev pub IsSoundBy : Option Variant → State → Type 0
IsSoundBy None m = IsSound m
IsSoundBy (Some v) m = IsWellFormed v m

-- some journal tells how the moment came to be
abbrev pub HasPast : Moment → Type 0
HasPast m = (journal : List Entry) × IsSoundBy m.table (telling m journal)
