-- A row of the layer that has run, and one that can't, in any world above it.
use Rattle.std.specs.Prelude.{◌≡◌, ℕ, List, Some, None}
use Rattle.program_steps.specs.declared.stand.Then.{Then}
use Rattle.program_steps.specs.Steps.{layer_row}
use Rattle.program_steps.specs.World.{ProgramWorld}
use Rattle.step_core.specs.State.{WholeMachine, IsMachineFor, core_of}
use Rattle.step_table.specs.declared.call.Call.{Call}
use Rattle.step_table.specs.declared.entry.Entry.{Entry}
use Rattle.step_table.specs.Core.{CoreLayout, Core}
use Rattle.step_table.specs.CoreSteps.{calls}

-- the layer as it is, and with this call begun
abbrev pub as_it_is : Core → Core
as_it_is c = c

abbrev pub with_call : ℕ → Call → Core → Core
with_call i call c = calls c i call

-- the layer's row of seat i at line n has run, from the layer that `from` makes of what is stored: what the
-- journal tells then, which no row reads, is what the layer's steps tell
abbrev pub HasLayerRow : WholeMachine → ℕ → ℕ → (Core → Core) → WholeMachine → Then → Type 0
HasLayerRow h i n from k next =
    (m : CoreLayout) → IsMachineFor m h → (journal : List Entry) → (told : List Entry)
    × ((s : ProgramWorld) → layer_row m s i n (from (core_of h journal))
    ≡ Some (record { world = record s { layer = core_of k told }; next = next }))

-- it can't run
abbrev pub HasNoLayerRow : WholeMachine → ℕ → ℕ → (Core → Core) → Type 0
HasNoLayerRow h i n from =
    (m : CoreLayout) → IsMachineFor m h → (journal : List Entry) (s : ProgramWorld)
    → layer_row m s i n (from (core_of h journal)) ≡ None
