-- The layer and what a lock program has of its own, as they are stored, and the world that they show.
use Rattle.std.specs.Prelude.{List, []}
use Rattle.program_rows.specs.Stored.{Stored, world_over}
use Rattle.program_steps.specs.World.{ProgramWorld}
use Rattle.step_core.specs.State.{WholeMachine, core_of}
use Rattle.step_table.specs.declared.entry.Entry.{Entry}

pub record Shared : Type 0 where
  pub layer : WholeMachine
  pub own : Stored

-- with what the journal of the layer tells
abbrev pub world_of : Shared → List Entry → ProgramWorld
world_of s journal = world_over (core_of s.layer journal) s.own

-- with nothing in it
abbrev pub world_at : WholeMachine → Stored → ProgramWorld
world_at layer own = world_over (core_of layer []) own
