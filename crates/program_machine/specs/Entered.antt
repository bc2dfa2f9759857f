-- Which sections a seat comes into by a step, as it is told.
use Rattle.std.specs.Prelude.{ℕ, Bool, false, List, IsTrue, ◌↔◌}
use Rattle.program_code.specs.declared.program.Program.{Program}
use Rattle.program_machine.specs.Shared.{Shared, world_of}
use Rattle.program_steps.specs.Entering.{EntersBy}
use Rattle.step_rows.specs.Stored.{each}
use Rattle.step_table.specs.declared.entry.Entry.{Entry}

-- these are the sections that seat i comes into by its step, whatever the journal of the layer tells
abbrev pub AreEntered : Program → Shared → ℕ → List Bool → Type 0
AreEntered p s i entered = (journal : List Entry) (k : ℕ) → IsTrue (each false entered k) ↔ EntersBy p (world_of s journal) i k
