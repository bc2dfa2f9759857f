-- What a line of the layer asks for: counters and lists that are there, and the seat.
use Rattle.std.specs.Prelude.{ℕ, ◌<◌, ◌^◌, length, ⊤}
use Rattle.program_code.specs.declared.instruction.Instruction.{Instruction}
use Rattle.program_code.specs.declared.instruction.Instruction.TheVariants as line
use Rattle.program_rows.specs.Fitting.{FitsPlace}
use Rattle.program_rows.specs.Stored.{Stored}
use Rattle.step_core.specs.State.{WholeMachine, HasListSeat}

-- the seat is there, in each list too, and small numbers name counters and lists
pub record HasAll (layer : WholeMachine) (own : Stored) (i : ℕ) : Type 0 where
  pub seat : i < length own.seats
  pub counters : length layer.semaphores.stored.numbers < 2 ^ 32
  pub lists : length layer.lists < 2 ^ 32
  pub list_seat : (l : ℕ) → l < length layer.lists → HasListSeat layer l i

-- a line of the layer, over so many counters and lists
abbrev pub FitsCall : ℕ → ℕ → Instruction → Type 0
FitsCall counters lists (line.Acquire c lifo) = FitsPlace counters c
FitsCall counters lists (line.Release c share) = FitsPlace counters c
FitsCall counters lists (line.Ticket l) = l < lists
FitsCall counters lists (line.Wait l) = l < lists
FitsCall counters lists (line.One l) = l < lists
FitsCall counters lists (line.All l) = l < lists
FitsCall counters lists _ = ⊤
