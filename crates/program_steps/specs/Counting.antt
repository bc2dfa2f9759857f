-- The law of how the numbers of the sleeping layer grow: each step adds at most one to what is counted, and
-- no counter outgrows 32 bits.
use Rattle.std.specs.Prelude.{ℕ, ◌≡◌, ◌<◌, ◌≤◌, ◌^◌, List, [], length, slice_index_or}
use Rattle.program_code.specs.declared.program.Program.{Program}
use Rattle.program_steps.specs.World.{ProgramWorld}
use Rattle.program_steps.specs.Steps.{Reaches}
use Rattle.program_code.specs.WellFormed.{IsWellFormed}
use Rattle.step_table.specs.Core.{Core}

-- a layer in which no seat has queued more than n waits, and no list has handed out more than n tickets or
-- passed one that wasn't; no ticket has gone; and each counter's number has 32 bits
pub record CountsAtMost (n : ℕ) (s : Core) : Type 0 where
  pub turns : (k : ℕ) → (s.semaphores.seats k).turn ≤ n
  pub handed : (l : ℕ) → (s.lists l).words.numbers.handed ≤ n
  pub passed : (l : ℕ) → (s.lists l).words.numbers.passed ≤ (s.lists l).words.numbers.handed
  pub gone : (l : ℕ) → (s.lists l).words.numbers.gone ≡ []
  pub numbers : (c : ℕ) → s.semaphores.words.numbers c < 2 ^ 32

-- after n steps that is so, where each counter starts with 32 bits: a release that would take one above them
-- fails in place of its first row
abbrev pub NumbersGrowByOne : Type 0
NumbersGrowByOne =
    (p : Program) → IsWellFormed p → length p.seats ≤ 2 ^ 63
    → ((c : ℕ) → slice_index_or p.counters c 0 < 2 ^ 32)
    → (schedule : List ℕ) (s : ProgramWorld) → Reaches p schedule s → CountsAtMost (length schedule) s.layer
