-- A program with a table for each of its codes: which registers are in use before each line.
use Rattle.std.specs.Prelude.{◌≡◌, ◌<◌, ℕ, Bool, List, [], length, slice_index_or}
use Rattle.program_code.specs.declared.program.Program.{Program}
use Rattle.program_code.specs.WellFormed.{IsWellFormed, IsFew}
use Rattle.program_steps.specs.Table.{IsTableOf}

-- the first so many codes have tables
pub record ArePrepared (p : Program) (tables : List (List (List Bool))) (many : ℕ) : Type 0 where
  pub count : length tables ≡ many
  pub each : (k : ℕ) → k < many → IsTableOf (slice_index_or p.codes k []) 8 (slice_index_or tables k [])

pub record IsPrepared (p : Program) (tables : List (List (List Bool))) : Type 0 where
  pub formed : IsWellFormed p
  pub few : IsFew p
  pub tables_are : ArePrepared p tables (length p.codes)
