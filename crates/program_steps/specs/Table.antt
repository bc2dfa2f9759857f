-- What a table tells of a code: which registers are in use before each of its lines.
use Rattle.std.specs.Prelude.{ℕ, ◌<◌, Bool, false, IsTrue, ◌↔◌, List, [], slice_index_or}
use Rattle.program_code.specs.declared.program.CodeLine.{CodeLine}
use Rattle.program_steps.specs.InUse.{IsInUse}

-- what a table, which has a list of lines for each register, says of a register before line n
abbrev pub tells : List (List Bool) → ℕ → ℕ → Bool
tells table n r = slice_index_or (slice_index_or table r []) n false

-- the table says of each of the first registers, before each line and behind the last, whether it is in use
abbrev pub IsTableOf : List CodeLine → ℕ → List (List Bool) → Type 0
IsTableOf code registers table = (r n : ℕ) → r < registers → IsTrue (tells table n r) ↔ IsInUse code r n
