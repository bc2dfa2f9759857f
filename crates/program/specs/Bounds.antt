-- What keeps the reader's own numbers small.
use Rattle.std.specs.Prelude.{⊤, ◌≤◌, Result, Ok, Err}
use Rattle.std.specs.List.{All}
use Rattle.program_text.specs.declared.cause.ProgramCause.{ProgramCause}
use Rattle.program.specs.declared.names.Cells.{Cells}
use Rattle.program.specs.declared.names.CellSpan.{CellSpan}
use Rattle.program.specs.declared.names.DeclaredNames.{DeclaredNames}

abbrev pub IsNear : Cells → Type 0
IsNear c = c.span.first ≤ 32

-- words and counters have small numbers
pub record AreNear (names : DeclaredNames) : Type 0 where
  pub words : All IsNear names.words
  pub counters : All IsNear names.counters

abbrev pub IsNearWhere : Result CellSpan ProgramCause → Type 0
IsNearWhere (Ok span) = span.first ≤ 32
IsNearWhere (Err cause) = ⊤
