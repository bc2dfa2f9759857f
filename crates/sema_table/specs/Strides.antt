-- What a view has of a stride.
use Rattle.std.specs.Prelude.{◌≡◌, Option, Some, None}
use Rattle.step_table.specs.declared.word.Word.{Word}
use Rattle.step_table.specs.Path.{Deed, runs, looks}
use Rattle.step_law_semaphores.specs.SemaPath.{SemaStride}

-- a row, or a look at this word
abbrev pub deed_of : Option Word → Deed Word
deed_of None = runs
deed_of (Some w) = looks w

-- the stride ran a row
abbrev pub IsRow : SemaStride → Type 0
IsRow p = p.deed ≡ runs
