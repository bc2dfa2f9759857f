-- What may be wrong with a line.
use Rattle.std.specs.Prelude.{⊤, ◌≡◌, false, List, [], ◌∷◌, ◌⊎◌}
use Rattle.std.specs.List.{list_all}
use Rattle.scenario_text.specs.Causes.{is_printable}
use Rattle.scenario_text.specs.Pieces.{Piece}
use Rattle.program_text.specs.declared.cause.ProgramCause.{ProgramCause}
use Rattle.program_text.specs.declared.cause.ProgramCause.TheVariants.{Cut, Byte, Form}
use Rattle.program_text.specs.declared.lines.SpelledLine.{SpelledLine}
use Rattle.program_text.specs.Lines.{Says}

-- 3 holds where no line is spelled so; no other cause is one of a line alone
abbrev pub Holds : Piece → ProgramCause → Type 0
Holds p Cut = p.ended ≡ false
Holds p Byte = list_all is_printable p.text ≡ false
Holds p Form = (line : SpelledLine) → Says p.text line → ⊥
Holds p cause = ⊥

-- causes 1 to 3, in their order
abbrev pub causes : List ProgramCause
causes = Cut ∷ Byte ∷ Form ∷ []

-- the cause is the first in the list of which P holds
abbrev pub IsFirst : (ProgramCause → Type 0) → List ProgramCause → ProgramCause → Type 0
IsFirst P [] cause = ⊥
IsFirst P (d ∷ ds) cause = (P d × (cause ≡ d)) ⊎ ((P d → ⊥) × IsFirst P ds cause)

abbrev pub HoldsNone : (ProgramCause → Type 0) → List ProgramCause → Type 0
HoldsNone P [] = ⊤
HoldsNone P (d ∷ ds) = (P d → ⊥) × HoldsNone P ds

-- what is wrong with a line: the least cause that holds of it
abbrev pub IsFault : Piece → ProgramCause → Type 0
IsFault p cause = IsFirst (Holds p) causes cause

-- it has its end, and each of its bytes can be printed
abbrev pub IsReadable : Piece → Type 0
IsReadable p = (Holds p Cut → ⊥) × (Holds p Byte → ⊥)

-- nothing is wrong with it, and this is what it says
abbrev pub IsRight : Piece → SpelledLine → Type 0
IsRight p line = Says p.text line × HoldsNone (Holds p) causes
