-- A lock program's text: its lines, or its fault.
use Rattle.std.specs.Prelude.{⊤, ◌≡◌, ℕ, ◌+◌, List, [], ◌∷◌, ◌++◌, length, ◌⊎◌}
use Rattle.scenario_text.specs.Pieces.{Piece, pieces}
use Rattle.program_text.specs.declared.fault.ProgramFault.{ProgramFault}
use Rattle.program_text.specs.declared.lines.SpelledLine.{SpelledLine}
use Rattle.program_text.specs.Causes.{IsFault, IsReadable, IsRight}

-- nothing is wrong with any line, and this is what they say
abbrev pub AreRight : List Piece → List SpelledLine → Type 0
AreRight [] [] = ⊤
AreRight [] (line ∷ lines) = ⊥
AreRight (p ∷ ps) [] = ⊥
AreRight (p ∷ ps) (line ∷ lines) = IsRight p line × AreRight ps lines

abbrev pub AreLinesOf : List ℕ → List SpelledLine → Type 0
AreLinesOf text lines = AreRight (pieces text) lines

-- the first line that is faulty, behind these, and what is wrong with it
abbrev pub IsFirstFault : List SpelledLine → List Piece → ProgramFault → Type 0
IsFirstFault before [] fault = ⊥
IsFirstFault before (p ∷ ps) fault =
    ((fault.line ≡ length before + 1) × IsFault p fault.cause)
    ⊎ ((line : SpelledLine) × IsRight p line × IsFirstFault (before ++ (line ∷ [])) ps fault)

abbrev pub IsFaultOf : List ℕ → ProgramFault → Type 0
IsFaultOf text fault = IsFirstFault [] (pieces text) fault

-- there is a line of this number, which is neither cut nor unprintable, and the lines before it are right
abbrev pub IsReached : List SpelledLine → List Piece → ℕ → Type 0
IsReached before [] n = ⊥
IsReached before (p ∷ ps) n =
    ((n ≡ length before + 1) × IsReadable p)
    ⊎ ((line : SpelledLine) × IsRight p line × IsReached (before ++ (line ∷ [])) ps n)
