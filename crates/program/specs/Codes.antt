-- The lines of a program, its labels and `do` lines put in.
use Rattle.std.specs.Prelude.{⊤, ℕ, ◌+◌, ◌-◌, ◌^◌, ◌≤◌, Bool, false, cond, not, List, [], ◌∷◌, ◌++◌, length}
use Rattle.std.specs.Prelude.{map, fold, take}
use Rattle.std.specs.Prelude.{Option, Some, None, slice_index_or}
use Rattle.std.specs.List.{All, list_any, position, sum_by}
use Rattle.std.specs.Str.{bytes_eq}
use Rattle.program_code.specs.declared.instruction.Instruction.{Instruction}
use Rattle.program_code.specs.declared.instruction.Instruction.TheVariants as code
use Rattle.program_code.specs.declared.program.CodeLine.{CodeLine}
use Rattle.program.specs.declared.statement.Statement.{Statement}
use Rattle.program.specs.declared.statement.Statement.TheVariants as says
use Rattle.program.specs.declared.statement.Written.{Written}

-- the lines of the program of this number
abbrev pub code_at : List (List CodeLine) → ℕ → List CodeLine
code_at codes n = slice_index_or codes n []

-- how many lines a statement is
abbrev pub width : List (List CodeLine) → Statement → ℕ
width codes (says.Label name) = 0
width codes (says.Do n) = length (code_at codes n)
width codes statement = 1

abbrev pub size_of : List (List CodeLine) → List Written → ℕ
size_of codes body = sum_by (λ (w : Written). width codes w.statement) body

-- ---- labels

abbrev pub is_label : List ℕ → Statement → Bool
is_label name (says.Label x) = bytes_eq x name
is_label name statement = false

abbrev pub has_label : List Written → List ℕ → Bool
has_label body name = list_any (λ (w : Written). is_label name w.statement) body

abbrev pub label_at : List Written → List ℕ → Option ℕ
label_at body name = position (λ (w : Written). is_label name w.statement) body

abbrev pub before : Option ℕ → List Written → List Written
before None body = body
before (Some label) body = take label body

-- how many lines stand before the label
abbrev pub target_of : List (List CodeLine) → List Written → List ℕ → ℕ
target_of codes body name = size_of codes (before (label_at body name) body)

-- it jumps to no label of its program
abbrev pub is_lost : List Written → Statement → Bool
is_lost body (says.If e r f name) = not (has_label body name)
is_lost body (says.Goto name) = not (has_label body name)
is_lost body statement = false

-- the first line that does
abbrev pub first_lost : List Written → List Written → Option ℕ
first_lost body [] = None
first_lost body (w ∷ ws) = cond (is_lost body w.statement) (Some w.line) (first_lost body ws)

-- ---- lines

-- an instruction whose program's first line stands behind so many
abbrev pub moved : ℕ → Instruction → Instruction
moved at (code.If e r f target) = code.If e r f (at + target)
moved at (code.Goto target) = code.Goto (at + target)
moved at instruction = instruction

-- a line of a program that is done at this line
abbrev pub put_in : ℕ → ℕ → CodeLine → CodeLine
put_in at line c = record { line = c.line; within = line ∷ c.within; instruction = moved at c.instruction }

abbrev pub alone : ℕ → Instruction → List CodeLine
alone line instruction = record { line = line; within = []; instruction = instruction } ∷ []

-- what stands for a statement of this body, behind so many lines
abbrev pub lines_of : List (List CodeLine) → List Written → ℕ → ℕ → Statement → List CodeLine
lines_of codes body at line (says.Plain instruction) = alone line instruction
lines_of codes body at line (says.If e r f name) = alone line (code.If e r f (target_of codes body name))
lines_of codes body at line (says.Goto name) = alone line (code.Goto (target_of codes body name))
lines_of codes body at line (says.Label name) = []
lines_of codes body at line (says.Do n) = map (put_in at line) (code_at codes n)
lines_of codes body at line says.Return = alone line (code.Goto (size_of codes body))

-- what stands for the first statements of a body
abbrev pub code_from : List (List CodeLine) → List Written → List Written → List CodeLine
code_from codes body first =
    fold (λ (out : List CodeLine) (w : Written). out ++ lines_of codes body (length out) w.line w.statement)
    [] first

abbrev pub code_of : List (List CodeLine) → List Written → List CodeLine
code_of codes body = code_from codes body body

-- ---- jumps stay within a program

abbrev pub IsTargetWithin : ℕ → Instruction → Type 0
IsTargetWithin most (code.If e r f target) = target ≤ most
IsTargetWithin most (code.Goto target) = target ≤ most
IsTargetWithin most instruction = ⊤

-- a jump of it is none but to a label
abbrev pub JumpsByLabel : Statement → Type 0
JumpsByLabel (says.Plain instruction) = IsTargetWithin 0 instruction
JumpsByLabel statement = ⊤

-- each of the lines can stand behind so many
abbrev pub CanMove : ℕ → List CodeLine → Type 0
CanMove at lines = All (λ (c : CodeLine). IsTargetWithin (2 ^ 64 - 1) (moved at c.instruction)) lines

abbrev pub CanPutIn : List (List CodeLine) → ℕ → Statement → Type 0
CanPutIn codes at (says.Do n) = CanMove at (code_at codes n)
CanPutIn codes at statement = ⊤

-- at most 255 lines, of which none jumps further than behind the last
pub record IsClosed (lines : List CodeLine) : Type 0 where
  pub short : length lines ≤ 255
  pub jumps : All (λ (c : CodeLine). IsTargetWithin (length lines) c.instruction) lines
