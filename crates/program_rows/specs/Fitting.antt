-- Which lines the machine can run: those that name words, counters, lists, registers and sections that it
-- stores.
use Rattle.std.specs.Prelude.{◌≡◌, ℕ, ◌+◌, ◌<◌, ◌≤◌, ◌^◌, List, slice_get, Some, IfSome, ⊤}
use Rattle.program_code.specs.declared.instruction.Instruction.{Instruction}
use Rattle.program_code.specs.declared.instruction.Instruction.TheVariants as line
use Rattle.program_code.specs.declared.operand.CodePlace.{CodePlace}
use Rattle.program_code.specs.declared.operand.CodePlace.TheVariants.{Single, Member}
use Rattle.program_code.specs.declared.program.CodeLine.{CodeLine}

-- one of n words or counters, or an array of them
abbrev pub FitsPlace : ℕ → CodePlace → Type 0
FitsPlace n (Single w) = w < n
FitsPlace n (Member first many e) = first + many ≤ n

-- the members of an array have numbers
abbrev pub HasNumbers : CodePlace → Type 0
HasNumbers (Single w) = ⊤
HasNumbers (Member first many e) = first + many < 2 ^ 64

abbrev pub FitsRegister : ℕ → Type 0
FitsRegister r = r < 8

-- a line without a step
abbrev pub FitsFree : Instruction → Type 0
FitsFree (line.Let r e) = FitsRegister r
FitsFree (line.Compute r e op f) = FitsRegister r
FitsFree (line.In k) = k < 8
FitsFree (line.Ask k) = k < 8
FitsFree _ = ⊤

-- a line with one that is none of the layer, over n words
abbrev pub FitsWords : ℕ → Instruction → Type 0
FitsWords n (line.Load w r) = FitsPlace n w × FitsRegister r
FitsWords n (line.Store w e) = FitsPlace n w
FitsWords n (line.Swap w e r) = FitsPlace n w × IfSome r FitsRegister
FitsWords n (line.Add w e r) = FitsPlace n w × IfSome r FitsRegister
FitsWords n (line.Exchange w e f r) = FitsPlace n w × IfSome r FitsRegister
FitsWords n (line.Await w rel e r) = FitsPlace n w × IfSome r FitsRegister
FitsWords n (line.Park w e) = FitsPlace n w
FitsWords n (line.Unpark w e) = FitsPlace n w
FitsWords n (line.Out k) = k < 8
FitsWords n _ = ⊤

-- each line of a program that may be run without a step
abbrev pub FitsCode : List CodeLine → Type 0
FitsCode code = (n : ℕ) (l : CodeLine) → slice_get code n ≡ Some l → FitsFree l.instruction
