-- What the lines of a program do.
use Rattle.std.specs.Prelude.{ℕ, nat_lt, cond, List, Option, Result, Ok, Err}
use Rattle.program_text.specs.declared.words.SpelledOperand.{SpelledOperand}
use Rattle.program_text.specs.declared.words.SpelledPlace.{SpelledPlace}
use Rattle.program_text.specs.declared.lines.SpelledLine.{SpelledLine}
use Rattle.program_text.specs.declared.lines.SpelledLine.TheVariants.{Load, Store, Swap, Add, Exchange, Await}
use Rattle.program_text.specs.declared.lines.SpelledLine.TheVariants.{Acquire, Release, Ticket, Wait, One, All}
use Rattle.program_text.specs.declared.lines.SpelledLine.TheVariants.{Park, Unpark, Out, Let, Compute, If, Goto}
use Rattle.program_text.specs.declared.lines.SpelledLine.TheVariants.{Label, In, Ask, Assert, Fail, Do, Return}
use Rattle.program_code.specs.declared.instruction.Instruction.{Instruction}
use Rattle.program_code.specs.declared.instruction.Instruction.TheVariants as code
use Rattle.program_code.specs.declared.operand.Operand.{Operand}
use Rattle.program_code.specs.declared.operand.CodePlace.{CodePlace}
use Rattle.program_text.specs.declared.cause.ProgramCause.{ProgramCause}
use Rattle.program_text.specs.declared.cause.ProgramCause.TheVariants.{Place as Misplaced, Undeclared}
use Rattle.program.specs.declared.names.DeclaredNames.{DeclaredNames}
use Rattle.program.specs.declared.statement.Statement.{Statement}
use Rattle.program.specs.declared.statement.Statement.TheVariants as says
use Rattle.program.specs.Causes.{both, map_ok, and_then}
use Rattle.program.specs.Parts.{list_of, register_of, section_of, program_of, result_of, operand_of}
use Rattle.program.specs.Parts.{word_of, counter_of, share_of}

-- a program that is declared and whose lines have ended, where so many have
abbrev pub ended_of : ℕ → ℕ → Result ℕ ProgramCause
ended_of ended k = cond (nat_lt k ended) (Ok k) (Err Undeclared)

abbrev pub done_of : DeclaredNames → ℕ → List ℕ → Result ℕ ProgramCause
done_of names ended name = and_then (program_of names name) (ended_of ended)

-- a place and an operand, and a register that may be left out
abbrev pub access_of :
    DeclaredNames → SpelledPlace → SpelledOperand → Option (List ℕ)
    → Result (CodePlace × (Operand × Option ℕ)) ProgramCause
access_of names w e o = both (word_of names w) (both (operand_of names e) (result_of names o))

abbrev pub place_and_operand :
    DeclaredNames → SpelledPlace → SpelledOperand → Result (CodePlace × Operand) ProgramCause
place_and_operand names w e = both (word_of names w) (operand_of names e)

abbrev pub two_of : DeclaredNames → SpelledOperand → SpelledOperand → Result (Operand × Operand) ProgramCause
two_of names e f = both (operand_of names e) (operand_of names f)

-- ---- instructions, of which a line that is none would be misplaced

abbrev pub seat_line : DeclaredNames → SpelledLine → Result Instruction ProgramCause
seat_line names (Out s) = map_ok code.Out (section_of names s)
seat_line names (In s) = map_ok code.In (section_of names s)
seat_line names (Ask s) = map_ok code.Ask (section_of names s)
seat_line names (Let r e) = map_ok (λ x. code.Let x.0 x.1) (both (register_of names r) (operand_of names e))
seat_line names (Compute r e op f) =
    map_ok (λ x. code.Compute x.0 x.1.0 op x.1.1) (both (register_of names r) (two_of names e f))
seat_line names (Assert e rel f) = map_ok (λ x. code.Assert x.0 rel x.1) (two_of names e f)
seat_line names Fail = Ok code.Fail
seat_line names line = Err Misplaced

abbrev pub layer_line : DeclaredNames → SpelledLine → Result Instruction ProgramCause
layer_line names (Acquire c lifo) = map_ok (λ x. code.Acquire x lifo) (counter_of names c)
layer_line names (Release c s) =
    map_ok (λ x. code.Release x.0 x.1) (both (counter_of names c) (share_of names s))
layer_line names (Ticket l) = map_ok code.Ticket (list_of names l)
layer_line names (Wait l) = map_ok code.Wait (list_of names l)
layer_line names (One l) = map_ok code.One (list_of names l)
layer_line names (All l) = map_ok code.All (list_of names l)
layer_line names (Park w e) = map_ok (λ x. code.Park x.0 x.1) (place_and_operand names w e)
layer_line names (Unpark w e) = map_ok (λ x. code.Unpark x.0 x.1) (place_and_operand names w e)
layer_line names line = seat_line names line

abbrev pub access_line : DeclaredNames → SpelledLine → Result Instruction ProgramCause
access_line names (Load w r) = map_ok (λ x. code.Load x.0 x.1) (both (word_of names w) (register_of names r))
access_line names (Store w e) = map_ok (λ x. code.Store x.0 x.1) (place_and_operand names w e)
access_line names (Swap w e o) = map_ok (λ x. code.Swap x.0 x.1.0 x.1.1) (access_of names w e o)
access_line names (Add w e o) = map_ok (λ x. code.Add x.0 x.1.0 x.1.1) (access_of names w e o)
access_line names (Exchange w e f o) =
    map_ok (λ x. code.Exchange x.0.0 x.0.1.0 x.1 x.0.1.1) (both (access_of names w e o) (operand_of names f))
access_line names (Await w rel e o) = map_ok (λ x. code.Await x.0 rel x.1.0 x.1.1) (access_of names w e o)
access_line names line = layer_line names line

-- ---- what a line of a program says, where so many have ended

abbrev pub statement_of : DeclaredNames → ℕ → SpelledLine → Result Statement ProgramCause
statement_of names ended (If e rel f a) = map_ok (λ x. says.If x.0 rel x.1 a) (two_of names e f)
statement_of names ended (Goto a) = Ok (says.Goto a)
statement_of names ended (Label a) = Ok (says.Label a)
statement_of names ended (Do p) = map_ok says.Do (done_of names ended p)
statement_of names ended Return = Ok says.Return
statement_of names ended line = map_ok says.Plain (access_line names line)
