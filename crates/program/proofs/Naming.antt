-- What a line of a program means names only what is there.
use Rattle.std.proofs.Common.{ℕ, ◌+◌, ◌<◌, ◌≤◌, Bool, true, false, cond, ℤ, List, [], ◌∷◌, length, Option, Some, None, Result, IfOk}
use Rattle.std.proofs.Common.{IfSome}
use Rattle.std.proofs.Common.{All, unwrap_or, bytes_eq, arith}
use Rattle.std.specs.Prelude.{⊤}
use Rattle.std.proofs.lemmas.List.Elements.{All-head, All-tail}
use Rattle.program_text.specs.declared.words.SpelledOperand.{SpelledOperand}
use Rattle.program_text.specs.declared.words.SpelledOperand.TheVariants as text
use Rattle.program_text.specs.declared.words.SpelledPlace.{SpelledPlace}
use Rattle.program_text.specs.declared.lines.SpelledShare.{SpelledShare}
use Rattle.program_text.specs.declared.lines.SpelledShare.TheVariants as share
use Rattle.program_text.specs.declared.lines.SpelledLine.{SpelledLine}
use Rattle.program_text.specs.declared.lines.SpelledLine.TheVariants.{Load, Store, Swap, Add, Exchange, Await, Acquire, Release, Ticket, Wait, One, All as NotifyAll}
use Rattle.program_text.specs.declared.lines.SpelledLine.TheVariants.{Park, Unpark, Out, Let, Compute, If, Goto, Label, In, Ask, Assert, Fail, Do, Return}
use Rattle.program_code.specs.declared.instruction.Instruction.{Instruction}
use Rattle.program_code.specs.declared.instruction.Instruction.TheVariants as code
use Rattle.program_code.specs.declared.operand.Operand.{Operand}
use Rattle.program_code.specs.declared.operand.Operand.TheVariants as operand
use Rattle.program_code.specs.declared.operand.CodePlace.{CodePlace}
use Rattle.program_code.specs.declared.operand.Share.{Share}
use Rattle.program_code.specs.declared.operand.Share.TheVariants as shared
use Rattle.program_code.specs.declared.program.Program.{Program as CodeProgram}
use Rattle.program_code.specs.WellFormed.{IsOperand, IsPlace, IsWord, IsCounter, IsShare, IsRegister, IsLine}
use Rattle.program_text.specs.declared.cause.ProgramCause.{ProgramCause}
use Rattle.program.specs.declared.names.Cells.{Cells}
use Rattle.program.specs.declared.names.CellSpan.{CellSpan}
use Rattle.program.specs.declared.draft.ProgramDraft.{ProgramDraft}
use Rattle.program.specs.declared.statement.Statement.{Statement}
use Rattle.program.specs.declared.statement.Statement.TheVariants as says
use Rattle.program.specs.Causes.{both}
use Rattle.program.specs.Names.{declared, number_of_name, value_of, span_of}
use Rattle.program.specs.Parts.{number_of, list_of, register_of, section_of, result_of, constant_or, operand_of, single_of, member_of, place_of}
use Rattle.program.specs.Parts.{word_of, counter_of, share_of}
use Rattle.program.specs.Statements.{done_of, access_of, place_and_operand, two_of, seat_line, layer_line, access_line, statement_of}
use Rattle.program.proofs.Oks.{oks_any, oks_map, oks_both, oks_then, oks_declared, position_within}

-- a program that has what the draft declares, and no lines
abbrev pub sizes : ProgramDraft → CodeProgram
sizes d = record {
  words = d.words;
  counters = d.counters;
  lists = length d.names.lists;
  registers = length d.names.registers;
  sections = length d.names.sections;
  codes = [];
  seats = [];
  properties = [];
}

-- ---- names that are numbers

abbrev pub Below : ℕ → ℕ → Type 0
Below n k = k < n

pub number_within : (names : List (List ℕ)) (name : List ℕ) → IfOk (declared (number_of_name names name)) (Below (length names))
number_within names name = oks_declared (Below (length names)) (number_of_name names name) (position_within (λ x. bytes_eq x name) names)

-- ---- names that are cells

-- among the first n
abbrev pub IsWithin : ℕ → CellSpan → Type 0
IsWithin n e = e.first + unwrap_or e.length 1 ≤ n

abbrev pub AreWithin : ℕ → List Cells → Type 0
AreWithin n cells = All (λ (c : Cells). IsWithin n c.span) cells

-- the words and counters of names are those of the draft
pub record HasCells (d : ProgramDraft) : Type 0 where
  pub words : AreWithin (length d.words) d.names.words
  pub counters : AreWithin (length d.counters) d.names.counters

span_within : (n : ℕ) (cells : List Cells) (name : List ℕ) → AreWithin n cells → IfSome (span_of cells name) (IsWithin n)
span_within n [] name h = tt
span_within n (c ∷ cs) name h =
    elim (bytes_eq c.name name) as (λ (b : Bool). IfSome (cond b (Some c.span) (span_of cs name)) (IsWithin n)) [
      | true ↦ All-head (λ (x : Cells). IsWithin n x.span) c cs h
      | false ↦ span_within n cs name (All-tail (λ (x : Cells). IsWithin n x.span) c cs h)
    ]

-- ---- operands and places

constant_in : (d : ProgramDraft) (o : Option ℤ) (r : Result ℕ ProgramCause) → IfOk r (Below (length d.names.registers)) → IfOk (constant_or o r) (IsOperand (sizes d))
constant_in d (Some v) r h = tt
constant_in d None r h = oks_map (Below (length d.names.registers)) (IsOperand (sizes d)) operand.Register r h (λ k lt. lt)

operand_in : (d : ProgramDraft) (e : SpelledOperand) → IfOk (operand_of d.names e) (IsOperand (sizes d))
operand_in d (text.Number n) =
    oks_map (λ _. ⊤) (IsOperand (sizes d)) operand.Number (number_of n) (oks_any (λ _. ⊤) (number_of n) (λ v. tt)) (λ v h. tt)
operand_in d text.Me = tt
operand_in d (text.Name name) = constant_in d (value_of d.names.constants name) (register_of d.names name) (number_within d.names.registers name)

single_in : (d : ProgramDraft) (n first : ℕ) (many : Option ℕ) → first + unwrap_or many 1 ≤ n → IfOk (single_of first many) (IsPlace (sizes d) n)
single_in d n first None h = omega arith
single_in d n first (Some m) h = tt

member_in : (d : ProgramDraft) (n first : ℕ) (many : Option ℕ) (e : Operand) → first + unwrap_or many 1 ≤ n → IsOperand (sizes d) e
    → IfOk (member_of first many e) (IsPlace (sizes d) n)
member_in d n first None e h k = tt
member_in d n first (Some m) e h k = (h, k)

place_in : (d : ProgramDraft) (n : ℕ) (cells : Result CellSpan ProgramCause) (index : Option SpelledOperand) → IfOk cells (IsWithin n)
    → IfOk (place_of d.names cells index) (IsPlace (sizes d) n)
place_in d n cells None h =
    oks_then (IsWithin n) (IsPlace (sizes d) n) cells (λ c. single_of c.first c.length) h (λ c k. single_in d n c.first c.length k)
place_in d n cells (Some e) h =
    oks_then (λ (x : CellSpan × Operand). IsWithin n x.0 × IsOperand (sizes d) x.1) (IsPlace (sizes d) n) (both cells (operand_of d.names e))
    (λ x. member_of x.0.first x.0.length x.1) (oks_both (IsWithin n) (IsOperand (sizes d)) cells (operand_of d.names e) h (operand_in d e))
    (λ x k. member_in d n x.0.first x.0.length x.1 k.0 k.1)

word_in : (d : ProgramDraft) (w : SpelledPlace) → HasCells d → IfOk (word_of d.names w) (IsWord (sizes d))
word_in d w h =
    place_in d (length d.words) (declared (span_of d.names.words w.name)) w.index
    (oks_declared (IsWithin (length d.words)) (span_of d.names.words w.name) (span_within (length d.words) d.names.words w.name h.words))

counter_in : (d : ProgramDraft) (c : SpelledPlace) → HasCells d → IfOk (counter_of d.names c) (IsCounter (sizes d))
counter_in d c h =
    place_in d (length d.counters) (declared (span_of d.names.counters c.name)) c.index
    (oks_declared (IsWithin (length d.counters)) (span_of d.names.counters c.name)
    (span_within (length d.counters) d.names.counters c.name h.counters))

share_in : (d : ProgramDraft) (s : SpelledShare) → IfOk (share_of d.names s) (IsShare (sizes d))
share_in d share.One = tt
share_in d share.Handoff = tt
share_in d (share.Many e) = oks_map (IsOperand (sizes d)) (IsShare (sizes d)) shared.Many (operand_of d.names e) (operand_in d e) (λ v h. h)

result_in : (d : ProgramDraft) (o : Option (List ℕ)) → IfOk (result_of d.names o) (IsRegister (sizes d))
result_in d None = tt
result_in d (Some name) =
    oks_map (Below (length d.names.registers)) (IsRegister (sizes d)) Some (register_of d.names name) (number_within d.names.registers name) (λ k h. h)

-- ---- several parts

two_in : (d : ProgramDraft) (e f : SpelledOperand) → IfOk (two_of d.names e f) (λ x. IsOperand (sizes d) x.0 × IsOperand (sizes d) x.1)
two_in d e f =
    oks_both (IsOperand (sizes d)) (IsOperand (sizes d)) (operand_of d.names e) (operand_of d.names f) (operand_in d e) (operand_in d f)

abbrev IsPair : ProgramDraft → CodePlace × Operand → Type 0
IsPair d x = IsWord (sizes d) x.0 × IsOperand (sizes d) x.1

pair_in : (d : ProgramDraft) (w : SpelledPlace) (e : SpelledOperand) → HasCells d → IfOk (place_and_operand d.names w e) (IsPair d)
pair_in d w e h = oks_both (IsWord (sizes d)) (IsOperand (sizes d)) (word_of d.names w) (operand_of d.names e) (word_in d w h) (operand_in d e)

abbrev IsAccess : ProgramDraft → CodePlace × (Operand × Option ℕ) → Type 0
IsAccess d x = IsWord (sizes d) x.0 × (IsOperand (sizes d) x.1.0 × IsRegister (sizes d) x.1.1)

access_in : (d : ProgramDraft) (w : SpelledPlace) (e : SpelledOperand) (o : Option (List ℕ)) → HasCells d → IfOk (access_of d.names w e o) (IsAccess d)
access_in d w e o h =
    oks_both (IsWord (sizes d)) (λ (x : Operand × Option ℕ). IsOperand (sizes d) x.0 × IsRegister (sizes d) x.1) (word_of d.names w)
    (both (operand_of d.names e) (result_of d.names o)) (word_in d w h)
    (oks_both (IsOperand (sizes d)) (IsRegister (sizes d)) (operand_of d.names e) (result_of d.names o) (operand_in d e) (result_in d o))

-- ---- instructions, which are lines of a program of any number of lines

abbrev pub IsEvery : CodeProgram → Instruction → Type 0
IsEvery p i = (n : ℕ) → IsLine p n i

seat_in : (d : ProgramDraft) (line : SpelledLine) → IfOk (seat_line d.names line) (IsEvery (sizes d))
seat_in d (Out s) =
    oks_map (Below (length d.names.sections)) (IsEvery (sizes d)) code.Out (section_of d.names s) (number_within d.names.sections s) (λ k h n. h)
seat_in d (In s) =
    oks_map (Below (length d.names.sections)) (IsEvery (sizes d)) code.In (section_of d.names s) (number_within d.names.sections s) (λ k h n. h)
seat_in d (Ask s) =
    oks_map (Below (length d.names.sections)) (IsEvery (sizes d)) code.Ask (section_of d.names s) (number_within d.names.sections s) (λ k h n. h)
seat_in d (Let r e) =
    oks_map (λ (x : ℕ × Operand). (x.0 < length d.names.registers) × IsOperand (sizes d) x.1) (IsEvery (sizes d)) (λ x. code.Let x.0 x.1)
    (both (register_of d.names r) (operand_of d.names e))
    (oks_both (Below (length d.names.registers)) (IsOperand (sizes d)) (register_of d.names r) (operand_of d.names e)
    (number_within d.names.registers r) (operand_in d e)) (λ x h n. h)
seat_in d (Compute r e op f) =
    oks_map (λ (x : ℕ × (Operand × Operand)). (x.0 < length d.names.registers) × (IsOperand (sizes d) x.1.0 × IsOperand (sizes d) x.1.1))
    (IsEvery (sizes d)) (λ x. code.Compute x.0 x.1.0 op x.1.1) (both (register_of d.names r) (two_of d.names e f))
    (oks_both (Below (length d.names.registers)) (λ (x : Operand × Operand). IsOperand (sizes d) x.0 × IsOperand (sizes d) x.1)
    (register_of d.names r) (two_of d.names e f) (number_within d.names.registers r) (two_in d e f)) (λ x h n. (h.0, h.1.0, h.1.1))
seat_in d (Assert e rel f) =
    oks_map (λ (x : Operand × Operand). IsOperand (sizes d) x.0 × IsOperand (sizes d) x.1) (IsEvery (sizes d)) (λ x. code.Assert x.0 rel x.1)
    (two_of d.names e f) (two_in d e f) (λ x h n. h)
seat_in d Fail = λ n. tt
seat_in d line = tt

layer_in : (d : ProgramDraft) (line : SpelledLine) → HasCells d → IfOk (layer_line d.names line) (IsEvery (sizes d))
layer_in d (Acquire c lifo) h =
    oks_map (IsCounter (sizes d)) (IsEvery (sizes d)) (λ x. code.Acquire x lifo) (counter_of d.names c) (counter_in d c h) (λ x k n. k)
layer_in d (Release c s) h =
    oks_map (λ (x : CodePlace × Share). IsCounter (sizes d) x.0 × IsShare (sizes d) x.1) (IsEvery (sizes d)) (λ x. code.Release x.0 x.1)
    (both (counter_of d.names c) (share_of d.names s))
    (oks_both (IsCounter (sizes d)) (IsShare (sizes d)) (counter_of d.names c) (share_of d.names s) (counter_in d c h) (share_in d s)) (λ x k n. k)
layer_in d (Ticket l) h =
    oks_map (Below (length d.names.lists)) (IsEvery (sizes d)) code.Ticket (list_of d.names l) (number_within d.names.lists l) (λ x k n. k)
layer_in d (Wait l) h =
    oks_map (Below (length d.names.lists)) (IsEvery (sizes d)) code.Wait (list_of d.names l) (number_within d.names.lists l) (λ x k n. k)
layer_in d (One l) h =
    oks_map (Below (length d.names.lists)) (IsEvery (sizes d)) code.One (list_of d.names l) (number_within d.names.lists l) (λ x k n. k)
layer_in d (NotifyAll l) h =
    oks_map (Below (length d.names.lists)) (IsEvery (sizes d)) code.All (list_of d.names l) (number_within d.names.lists l) (λ x k n. k)
layer_in d (Park w e) h =
    oks_map (IsPair d) (IsEvery (sizes d)) (λ x. code.Park x.0 x.1) (place_and_operand d.names w e) (pair_in d w e h) (λ x k n. k)
layer_in d (Unpark w e) h =
    oks_map (IsPair d) (IsEvery (sizes d)) (λ x. code.Unpark x.0 x.1) (place_and_operand d.names w e) (pair_in d w e h) (λ x k n. k)
layer_in d line h = seat_in d line

pub line_in : (d : ProgramDraft) (line : SpelledLine) → HasCells d → IfOk (access_line d.names line) (IsEvery (sizes d))
line_in d (Load w r) h =
    oks_map (λ (x : CodePlace × ℕ). IsWord (sizes d) x.0 × (x.1 < length d.names.registers)) (IsEvery (sizes d)) (λ x. code.Load x.0 x.1)
    (both (word_of d.names w) (register_of d.names r))
    (oks_both (IsWord (sizes d)) (Below (length d.names.registers)) (word_of d.names w) (register_of d.names r) (word_in d w h)
    (number_within d.names.registers r)) (λ x k n. k)
line_in d (Store w e) h =
    oks_map (IsPair d) (IsEvery (sizes d)) (λ x. code.Store x.0 x.1) (place_and_operand d.names w e) (pair_in d w e h) (λ x k n. k)
line_in d (Swap w e o) h =
    oks_map (IsAccess d) (IsEvery (sizes d)) (λ x. code.Swap x.0 x.1.0 x.1.1) (access_of d.names w e o) (access_in d w e o h)
    (λ x k n. (k.0, k.1.0, k.1.1))
line_in d (Add w e o) h =
    oks_map (IsAccess d) (IsEvery (sizes d)) (λ x. code.Add x.0 x.1.0 x.1.1) (access_of d.names w e o) (access_in d w e o h)
    (λ x k n. (k.0, k.1.0, k.1.1))
line_in d (Exchange w e f o) h =
    oks_map (λ (x : (CodePlace × (Operand × Option ℕ)) × Operand). IsAccess d x.0 × IsOperand (sizes d) x.1) (IsEvery (sizes d))
    (λ x. code.Exchange x.0.0 x.0.1.0 x.1 x.0.1.1) (both (access_of d.names w e o) (operand_of d.names f))
    (oks_both (IsAccess d) (IsOperand (sizes d)) (access_of d.names w e o) (operand_of d.names f) (access_in d w e o h) (operand_in d f))
    (λ x k n. (k.0.0, k.0.1.0, k.1, k.0.1.1))
line_in d (Await w rel e o) h =
    oks_map (IsAccess d) (IsEvery (sizes d)) (λ x. code.Await x.0 rel x.1.0 x.1.1) (access_of d.names w e o) (access_in d w e o h)
    (λ x k n. (k.0, k.1.0, k.1.1))
line_in d line h = layer_in d line h

-- ---- statements

abbrev pub IsStatement : CodeProgram → Statement → Type 0
IsStatement p (says.Plain i) = IsEvery p i
IsStatement p (says.If e r f name) = IsOperand p e × IsOperand p f
IsStatement p s = ⊤

pub statement_in : (d : ProgramDraft) (ended : ℕ) (line : SpelledLine) → HasCells d → IfOk (statement_of d.names ended line) (IsStatement (sizes d))
statement_in d ended (If e rel f a) h =
    oks_map (λ (x : Operand × Operand). IsOperand (sizes d) x.0 × IsOperand (sizes d) x.1) (IsStatement (sizes d)) (λ x. says.If x.0 rel x.1 a)
    (two_of d.names e f) (two_in d e f) (λ x k. k)
statement_in d ended (Goto a) h = tt
statement_in d ended (Label a) h = tt
statement_in d ended (Do p) h =
    oks_map (λ _. ⊤) (IsStatement (sizes d)) says.Do (done_of d.names ended p) (oks_any (λ _. ⊤) (done_of d.names ended p) (λ k. tt)) (λ k x. tt)
statement_in d ended Return h = tt
statement_in d ended line h =
    oks_map (IsEvery (sizes d)) (IsStatement (sizes d)) says.Plain (access_line d.names line) (line_in d line h) (λ i k. k)
