-- What a program keeps that was read: its lines name words, counters, lists, registers, sections and lines
-- that are there.
use Rattle.std.specs.Prelude.{◌≡◌, ℕ, ◌+◌, ◌<◌, ◌≤◌, ◌^◌, List, [], length, slice_get, slice_index_or}
use Rattle.std.specs.Prelude.{Option, Some, IfSome, ⊤}
use Rattle.program_code.specs.declared.instruction.Instruction.{Instruction}
use Rattle.program_code.specs.declared.instruction.Instruction.TheVariants as line
use Rattle.program_code.specs.declared.operand.Operand.{Operand}
use Rattle.program_code.specs.declared.operand.Operand.TheVariants.{Register}
use Rattle.program_code.specs.declared.operand.CodePlace.{CodePlace}
use Rattle.program_code.specs.declared.operand.CodePlace.TheVariants.{Single, Member}
use Rattle.program_code.specs.declared.operand.Share.{Share}
use Rattle.program_code.specs.declared.operand.Share.TheVariants.{Many}
use Rattle.program_code.specs.declared.program.CodeLine.{CodeLine}
use Rattle.program_code.specs.declared.program.Program.{Program}

abbrev pub IsOperand : Program → Operand → Type 0
IsOperand p (Register r) = r < p.registers
IsOperand p _ = ⊤

-- one of the first n words or counters, or an array of them
abbrev pub IsPlace : Program → ℕ → CodePlace → Type 0
IsPlace p n (Single w) = w < n
IsPlace p n (Member first many e) = (first + many ≤ n) × IsOperand p e

abbrev pub IsWord : Program → CodePlace → Type 0
IsWord p w = IsPlace p (length p.words) w

abbrev pub IsCounter : Program → CodePlace → Type 0
IsCounter p c = IsPlace p (length p.counters) c

abbrev pub IsShare : Program → Share → Type 0
IsShare p (Many e) = IsOperand p e
IsShare p _ = ⊤

abbrev pub IsRegister : Program → Option ℕ → Type 0
IsRegister p r = IfSome r (λ k. k < p.registers)

-- a line of a program of so many lines
abbrev pub IsLine : Program → ℕ → Instruction → Type 0
IsLine p lines (line.Load w r) = IsWord p w × (r < p.registers)
IsLine p lines (line.Store w e) = IsWord p w × IsOperand p e
IsLine p lines (line.Swap w e r) = IsWord p w × IsOperand p e × IsRegister p r
IsLine p lines (line.Add w e r) = IsWord p w × IsOperand p e × IsRegister p r
IsLine p lines (line.Exchange w e f r) = IsWord p w × IsOperand p e × IsOperand p f × IsRegister p r
IsLine p lines (line.Await w rel e r) = IsWord p w × IsOperand p e × IsRegister p r
IsLine p lines (line.Acquire c lifo) = IsCounter p c
IsLine p lines (line.Release c share) = IsCounter p c × IsShare p share
IsLine p lines (line.Ticket l) = l < p.lists
IsLine p lines (line.Wait l) = l < p.lists
IsLine p lines (line.One l) = l < p.lists
IsLine p lines (line.All l) = l < p.lists
IsLine p lines (line.Park w e) = IsWord p w × IsOperand p e
IsLine p lines (line.Unpark w e) = IsWord p w × IsOperand p e
IsLine p lines (line.Out k) = k < p.sections
IsLine p lines (line.Let r e) = (r < p.registers) × IsOperand p e
IsLine p lines (line.Compute r e op f) = (r < p.registers) × IsOperand p e × IsOperand p f
IsLine p lines (line.If e rel f to) = IsOperand p e × IsOperand p f × (to ≤ lines)
IsLine p lines (line.Goto to) = to ≤ lines
IsLine p lines (line.In k) = k < p.sections
IsLine p lines (line.Ask k) = k < p.sections
IsLine p lines (line.Assert e rel f) = IsOperand p e × IsOperand p f
IsLine p lines line.Fail = ⊤

abbrev pub IsCode : Program → List CodeLine → Type 0
IsCode p code = (n : ℕ) (l : CodeLine) → slice_get code n ≡ Some l → IsLine p (length code) l.instruction

-- each line of each program is one, and each seat runs one of the programs
pub record IsWellFormed (p : Program) : Type 0 where
  pub codes : (k : ℕ) → IsCode p (slice_index_or p.codes k [])
  pub seats : (i k : ℕ) → slice_get p.seats i ≡ Some k → k < length p.codes

-- so few of everything that small numbers name them, and counters start below 2^32
pub record IsFew (p : Program) : Type 0 where
  pub seats : length p.seats < 2 ^ 16
  pub words : length p.words < 2 ^ 32
  pub counters : length p.counters < 2 ^ 32
  pub lists : p.lists < 2 ^ 32
  pub registers : p.registers ≤ 8
  pub sections : p.sections ≤ 8
  pub starts : (c : ℕ) → slice_index_or p.counters c 0 < 2 ^ 32
