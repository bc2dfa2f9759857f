-- What a line reads and writes of its seat, whether it makes steps, and where its seat may go from it.
use Rattle.std.specs.Prelude.{◌≡◌, ℕ, ◌+◌, ℤ, pos, Bool, true, false, ◌&&◌, ◌||◌, eqb, cond, int_lt, int_le}
use Rattle.std.specs.Prelude.{unsigned_abs, Option, Some, None, ◌⊎◌}
use Rattle.program_code.specs.declared.instruction.Instruction.{Instruction}
use Rattle.program_code.specs.declared.instruction.Instruction.TheVariants as line
use Rattle.program_code.specs.declared.operand.Operand.{Operand}
use Rattle.program_code.specs.declared.operand.Operand.TheVariants.{Number, Me, Register}
use Rattle.program_code.specs.declared.operand.CodePlace.{CodePlace}
use Rattle.program_code.specs.declared.operand.CodePlace.TheVariants.{Single, Member}
use Rattle.program_code.specs.declared.operand.Share.{Share}
use Rattle.program_code.specs.declared.operand.Share.TheVariants.{Many}

-- the number that an operand stands for, by the seat's own number and its registers
abbrev pub value : ℕ → (ℕ → ℤ) → Operand → ℤ
value me registers (Number n) = n
value me registers Me = pos me
value me registers (Register r) = registers r

-- the member of this index, where the array has one
abbrev pub member : ℕ → ℕ → ℤ → Option ℕ
member first many i = cond (int_le (pos 0) i && int_lt i (pos many)) (Some (first + unsigned_abs i)) None

-- the word or counter of a place, where its index is within the array
abbrev pub place_of : ℕ → (ℕ → ℤ) → CodePlace → Option ℕ
place_of me registers (Single w) = Some w
place_of me registers (Member first many e) = member first many (value me registers e)

-- the registers with this number in one, if one is named
abbrev pub kept : (ℕ → ℤ) → Option ℕ → ℤ → ℕ → ℤ
kept registers None n k = registers k
kept registers (Some r) n k = cond (eqb k r) n (registers k)

abbrev pub makes_steps : Instruction → Bool
makes_steps (line.Let r e) = false
makes_steps (line.Compute r e op f) = false
makes_steps (line.If e rel f to) = false
makes_steps (line.Goto to) = false
makes_steps (line.In s) = false
makes_steps (line.Ask s) = false
makes_steps (line.Assert e rel f) = false
makes_steps line.Fail = false
makes_steps _ = true

abbrev pub operand_reads : ℕ → Operand → Bool
operand_reads r (Register k) = eqb r k
operand_reads r _ = false

abbrev pub place_reads : ℕ → CodePlace → Bool
place_reads r (Single w) = false
place_reads r (Member first many e) = operand_reads r e

abbrev pub share_reads : ℕ → Share → Bool
share_reads r (Many e) = operand_reads r e
share_reads r _ = false

abbrev pub names : ℕ → Option ℕ → Bool
names r None = false
names r (Some k) = eqb r k

-- whether the line reads the register r
abbrev pub reads : ℕ → Instruction → Bool
reads r (line.Load w k) = place_reads r w
reads r (line.Store w e) = place_reads r w || operand_reads r e
reads r (line.Swap w e k) = place_reads r w || operand_reads r e
reads r (line.Add w e k) = place_reads r w || operand_reads r e
reads r (line.Exchange w e f k) = place_reads r w || (operand_reads r e || operand_reads r f)
reads r (line.Await w rel e k) = place_reads r w || operand_reads r e
reads r (line.Acquire c lifo) = place_reads r c
reads r (line.Release c share) = place_reads r c || share_reads r share
reads r (line.Park w e) = place_reads r w || operand_reads r e
reads r (line.Unpark w e) = place_reads r w || operand_reads r e
reads r (line.Let k e) = operand_reads r e
reads r (line.Compute k e op f) = operand_reads r e || operand_reads r f
reads r (line.If e rel f to) = operand_reads r e || operand_reads r f
reads r (line.Assert e rel f) = operand_reads r e || operand_reads r f
reads r _ = false

-- whether the line writes it
abbrev pub writes : ℕ → Instruction → Bool
writes r (line.Load w k) = eqb r k
writes r (line.Swap w e k) = names r k
writes r (line.Add w e k) = names r k
writes r (line.Exchange w e f k) = names r k
writes r (line.Await w rel e k) = names r k
writes r (line.Let k e) = eqb r k
writes r (line.Compute k e op f) = eqb r k
writes r _ = false

-- the seat may go from line n, which says this, to line m: each `if` may be taken either way
abbrev pub MayGo : Instruction → ℕ → ℕ → Type 0
MayGo (line.If e rel f to) n m = (m ≡ n + 1) ⊎ (m ≡ to)
MayGo (line.Goto to) n m = m ≡ to
MayGo line.Fail n m = ⊥
MayGo _ n m = m ≡ n + 1
