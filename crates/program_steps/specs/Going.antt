-- How a seat goes on: from a line it runs lines without a step until it comes to one with, to the end, or
-- fails.
use Rattle.std.specs.Prelude.{◌≡◌, ℕ, zero, suc, ◌+◌, ℤ, Bool, true, false, cond, eqb, List, Option, Some}
use Rattle.std.specs.Prelude.{None}
use Rattle.std.specs.Prelude.{slice_get, pos}
use Rattle.program_code.specs.declared.instruction.Instruction.{Instruction}
use Rattle.program_code.specs.declared.instruction.Instruction.TheVariants as line
use Rattle.program_code.specs.declared.program.CodeLine.{CodeLine}
use Rattle.program_steps.specs.declared.failure.Failure.TheVariants.{Assert, Fail, Endless}
use Rattle.program_steps.specs.Numbers.{computed, holds}
use Rattle.program_steps.specs.declared.stand.Stand.{Stand}
use Rattle.program_steps.specs.declared.stand.Stand.TheVariants.{Before, Ended, FailedAt}
use Rattle.program_steps.specs.World.{ProgramSeat}
use Rattle.program_steps.specs.Reading.{value, kept, makes_steps}
use Rattle.program_steps.specs.InUse.{AreCleared}

-- the seat at another line, or with other registers, or in a section or out of it, or asking for one or not
abbrev pub at_line : ProgramSeat → ℕ → ProgramSeat
at_line s n = record s { stand = Before n }

abbrev pub with_register : ProgramSeat → Option ℕ → ℤ → ProgramSeat
with_register s r n = record s { registers = kept s.registers r n }

abbrev pub with_section : ProgramSeat → ℕ → Bool → ProgramSeat
with_section s k inside = record s { sections = λ j. cond (eqb j k) inside (s.sections j) }

abbrev pub with_asking : ProgramSeat → ℕ → Bool → ProgramSeat
with_asking s k asks = record s { asks = λ j. cond (eqb j k) asks (s.asks j) }

-- who enters a section no longer asks for it
abbrev pub entered : ProgramSeat → ℕ → ProgramSeat
entered s k = with_asking (with_section s k true) k false

-- behind the last line a seat asks for nothing
abbrev pub ended : ProgramSeat → ProgramSeat
ended s = record s { stand = Ended; asks = λ k. false }

-- the seat after line n, which makes no step and says this
abbrev pub after_line : ℕ → ProgramSeat → ℕ → Instruction → ProgramSeat
after_line me s n (line.Let r e) = at_line (with_register s (Some r) (value me s.registers e)) (n + 1)
after_line me s n (line.Compute r e op f) =
    at_line (with_register s (Some r) (computed op (value me s.registers e) (value me s.registers f))) (n + 1)
after_line me s n (line.If e rel f to) =
    at_line s (cond (holds rel (value me s.registers e) (value me s.registers f)) to (n + 1))
after_line me s n (line.Goto to) = at_line s to
after_line me s n (line.In k) = at_line (entered s k) (n + 1)
after_line me s n (line.Ask k) = at_line (with_asking s k true) (n + 1)
after_line me s n (line.Assert e rel f) =
    cond (holds rel (value me s.registers e) (value me s.registers f)) (at_line s (n + 1))
    (record s { stand = FailedAt n Assert })
after_line me s n line.Fail = record s { stand = FailedAt n Fail }
after_line me s n _ = s

-- the seat one line without a step further, where it stands before one; behind the last line it has ended
abbrev pub after_line_of : ℕ → ProgramSeat → ℕ → Option CodeLine → ProgramSeat
after_line_of me s n None = ended s
after_line_of me s n (Some l) = after_line me s n l.instruction

abbrev pub advanced_from : List CodeLine → ℕ → ProgramSeat → Stand → ProgramSeat
advanced_from code me s (Before n) = after_line_of me s n (slice_get code n)
advanced_from code me s stand = s

unfoldable pub advanced : List CodeLine → ℕ → ℕ → ProgramSeat → ProgramSeat
advanced code me zero s = s
advanced code me (suc lines) s = advanced code me lines (advanced_from code me s s.stand)

-- who has run so many, and stands before one more, fails there
abbrev pub endless_at : ProgramSeat → ℕ → Option CodeLine → ProgramSeat
endless_at s n None = ended s
endless_at s n (Some l) = cond (makes_steps l.instruction) s (record s { stand = FailedAt n Endless })

abbrev pub endless_from : List CodeLine → ProgramSeat → Stand → ProgramSeat
endless_from code s (Before n) = endless_at s n (slice_get code n)
endless_from code s stand = s

-- where a seat comes to from line n, by 256 lines without a step at most
abbrev pub come_from : List CodeLine → ℕ → ProgramSeat → ℕ → ProgramSeat
come_from code me s n =
    let last : ProgramSeat = advanced code me 256 (at_line s n) in endless_from code last last.stand

-- the registers of a seat that has come to stand there: what isn't in use is 0, and who has failed keeps all
abbrev pub AreLeft : List CodeLine → Stand → (ℕ → ℤ) → (ℕ → ℤ) → Type 0
AreLeft code (Before n) come left = AreCleared code n come left
AreLeft code (FailedAt n why) come left = (r : ℕ) → left r ≡ come r
AreLeft code _ come left = (r : ℕ) → left r ≡ pos 0

-- the seat goes on from line n, and then what isn't in use is 0
pub record GoesOn (code : List CodeLine) (me : ℕ) (s : ProgramSeat) (n : ℕ) (t : ProgramSeat) : Type 0 where
  pub stand : t.stand ≡ (come_from code me s n).stand
  pub sections : (k : ℕ) → t.sections k ≡ (come_from code me s n).sections k
  pub asks : (k : ℕ) → t.asks k ≡ (come_from code me s n).asks k
  pub registers : AreLeft code t.stand (come_from code me s n).registers t.registers
