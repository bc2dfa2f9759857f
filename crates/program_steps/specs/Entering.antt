-- Which sections a seat comes into by a step, and whether it may come into one later.
use Rattle.std.specs.Prelude.{◌≡◌, ℕ, zero, suc, ◌+◌, Bool, true, false, ◌||◌, eqb, IsTrue, ◌⊎◌}
use Rattle.std.specs.Prelude.{List, Option, None, Some, slice_get}
use Rattle.program_code.specs.declared.instruction.Instruction.{Instruction}
use Rattle.program_code.specs.declared.instruction.Instruction.TheVariants as line
use Rattle.program_code.specs.declared.program.CodeLine.{CodeLine}
use Rattle.program_code.specs.declared.program.Program.{Program}
use Rattle.program_steps.specs.declared.stand.Stand.{Stand}
use Rattle.program_steps.specs.declared.stand.Stand.TheVariants.{Before, Within, Asleep}
use Rattle.program_steps.specs.Going.{advanced_from, at_line}
use Rattle.program_steps.specs.Reading.{MayGo}
use Rattle.program_steps.specs.Steps.{Did, Then, OnFromNext, row_of, at}
use Rattle.program_steps.specs.World.{ProgramWorld, ProgramSeat, code_of}

-- ---- by a step

-- whether the line is an `in`, of section k
abbrev pub is_in_of : ℕ → Instruction → Bool
is_in_of k (line.In j) = eqb k j
is_in_of k _ = false

abbrev pub is_in_there : ℕ → Option CodeLine → Bool
is_in_there k None = false
is_in_there k (Some l) = is_in_of k l.instruction

-- whether such a line is the next of a seat that stands there
abbrev pub is_in_next : List CodeLine → Stand → ℕ → Bool
is_in_next code (Before n) k = is_in_there k (slice_get code n)
is_in_next code _ k = false

-- whether the seat runs one among so many lines without a step, at most
unfoldable pub comes_into_within : List CodeLine → ℕ → ℕ → ProgramSeat → ℕ → Bool
comes_into_within code me zero s k = false
comes_into_within code me (suc lines) s k =
    is_in_next code s.stand k || comes_into_within code me lines (advanced_from code me s s.stand) k

-- whether it does as it goes on from line n, by 256 lines without a step at most
abbrev pub comes_into : List CodeLine → ℕ → ProgramSeat → ℕ → ℕ → Bool
comes_into code me s n k = comes_into_within code me 256 (at_line s n) k

-- whether it does by what comes after its row at line n: it runs more lines only where it goes on
abbrev pub comes_into_then : List CodeLine → ℕ → ProgramSeat → ℕ → Then → ℕ → Bool
comes_into_then code me s n OnFromNext k = comes_into code me s (n + 1) k
comes_into_then code me s n _ k = false

-- by its step seat i comes into section k
pub record EntersBy (p : Program) (s : ProgramWorld) (i k : ℕ) : Type 0 where
  pub did : Did
  pub is : row_of p s i ≡ Some did
  pub into : IsTrue (comes_into_then (code_of p i) i (did.world.seats i) (at (s.seats i).stand) did.next k)

-- the seat, out of all sections: what it is in as it goes on from there it has come into
abbrev pub outside : ProgramSeat → ProgramSeat
outside s = record s { sections = λ k. false }

-- ---- later

-- whether the line is an `in`
abbrev pub is_in : Instruction → Bool
is_in (line.In k) = true
is_in _ = false

-- some way over lines comes from line n to an `in`: each `if` may be taken either way
pub data MayEnterFrom (code : List CodeLine) : ℕ → Type 0 where
  here : {n : ℕ} {l : CodeLine} → slice_get code n ≡ Some l → IsTrue (is_in l.instruction) → MayEnterFrom code n
  later : {n m : ℕ} {l : CodeLine} → slice_get code n ≡ Some l → MayGo l.instruction n m → MayEnterFrom code m
      → MayEnterFrom code n

-- so it does for a seat that stands there. Who is in a call or asleep is at its line still, and goes on behind it
abbrev pub MayEnter : List CodeLine → Stand → Type 0
MayEnter code (Before n) = MayEnterFrom code n
MayEnter code (Within n) = MayEnterFrom code n ⊎ MayEnterFrom code (n + 1)
MayEnter code (Asleep n) = MayEnterFrom code n ⊎ MayEnterFrom code (n + 1)
MayEnter code _ = ⊥
