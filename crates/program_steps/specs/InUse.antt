-- Which registers are in use before a line: what no line will read of a seat becomes 0, so that worlds don't
-- differ in what nobody can tell.
use Rattle.std.specs.Prelude.{◌≡◌, ℕ, ℤ, pos, false, IsTrue, List, Some, slice_get}
use Rattle.program_code.specs.declared.program.CodeLine.{CodeLine}
use Rattle.program_steps.specs.Reading.{reads, writes, MayGo}

-- some way from line n on comes to a line that reads the register r, with no line on the way that writes it
pub data IsInUse (code : List CodeLine) (r : ℕ) : ℕ → Type 0 where
  here : {n : ℕ} {l : CodeLine} → slice_get code n ≡ Some l → IsTrue (reads r l.instruction)
      → IsInUse code r n
  later : {n m : ℕ} {l : CodeLine} → slice_get code n ≡ Some l → writes r l.instruction ≡ false
      → MayGo l.instruction n m → IsInUse code r m → IsInUse code r n

-- the registers before line n, where those that aren't in use are 0
pub record AreCleared (code : List CodeLine) (n : ℕ) (old new : ℕ → ℤ) : Type 0 where
  pub used : (r : ℕ) → IsInUse code r n → new r ≡ old r
  pub unused : (r : ℕ) → (IsInUse code r n → ⊥) → new r ≡ pos 0
