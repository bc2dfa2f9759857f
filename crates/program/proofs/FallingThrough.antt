-- A line of none of the kinds before it is a statement.
use Rattle.std.proofs.Common.{◌≡◌, ℕ, List, refl}
use Rattle.program_code.specs.declared.relation.Relation.{Relation}
use Rattle.program_text.specs.declared.words.SpelledOperand.{SpelledOperand}
use Rattle.program_text.specs.declared.words.SpelledPlace.{SpelledPlace}
use Rattle.program_text.specs.declared.words.Number.{Number}
use Rattle.program_text.specs.declared.lines.SpelledLine.{SpelledLine}
use Rattle.program_text.specs.declared.lines.SpelledLine.TheVariants.{Blank, Const, Word, Counter, List as NotifyList, Registers}
use Rattle.program_text.specs.declared.lines.SpelledLine.TheVariants.{Section, Program, Seats, Most, Apart, Passed, Finally}
use Rattle.program.specs.declared.names.DeclaredNames.{DeclaredNames}
use Rattle.program.specs.Statements.{statement_of}
use Rattle.program.specs.Meanings.{meant_of}
use Rattle.program.specs.Causes.{map_ok}
use Rattle.program.specs.declared.meant.Meant.TheVariants as meant

-- a line that is none of the first kinds
pub record IsOther (line : SpelledLine) : Type 0 where
  pub blank : line ≡ Blank → ⊥
  pub const : (n : List ℕ) (v : Number) → line ≡ Const n v → ⊥
  pub word : (w : SpelledPlace) (v : SpelledOperand) → line ≡ Word w v → ⊥
  pub counter : (w : SpelledPlace) (v : SpelledOperand) → line ≡ Counter w v → ⊥
  pub list : (n : List ℕ) → line ≡ NotifyList n → ⊥
  pub registers : (ns : List (List ℕ)) → line ≡ Registers ns → ⊥
  pub section : (n : List ℕ) → line ≡ Section n → ⊥
  pub program : (n : List ℕ) → line ≡ Program n → ⊥
  pub seats : (k : Number) (n : List ℕ) → line ≡ Seats k n → ⊥
  pub most : (s : List ℕ) (n : Number) → line ≡ Most s n → ⊥
  pub apart : (s t : List ℕ) → line ≡ Apart s t → ⊥
  pub passed : (s : List ℕ) (n : Number) → line ≡ Passed s n → ⊥
  pub finally : (w : SpelledPlace) (r : Relation) (v : SpelledOperand) → line ≡ Finally w r v → ⊥

pub statement_is : (names : DeclaredNames) (ended : ℕ) (line : SpelledLine) → IsOther line
    → map_ok meant.Statement (statement_of names ended line) ≡ meant_of names ended line
statement_is names ended Blank o = absurd (o.blank refl)
statement_is names ended (Const n v) o = absurd (o.const n v refl)
statement_is names ended (Word w v) o = absurd (o.word w v refl)
statement_is names ended (Counter w v) o = absurd (o.counter w v refl)
statement_is names ended (NotifyList n) o = absurd (o.list n refl)
statement_is names ended (Registers ns) o = absurd (o.registers ns refl)
statement_is names ended (Section n) o = absurd (o.section n refl)
statement_is names ended (Program n) o = absurd (o.program n refl)
statement_is names ended (Seats k n) o = absurd (o.seats k n refl)
statement_is names ended (Most s n) o = absurd (o.most s n refl)
statement_is names ended (Apart s t) o = absurd (o.apart s t refl)
statement_is names ended (Passed s n) o = absurd (o.passed s n refl)
statement_is names ended (Finally w r v) o = absurd (o.finally w r v refl)
statement_is names ended line o = refl
