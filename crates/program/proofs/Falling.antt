-- A line of none of these kinds is read by the next definition.
use Rattle.std.proofs.Common.{◌≡◌, ℕ, Bool, List, Option, refl}
use Rattle.program_code.specs.declared.relation.Relation.{Relation}
use Rattle.program_text.specs.declared.words.SpelledOperand.{SpelledOperand}
use Rattle.program_text.specs.declared.words.SpelledPlace.{SpelledPlace}
use Rattle.program_text.specs.declared.lines.SpelledShare.{SpelledShare}
use Rattle.program_text.specs.declared.lines.SpelledLine.{SpelledLine}
use Rattle.program_text.specs.declared.lines.SpelledLine.TheVariants.{Load, Store, Swap, Add, Exchange, Await, Acquire, Release, Ticket, Wait, One, All}
use Rattle.program_text.specs.declared.lines.SpelledLine.TheVariants.{Park, Unpark, If, Goto, Label, Do, Return}
use Rattle.program.specs.declared.names.DeclaredNames.{DeclaredNames}
use Rattle.program.specs.Statements.{seat_line, layer_line, access_line, statement_of}
use Rattle.program.specs.Causes.{map_ok}
use Rattle.program.specs.declared.statement.Statement.TheVariants as says

pub seat_is : (names : DeclaredNames) (line : SpelledLine) → ((c : SpelledPlace) (l : Bool) → line ≡ Acquire c l → ⊥)
    → ((c : SpelledPlace) (s : SpelledShare) → line ≡ Release c s → ⊥)
    → ((l : List ℕ) → line ≡ Ticket l → ⊥) → ((l : List ℕ) → line ≡ Wait l → ⊥) → ((l : List ℕ) → line ≡ One l → ⊥)
    → ((l : List ℕ) → line ≡ All l → ⊥)
    → ((w : SpelledPlace) (e : SpelledOperand) → line ≡ Park w e → ⊥) → ((w : SpelledPlace) (e : SpelledOperand) → line ≡ Unpark w e → ⊥)
    → seat_line names line ≡ layer_line names line
seat_is names (Acquire c l) a b d e f g h i = absurd (a c l refl)
seat_is names (Release c s) a b d e f g h i = absurd (b c s refl)
seat_is names (Ticket l) a b d e f g h i = absurd (d l refl)
seat_is names (Wait l) a b d e f g h i = absurd (e l refl)
seat_is names (One l) a b d e f g h i = absurd (f l refl)
seat_is names (All l) a b d e f g h i = absurd (g l refl)
seat_is names (Park w o) a b d e f g h i = absurd (h w o refl)
seat_is names (Unpark w o) a b d e f g h i = absurd (i w o refl)
seat_is names line a b d e f g h i = refl

pub layer_is : (names : DeclaredNames) (line : SpelledLine) → ((w : SpelledPlace) (r : List ℕ) → line ≡ Load w r → ⊥)
    → ((w : SpelledPlace) (e : SpelledOperand) → line ≡ Store w e → ⊥)
    → ((w : SpelledPlace) (e : SpelledOperand) (o : Option (List ℕ)) → line ≡ Swap w e o → ⊥)
    → ((w : SpelledPlace) (e : SpelledOperand) (o : Option (List ℕ)) → line ≡ Add w e o → ⊥)
    → ((w : SpelledPlace) (e f : SpelledOperand) (o : Option (List ℕ)) → line ≡ Exchange w e f o → ⊥)
    → ((w : SpelledPlace) (r : Relation) (e : SpelledOperand) (o : Option (List ℕ)) → line ≡ Await w r e o → ⊥)
    → layer_line names line ≡ access_line names line
layer_is names (Load w r) a b d e f g = absurd (a w r refl)
layer_is names (Store w o) a b d e f g = absurd (b w o refl)
layer_is names (Swap w o r) a b d e f g = absurd (d w o r refl)
layer_is names (Add w o r) a b d e f g = absurd (e w o r refl)
layer_is names (Exchange w o n r) a b d e f g = absurd (f w o n r refl)
layer_is names (Await w rel o r) a b d e f g = absurd (g w rel o r refl)
layer_is names line a b d e f g = refl

pub plain_is : (names : DeclaredNames) (ended : ℕ) (line : SpelledLine) → ((e : SpelledOperand) (r : Relation) (f : SpelledOperand) (a : List ℕ) → line ≡ If e r f a → ⊥)
    → ((a : List ℕ) → line ≡ Goto a → ⊥) → ((a : List ℕ) → line ≡ Label a → ⊥)
    → ((p : List ℕ) → line ≡ Do p → ⊥) → (line ≡ Return → ⊥)
    → map_ok says.Plain (access_line names line) ≡ statement_of names ended line
plain_is names ended (If e r f n) a b d g h = absurd (a e r f n refl)
plain_is names ended (Goto n) a b d g h = absurd (b n refl)
plain_is names ended (Label n) a b d g h = absurd (d n refl)
plain_is names ended (Do n) a b d g h = absurd (g n refl)
plain_is names ended Return a b d g h = absurd (h refl)
plain_is names ended line a b d g h = refl
