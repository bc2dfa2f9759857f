-- The marks of lines from which a seat may come into a section.
use Rattle.std.specs.Prelude.{◌≡◌, ℕ, ◌+◌, Bool, false, ◌||◌, IsTrue, ◌↔◌, List, Some, slice_get}
use Rattle.program_code.specs.declared.instruction.Instruction.{Instruction}
use Rattle.program_code.specs.declared.program.CodeLine.{CodeLine}
use Rattle.program_steps.specs.declared.stand.Stand.{Stand}
use Rattle.program_steps.specs.declared.stand.Stand.TheVariants.{Before, Within, Asleep}
use Rattle.program_steps.specs.Entering.{MayEnterFrom, is_in}
use Rattle.program_steps.specs.Marks.{marked, leads_on}

-- whether line n, which says this, ought to have a mark
abbrev pub leads_in : List Bool → ℕ → Instruction → Bool
leads_in marks n i = is_in i || leads_on marks n i

-- each mark is at a line from which some way comes to an `in`
abbrev pub LeadIn : List CodeLine → List Bool → Type 0
LeadIn code marks = (n : ℕ) → IsTrue (marked marks n) → MayEnterFrom code n

-- line n has a mark if it's a line and ought to have one
abbrev pub LacksNone : List CodeLine → List Bool → ℕ → Type 0
LacksNone code marks n =
    (l : CodeLine) → slice_get code n ≡ Some l → IsTrue (leads_in marks n l.instruction) → IsTrue (marked marks n)

-- each line that ought to have a mark has one
abbrev pub AreWhole : List CodeLine → List Bool → Type 0
AreWhole code marks = (n : ℕ) → LacksNone code marks n

-- the marks are at just the lines from which some way comes to an `in`
abbrev pub AreEntrances : List CodeLine → List Bool → Type 0
AreEntrances code marks = (n : ℕ) → IsTrue (marked marks n) ↔ MayEnterFrom code n

-- what they say of a seat that stands there
abbrev pub may_enter : List Bool → Stand → Bool
may_enter marks (Before n) = marked marks n
may_enter marks (Within n) = marked marks n || marked marks (n + 1)
may_enter marks (Asleep n) = marked marks n || marked marks (n + 1)
may_enter marks _ = false
