-- What names stand for: of lists, registers, sections and programs the number in the order of their kind.
use Rattle.std.specs.Prelude.{ℕ, ℤ, Bool, false, cond, ◌||◌, List, [], ◌∷◌, Option, Some, None}
use Rattle.std.specs.Prelude.{Result}
use Rattle.std.specs.List.{list_any, position}
use Rattle.std.specs.Option.{ok_or}
use Rattle.std.specs.Str.{bytes_eq}
use Rattle.program_text.specs.declared.cause.ProgramCause.{ProgramCause}
use Rattle.program_text.specs.declared.cause.ProgramCause.TheVariants.{Undeclared}
use Rattle.program.specs.declared.names.Cells.{Cells}
use Rattle.program.specs.declared.names.Constant.{Constant}
use Rattle.program.specs.declared.names.CellSpan.{CellSpan}
use Rattle.program.specs.declared.names.DeclaredNames.{DeclaredNames}

-- what must be there, or the name isn't declared
abbrev pub declared : {A : Type 0} → Option A → Result A ProgramCause
declared o = ok_or o Undeclared

abbrev pub number_of_name : List (List ℕ) → List ℕ → Option ℕ
number_of_name names name = position (λ x. bytes_eq x name) names

abbrev pub value_of : List Constant → List ℕ → Option ℤ
value_of [] name = None
value_of (c ∷ cs) name = cond (bytes_eq c.name name) (Some c.value) (value_of cs name)

abbrev pub span_of : List Cells → List ℕ → Option CellSpan
span_of [] name = None
span_of (c ∷ cs) name = cond (bytes_eq c.name name) (Some c.span) (span_of cs name)

-- ---- names that are declared already

abbrev pub holds_name : List (List ℕ) → List ℕ → Bool
holds_name names name = list_any (λ x. bytes_eq x name) names

abbrev pub holds_constant : List Constant → List ℕ → Bool
holds_constant constants name = list_any (λ (c : Constant). bytes_eq c.name name) constants

abbrev pub holds_cells : List Cells → List ℕ → Bool
holds_cells cells name = list_any (λ (c : Cells). bytes_eq c.name name) cells

abbrev pub is_valued : DeclaredNames → List ℕ → Bool
is_valued names name =
    holds_constant names.constants name || holds_cells names.words name || holds_cells names.counters name

abbrev pub is_numbered : DeclaredNames → List ℕ → Bool
is_numbered names name =
    holds_name names.lists name || holds_name names.registers name || holds_name names.sections name
    || holds_name names.programs name

-- whatever its kind
abbrev pub is_declared : DeclaredNames → List ℕ → Bool
is_declared names name = is_valued names name || is_numbered names name

-- one of these is declared already, or stands twice among them
abbrev pub is_any_again : DeclaredNames → List (List ℕ) → Bool
is_any_again names [] = false
is_any_again names (x ∷ xs) = is_declared names x || holds_name xs x || is_any_again names xs
