-- The signs of relations and operators.
use Rattle.std.specs.Prelude.{◌≡◌, ℕ, List, ◌↔◌, Option, Some, codes}
use Rattle.program_code.specs.declared.operator.Operator.{Operator}
use Rattle.program_code.specs.declared.operator.Operator.TheVariants as operator
use Rattle.program_code.specs.declared.relation.Relation.{Relation}
use Rattle.program_code.specs.declared.relation.Relation.TheVariants as relation

-- ---- relations

abbrev pub relation_text : Relation → List ℕ
relation_text relation.Equal = codes "=="
relation_text relation.Unequal = codes "!="
relation_text relation.Less = codes "<"
relation_text relation.AtMost = codes "<="
relation_text relation.Greater = codes ">"
relation_text relation.AtLeast = codes ">="

abbrev pub IsRelation : List ℕ → Relation → Type 0
IsRelation word r = word ≡ relation_text r

-- o is the one relation that the word is, or None where it is none
abbrev pub IsRelationRead : List ℕ → Option Relation → Type 0
IsRelationRead word o = (r : Relation) → IsRelation word r ↔ (o ≡ Some r)

-- ---- operators

abbrev pub operator_text : Operator → List ℕ
operator_text operator.Plus = codes "+"
operator_text operator.Minus = codes "-"
operator_text operator.And = codes "&"
operator_text operator.Or = codes "|"
operator_text operator.ExclusiveOr = codes "^"
operator_text operator.ShiftLeft = codes "<<"
operator_text operator.ShiftRight = codes ">>"

abbrev pub IsOperator : List ℕ → Operator → Type 0
IsOperator word o = word ≡ operator_text o

-- the same of operators
abbrev pub IsOperatorRead : List ℕ → Option Operator → Type 0
IsOperatorRead word found = (o : Operator) → IsOperator word o ↔ (found ≡ Some o)
