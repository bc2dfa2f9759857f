-- What an operator makes of two signed numbers of 64 bits, and how they are compared.
use Rattle.std.specs.Prelude.{ℤ, ℕ, Bool, not, ◌%◌, int_lt, int_le}
use Rattle.std.specs.Ordering.{int_eq}
use Rattle.std.specs.Int.{w64, cast_unsigned, int_wrapping_add, int_wrapping_sub}
use Rattle.std.specs.Int.{int_bit_and, int_bit_or, int_bit_xor, int_shl, int_shr}
use Rattle.program_code.specs.declared.operator.Operator.{Operator}
use Rattle.program_code.specs.declared.operator.Operator.TheVariants.{Plus, Minus, And, Or, ExclusiveOr}
use Rattle.program_code.specs.declared.operator.Operator.TheVariants.{ShiftLeft, ShiftRight}
use Rattle.program_code.specs.declared.relation.Relation.{Relation}
use Rattle.program_code.specs.declared.relation.Relation.TheVariants.{Equal, Unequal, Less, AtMost, Greater}
use Rattle.program_code.specs.declared.relation.Relation.TheVariants.{AtLeast}

-- how far a shift by b goes
abbrev pub shift : ℤ → ℕ
shift b = cast_unsigned w64 b % 64

-- modulo 2^64, as a signed number; a shift goes as far as its second number says modulo 64
abbrev pub computed : Operator → ℤ → ℤ → ℤ
computed Plus a b = int_wrapping_add w64 a b
computed Minus a b = int_wrapping_sub w64 a b
computed And a b = int_bit_and w64 a b
computed Or a b = int_bit_or w64 a b
computed ExclusiveOr a b = int_bit_xor w64 a b
computed ShiftLeft a b = int_shl w64 a (shift b)
computed ShiftRight a b = int_shr a (shift b)

-- whether the two are so
abbrev pub holds : Relation → ℤ → ℤ → Bool
holds Equal a b = int_eq a b
holds Unequal a b = not (int_eq a b)
holds Less a b = int_lt a b
holds AtMost a b = int_le a b
holds Greater a b = int_lt b a
holds AtLeast a b = int_le b a
