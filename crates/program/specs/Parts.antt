-- What the parts of a line stand for, or what is wrong with them.
use Rattle.std.specs.Prelude.{ℕ, ◌+◌, ◌-◌, ◌^◌, ◌==◌, nat_lt, ◌||◌, cond, ℤ, pos, negsuc, neg_ℤ, List, Option}
use Rattle.std.specs.Prelude.{Some, None}
use Rattle.std.specs.Prelude.{Result, Ok, Err}
use Rattle.program_text.specs.declared.words.Number.{Number}
use Rattle.program_text.specs.declared.words.Number.TheVariants.{Plus, Minus}
use Rattle.program_text.specs.declared.words.SpelledOperand.{SpelledOperand}
use Rattle.program_text.specs.declared.words.SpelledOperand.TheVariants as text
use Rattle.program_text.specs.declared.words.SpelledPlace.{SpelledPlace}
use Rattle.program_text.specs.declared.lines.SpelledShare.{SpelledShare}
use Rattle.program_text.specs.declared.lines.SpelledShare.TheVariants as share
use Rattle.program_code.specs.declared.operand.Operand.{Operand}
use Rattle.program_code.specs.declared.operand.Operand.TheVariants as code
use Rattle.program_code.specs.declared.operand.CodePlace.{CodePlace}
use Rattle.program_code.specs.declared.operand.CodePlace.TheVariants.{Single, Member}
use Rattle.program_code.specs.declared.operand.Share.{Share}
use Rattle.program_code.specs.declared.operand.Share.TheVariants as shared
use Rattle.program_text.specs.declared.cause.ProgramCause.{ProgramCause}
use Rattle.program_text.specs.declared.cause.ProgramCause.TheVariants.{Range, Undeclared, Array}
use Rattle.program.specs.declared.names.CellSpan.{CellSpan}
use Rattle.program.specs.declared.names.DeclaredNames.{DeclaredNames}
use Rattle.program.specs.Causes.{both, map_ok, and_then}
use Rattle.program.specs.Names.{declared, number_of_name, value_of, span_of}

-- ---- numbers

-- from -2 ^ 63 to 2 ^ 63 - 1
abbrev pub number_of : Number → Result ℤ ProgramCause
number_of (Plus n) = cond (nat_lt n (2 ^ 63)) (Ok (pos n)) (Err Range)
number_of (Minus n) = cond (nat_lt (2 ^ 63) n) (Err Range) (Ok (neg_ℤ (pos n)))

-- how many, from 0 to 2 ^ 63 - 1
abbrev pub count_of : Number → Result ℕ ProgramCause
count_of (Plus n) = cond (nat_lt n (2 ^ 63)) (Ok n) (Err Range)
count_of (Minus n) = Err Range

-- how many passes, from 0 to 255
abbrev pub passes_of : Number → Result ℕ ProgramCause
passes_of (Plus n) = cond (nat_lt 255 n) (Err Range) (Ok n)
passes_of (Minus n) = Err Range

-- how many, from 1 on
abbrev pub some_of : Number → Result ℕ ProgramCause
some_of (Plus n) = cond (n == 0 || nat_lt (2 ^ 63 - 1) n) (Err Range) (Ok n)
some_of (Minus n) = Err Range

-- how many members an array has, 1 to 16
abbrev pub length_of : Option SpelledOperand → Result (Option ℕ) ProgramCause
length_of None = Ok None
length_of (Some (text.Number (Plus n))) = cond (n == 0 || nat_lt 16 n) (Err Range) (Ok (Some n))
length_of index = Err Range

-- a number or a constant
abbrev pub fixed_of : DeclaredNames → SpelledOperand → Result ℤ ProgramCause
fixed_of names (text.Number n) = number_of n
fixed_of names text.Me = Err Undeclared
fixed_of names (text.Name name) = declared (value_of names.constants name)

-- from 0 to 2 ^ 32 - 1
abbrev pub as_start : ℤ → Result ℕ ProgramCause
as_start (pos n) = cond (nat_lt n (2 ^ 32)) (Ok n) (Err Range)
as_start (negsuc n) = Err Range

-- what a counter starts at
abbrev pub start_of : DeclaredNames → SpelledOperand → Result ℕ ProgramCause
start_of names v = and_then (fixed_of names v) as_start

-- ---- names

abbrev pub list_of : DeclaredNames → List ℕ → Result ℕ ProgramCause
list_of names name = declared (number_of_name names.lists name)

abbrev pub register_of : DeclaredNames → List ℕ → Result ℕ ProgramCause
register_of names name = declared (number_of_name names.registers name)

abbrev pub section_of : DeclaredNames → List ℕ → Result ℕ ProgramCause
section_of names name = declared (number_of_name names.sections name)

abbrev pub program_of : DeclaredNames → List ℕ → Result ℕ ProgramCause
program_of names name = declared (number_of_name names.programs name)

-- a register that may be left out
abbrev pub result_of : DeclaredNames → Option (List ℕ) → Result (Option ℕ) ProgramCause
result_of names None = Ok None
result_of names (Some name) = map_ok Some (register_of names name)

-- ---- operands and places

abbrev pub constant_or : Option ℤ → Result ℕ ProgramCause → Result Operand ProgramCause
constant_or (Some v) register = Ok (code.Number v)
constant_or None register = map_ok code.Register register

abbrev pub operand_of : DeclaredNames → SpelledOperand → Result Operand ProgramCause
operand_of names (text.Number n) = map_ok code.Number (number_of n)
operand_of names text.Me = Ok code.Me
operand_of names (text.Name name) = constant_or (value_of names.constants name) (register_of names name)

-- one without an index must be no array
abbrev pub single_of : ℕ → Option ℕ → Result CodePlace ProgramCause
single_of first None = Ok (Single first)
single_of first (Some length) = Err Array

-- one with an index must be an array
abbrev pub member_of : ℕ → Option ℕ → Operand → Result CodePlace ProgramCause
member_of first None e = Err Array
member_of first (Some length) e = Ok (Member first length e)

abbrev pub place_of :
    DeclaredNames → Result CellSpan ProgramCause → Option SpelledOperand → Result CodePlace ProgramCause
place_of names cells None = and_then cells (λ c. single_of c.first c.length)
place_of names cells (Some e) =
    and_then (both cells (operand_of names e)) (λ x. member_of x.0.first x.0.length x.1)

abbrev pub word_of : DeclaredNames → SpelledPlace → Result CodePlace ProgramCause
word_of names w = place_of names (declared (span_of names.words w.name)) w.index

abbrev pub counter_of : DeclaredNames → SpelledPlace → Result CodePlace ProgramCause
counter_of names c = place_of names (declared (span_of names.counters c.name)) c.index

abbrev pub share_of : DeclaredNames → SpelledShare → Result Share ProgramCause
share_of names share.One = Ok shared.One
share_of names share.Handoff = Ok shared.Handoff
share_of names (share.Many e) = map_ok shared.Many (operand_of names e)

-- ---- the one word or counter of which a property speaks

abbrev pub index_of : DeclaredNames → Option SpelledOperand → Result (Option ℤ) ProgramCause
index_of names None = Ok None
index_of names (Some e) = map_ok Some (fixed_of names e)

-- the number of a member, which must be there
abbrev pub fixed_member : ℕ → ℕ → ℤ → Result ℕ ProgramCause
fixed_member first length (pos n) = cond (nat_lt n length) (Ok (first + n)) (Err Range)
fixed_member first length (negsuc n) = Err Range

abbrev pub only_of : ℕ → Option ℕ → Option ℤ → Result ℕ ProgramCause
only_of first None None = Ok first
only_of first (Some length) (Some i) = fixed_member first length i
only_of first length index = Err Array

abbrev pub fixed_place :
    DeclaredNames → Result CellSpan ProgramCause → Option SpelledOperand → Result ℕ ProgramCause
fixed_place names cells index =
    and_then (both cells (index_of names index)) (λ x. only_of x.0.first x.0.length x.1)
