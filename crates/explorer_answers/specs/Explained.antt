-- What is said of a faulty line: what is wrong with it, the line as far as it can be printed, and what was
-- expected.
use Rattle.std.specs.Prelude.{◌≡◌, ◌≢◌, ◌⊎◌, ℕ, ◌+◌, ◌-◌, ◌≤◌, ◌==◌, ◌&&◌, ◌||◌, Bool, true, false, nat_lt, nat_eq, not}
use Rattle.std.specs.Prelude.{◌∷◌, []}
use Rattle.std.specs.Prelude.{◌++◌, List, length}
use Rattle.std.specs.Prelude.{take, drop, min, slice_index, codes}
use Rattle.std.specs.List.{position_or_len, list_all, list_any, starts_with, AllByRecursion}
use Rattle.std.specs.Fmt.{decimal}
use Rattle.scenario_text.specs.declared.read_fault.Cause.{Cause}
use Rattle.scenario_text.specs.declared.read_fault.Cause.TheVariants as cause
use Rattle.scenario_text.specs.declared.read_fault.ReadFault.{ReadFault}
use Rattle.scenario_text.specs.Causes.{is_printable}
use Rattle.scenario_text.specs.Phrases.{IsSomeCall}
use Rattle.scenario_text.specs.Pieces.{pieces, text_at}
use Rattle.explorer_answers.specs.declared.formless.Formless.{Formless}
use Rattle.explorer_answers.specs.declared.formless.Formless.TheVariants.{NoLine, OfLock, NoCall, NotParted, ManyDigits}
use Rattle.explorer_answers.specs.declared.problem.Problem.{Problem}
use Rattle.explorer_answers.specs.declared.problem.Problem.TheVariants.{NoLineFeed, Unprintable, Return, NoForm}
use Rattle.explorer_answers.specs.declared.problem.Problem.TheVariants.{Misplaced, OutOfRange, TooMany}
use Rattle.explorer_answers.specs.declared.problem.Problem.TheVariants.{Undeclared, Ticket, NoProperty}

-- the bytes at the beginning of a line that can be printed, 80 at most
abbrev pub shown : List ℕ → List ℕ
shown line = take (min (position_or_len (λ byte. not (is_printable byte)) line) 80) line

-- the last byte is a carriage return
abbrev pub ends_in_return : List ℕ → Bool
ends_in_return line = slice_index line (length line - 1) == 13

abbrev pub is_digit : ℕ → Bool
is_digit byte = not (nat_lt byte 48) && not (nat_lt 57 byte)

-- so many digits stand in a row in the text, from some place on
abbrev pub HasDigits : ℕ → List ℕ → Type 0
HasDigits count text =
    (place : ℕ) × (place + count ≤ length text) × (list_all is_digit (take count (drop place text)) ≡ true)

-- this stands nowhere in the text
abbrev pub Lacks : List ℕ → List ℕ → Type 0
Lacks text this = (before behind : List ℕ) → text ≢ before ++ (this ++ behind)

-- calls, each with what parts it from the next
abbrev pub parted : List (List ℕ) → List ℕ
parted [] = []
parted (call ∷ calls) = call ++ (codes "; " ++ parted calls)

-- the line is a seat's; of its calls those before the rest are spelled as calls
pub record HasCalls (line rest : List ℕ) : Type 0 where
  pub seat : List ℕ
  pub before : List (List ℕ)
  pub stands : line ≡ codes "seat " ++ (seat ++ (codes ": " ++ (parted before ++ rest)))
  pub named : Lacks seat (codes ": ")
  pub spelled : AllByRecursion IsSomeCall before

-- a call ends here: the text does, or the next call comes
abbrev pub EndsCall : List ℕ → Type 0
EndsCall behind = (behind ≡ []) ⊎ ((calls : List ℕ) × (behind ≡ codes "; " ++ calls))

-- the part is the first call of a seat's line that is spelled as none
pub record IsUnspelledIn (line part : List ℕ) : Type 0 where
  pub behind : List ℕ
  pub stands : HasCalls line (part ++ behind)
  pub whole : EndsCall behind
  pub one : Lacks part (codes "; ")
  pub no_call : IsSomeCall part → ⊥

-- what is wrong with a call that is spelled as none, and what is shown of it
abbrev pub IsNoCall : List ℕ → Formless → Type 0
IsNoCall call (NoCall told) = told.now ≡ shown call
IsNoCall call (NotParted told) = (list_any (λ byte. byte == 59) call ≡ true) × (told.now ≡ shown call)
IsNoCall call (ManyDigits told most) = HasDigits (most + 1) call × (told.now ≡ shown call)
IsNoCall call formless = ⊥

abbrev begins : List ℕ → List ℕ → Bool
begins line word = starts_with nat_eq line word

-- the line begins as lines of lock programs do, and those of scenarios don't
abbrev pub is_of_lock : List ℕ → Bool
is_of_lock line =
    begins line (codes "#") || begins line (codes "const ") || begins line (codes "word ")
    || begins line (codes "register ") || begins line (codes "section ") || begins line (codes "program ")

-- what is wrong with a line that is spelled as none, its calls aside
abbrev pub IsNoLine : List ℕ → Formless → Type 0
IsNoLine line (OfLock told) = (is_of_lock line ≡ true) × (told.now ≡ shown line)
IsNoLine line (NoLine told) = (is_of_lock line ≡ false) × (told.now ≡ shown line)
IsNoLine line (ManyDigits told most) =
    (is_of_lock line ≡ false) × HasDigits (most + 1) line × (told.now ≡ shown line)
IsNoLine line formless = ⊥

-- what is wrong with the line for this cause, and what is shown of it
abbrev pub IsProblem : Cause → List ℕ → Problem → Type 0
IsProblem cause.Cut line (NoLineFeed told) = told.now ≡ shown line
IsProblem cause.Byte line (Unprintable told) = told.now ≡ shown line
IsProblem cause.Byte line (Return told) = (ends_in_return line ≡ true) × (told.now ≡ shown line)
IsProblem cause.Form line (NoForm formless) =
    IsNoLine line formless ⊎ ((part : List ℕ) × IsUnspelledIn line part × IsNoCall part formless)
IsProblem cause.Place line (Misplaced told) = told.now ≡ shown line
IsProblem cause.Range line (OutOfRange told) = told.now ≡ shown line
IsProblem cause.TooMany line (TooMany told) = told.now ≡ shown line
IsProblem cause.Undeclared line (Undeclared told) = told.now ≡ shown line
IsProblem cause.Ticket line (Ticket told) = told.now ≡ shown line
IsProblem cause.End line NoProperty = Unit {0}
IsProblem cause line problem = ⊥

abbrev pub formless_text : Formless → List ℕ
formless_text (NoLine line) =
    codes "no line is spelled \"" ++ line.now
    ++ codes "\": roots N, counter S, list F, group, seat K: CALLS, settled, value C N, no-misuse, no-lost"
formless_text (OfLock line) =
    codes "\"" ++ line.now
    ++ codes "\" is a line of a lock program: try and retrace take one, check, explore and replay a scenario"
formless_text (NoCall call) =
    codes "no call is spelled \"" ++ call.now
    ++ codes "\": acquire C [lifo], release C [handoff], release C many N, add L, wait L, one L, all L, gadd G D, gwait G; "
    ++ codes "behind acquire and wait leave [N] or quit [N], behind gwait leave [N]"
formless_text (NotParted call) =
    codes "no call is spelled \"" ++ call.now
    ++ codes "\": a semicolon and one space part a call from the next"
formless_text (ManyDigits text most) =
    codes "more than " ++ (decimal most ++ (codes " digits stand in a row in \"" ++ (text.now
    ++ codes "\": a number has ten at most, a list's first ticket twenty")))

abbrev pub problem_text : Problem → List ℕ
problem_text (NoLineFeed line) =
    codes "no line feed ends \"" ++ line.now ++ codes "\": each line is ended by one"
problem_text (Unprintable line) =
    codes "a byte behind \"" ++ line.now ++ codes "\" can't be printed: lines are of printed ASCII"
problem_text (Return line) = codes "\"" ++ line.now ++ codes "\" ends in CRLF: a line feed alone ends a line"
problem_text (NoForm formless) = formless_text formless
problem_text (Misplaced line) =
    codes "\"" ++ line.now
    ++ codes "\" can't stand here: roots, counters, lists, groups, seats from 0 on and one property come in this order"
problem_text (OutOfRange line) =
    codes "a number is out of range in \"" ++ line.now
    ++ codes "\": roots 1 to 251, units 1 to 256, calls left out 1 to 31, tickets below 2^64, a group's change -2^31 to 2^31 - 1, others below 2^32"
problem_text (TooMany line) =
    codes "\"" ++ line.now
    ++ codes "\" is too many: at most 16 counters, lists, groups and seats, and 32 calls of a seat"
problem_text (Undeclared line) =
    codes "\"" ++ line.now
    ++ codes "\" names what isn't declared: counter, list and group lines come before seats, and count from 0, each kind for itself"
problem_text (Ticket line) =
    codes "\"" ++ line.now
    ++ codes "\" misuses a ticket: add L takes one where the seat holds none of L, wait L spends it, and calls left out take and spend none"
problem_text NoProperty = codes "the text ends: settled, value C N, no-misuse or no-lost was expected"

-- the line's number, and what is wrong with it
abbrev pub explained : ℕ → Problem → List ℕ
explained number problem = codes "line " ++ decimal number ++ codes ": " ++ problem_text problem ++ 10 ∷ []

-- this is said of the fault of a text
abbrev pub Explains : List ℕ → ReadFault → List ℕ → Type 0
Explains text fault told =
    (problem : Problem) × IsProblem fault.cause (text_at (fault.line - 1) (pieces text)) problem
    × (told ≡ explained fault.line problem)
