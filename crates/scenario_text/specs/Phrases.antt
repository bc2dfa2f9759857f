-- What the readers of the parts of a line find.
use Rattle.std.specs.Prelude.{◌≡◌, ℕ, ◌<◌, ◌^◌, Bool, true, false, List, [], ◌∷◌, ◌++◌, length, ◌↔◌, Option, Some, codes}
use Rattle.std.specs.List.{AllByRecursion}
use Rattle.std.specs.Fmt.{decimal}
use Rattle.scenario_text.specs.declared.reader.call.Change.{Change}
use Rattle.scenario_text.specs.declared.reader.call.SpelledCall.{SpelledCall}
use Rattle.scenario_text.specs.declared.reader.call.SpelledCall.TheVariants.{AcquireOrLeave, WaitOrLeave, GroupWaitOrLeave}
use Rattle.scenario_text.specs.declared.reader.call.SpelledGivingUp.{SpelledGivingUp}
use Rattle.scenario_text.specs.declared.reader.line.Line.TheVariants as code
use Rattle.scenario_text.specs.Line.{Line, Roots, Counter, NotifyList, Group, Seat, Settled, Value, NoMisuse, NoLost}
use Rattle.scenario_text.specs.Line.{IsShort, IsShortChange, IsShortGivingUp, change_text, giving_up_text, keeping, call_text, calls_text}

-- o is the one thing of which P holds, or None where there is none
abbrev pub ReadsAs : {A : Type 0} → (A → Type 0) → Option A → Type 0
ReadsAs {A} P o = (a : A) → P a ↔ (o ≡ Some a)

-- a number of at most `most` digits, without a leading zero
abbrev pub IsNumber : ℕ → List ℕ → ℕ → Type 0
IsNumber most text n = (n < 10 ^ most) × (text ≡ decimal n)

-- a number behind a word
abbrev pub IsKeyed : ℕ → List ℕ → List ℕ → ℕ → Type 0
IsKeyed most keyword text n = (n < 10 ^ most) × (text ≡ keyword ++ decimal n)

-- a number behind a word that isn't 0
abbrev pub IsKeyedSome : List ℕ → List ℕ → ℕ → Type 0
IsKeyedSome keyword text n = (0 < n) × IsKeyed 10 keyword text n

-- a number between two words
abbrev pub IsFlagged : List ℕ → List ℕ → List ℕ → ℕ → Type 0
IsFlagged keyword flag text n = (n < 10 ^ 10) × (text ≡ keyword ++ (decimal n ++ flag))

-- a number behind a word, and what stands behind a space
abbrev pub IsNumbered : List ℕ → List ℕ → ℕ × List ℕ → Type 0
IsNumbered keyword text x = (x.0 < 10 ^ 10) × (text ≡ keyword ++ (decimal x.0 ++ (32 ∷ x.1)))

-- a number behind a word, and another behind a space and a second word
abbrev pub IsPair : List ℕ → List ℕ → List ℕ → ℕ × ℕ → Type 0
IsPair keyword between text x =
    (x.0 < 10 ^ 10) × (x.1 < 10 ^ 10) × (text ≡ keyword ++ (decimal x.0 ++ (32 ∷ (between ++ decimal x.1))))

abbrev pub IsChange : List ℕ → Change → Type 0
IsChange text d = IsShortChange d × (text ≡ change_text d)

-- a group's number and a change
abbrev pub IsGroupAdd : List ℕ → ℕ × Change → Type 0
IsGroupAdd text x =
    (x.0 < 10 ^ 10) × IsShortChange x.1 × (text ≡ codes "gadd " ++ (decimal x.0 ++ (32 ∷ change_text x.1)))

abbrev pub IsGivingUp : List ℕ → SpelledGivingUp → Type 0
IsGivingUp text how = IsShortGivingUp how × (text ≡ giving_up_text how)

-- a number behind a word, and how a call may give up behind a space and a flag
abbrev pub IsOrLeave : List ℕ → List ℕ → List ℕ → ℕ × SpelledGivingUp → Type 0
IsOrLeave keyword flag text x =
    (x.0 < 10 ^ 10) × IsShortGivingUp x.1 × (text ≡ keyword ++ (decimal x.0 ++ (32 ∷ (flag ++ giving_up_text x.1))))

-- a group's number, and how many calls are left out where a wait on it is given up
abbrev pub IsGroupLeave : List ℕ → ℕ × Option ℕ → Type 0
IsGroupLeave text x = IsOrLeave (codes "gwait ") [] text (x.0, keeping x.1)

pub record IsCall (text : List ℕ) (call : SpelledCall) : Type 0 where
  pub short : IsShort call
  pub spelled : text ≡ call_text call

abbrev pub may_give_up : SpelledCall → Bool
may_give_up (AcquireOrLeave c lifo how) = true
may_give_up (WaitOrLeave l how) = true
may_give_up (GroupWaitOrLeave g skips) = true
may_give_up call = false

-- a call that may give up
abbrev pub IsCallOrLeave : List ℕ → SpelledCall → Type 0
IsCallOrLeave text call = IsCall text call × (may_give_up call ≡ true)

-- some call is spelled so
abbrev pub IsSomeCall : List ℕ → Type 0
IsSomeCall text = (call : SpelledCall) × IsCall text call

-- one call or more
pub record AreCalls (text : List ℕ) (calls : List SpelledCall) : Type 0 where
  pub some : 0 < length calls
  pub short : AllByRecursion IsShort calls
  pub spelled : text ≡ calls_text calls

-- a seat's number and its calls
abbrev pub IsSeat : List ℕ → ℕ × List SpelledCall → Type 0
IsSeat text x =
    (x.0 < 10 ^ 10) × (0 < length x.1) × AllByRecursion IsShort x.1
    × (text ≡ codes "seat " ++ (decimal x.0 ++ (codes ": " ++ calls_text x.1)))

-- the line that the reader's value stands for
abbrev pub line_of : code.the_data → Line
line_of (code.Roots n) = Roots n
line_of (code.Counter start) = Counter start
line_of (code.NotifyList first) = NotifyList first
line_of code.Group = Group
line_of (code.Seat k calls) = Seat k calls.items
line_of code.Settled = Settled
line_of (code.Value c n) = Value c n
line_of code.NoMisuse = NoMisuse
line_of code.NoLost = NoLost
