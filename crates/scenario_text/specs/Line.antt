-- The lines of a scenario's text, and the one spelling of each. Numbers are unbounded here.
use Rattle.std.specs.Prelude.{⊤, ◌≡◌, ℕ, ◌<◌, ◌^◌, Bool, true, false, List, [], ◌∷◌, ◌++◌, length, codes}
use Rattle.std.specs.Prelude.{Option, Some, None, IfSome}
use Rattle.std.specs.Option.{unwrap_or}
use Rattle.std.specs.List.{AllByRecursion}
use Rattle.std.specs.Fmt.{decimal}
use Rattle.scenario_text.specs.declared.reader.call.Change.{Change}
use Rattle.scenario_text.specs.declared.reader.call.Change.TheVariants.{Up, Down}
use Rattle.scenario_text.specs.declared.reader.call.SpelledCall.{SpelledCall}
use Rattle.scenario_text.specs.declared.reader.call.SpelledCall.TheVariants.{Acquire, AcquireLifo, AcquireOrLeave, Release}
use Rattle.scenario_text.specs.declared.reader.call.SpelledCall.TheVariants.{ReleaseHandoff, ReleaseMany, Add}
use Rattle.scenario_text.specs.declared.reader.call.SpelledCall.TheVariants.{Wait, WaitOrLeave, One, All, GroupAdd}
use Rattle.scenario_text.specs.declared.reader.call.SpelledCall.TheVariants.{GroupWait, GroupWaitOrLeave}
use Rattle.scenario_text.specs.declared.reader.call.SpelledGivingUp.{SpelledGivingUp}
use Rattle.step_table.specs.declared.call.Late.{Late}
use Rattle.step_table.specs.declared.call.Late.TheVariants.{Kept, GivenBack}

-- ---- calls

-- a number, or a minus and a number
abbrev pub change_text : Change → List ℕ
change_text (Up n) = decimal n
change_text (Down n) = codes "-" ++ decimal n

abbrev pub late_text : Late → List ℕ
late_text Kept = codes "leave"
late_text GivenBack = codes "quit"

abbrev pub skips_text : Option ℕ → List ℕ
skips_text None = []
skips_text (Some n) = codes " " ++ decimal n

-- how a call may give up: a word, and how many of the seat's next calls are then left out
abbrev pub giving_up_text : SpelledGivingUp → List ℕ
giving_up_text how = late_text how.late ++ skips_text how.skips

-- none of the calls is left out where the text says nothing
abbrev pub skips : SpelledGivingUp → ℕ
skips how = unwrap_or how.skips 0

-- a wait on a group gives up so: no unit that comes too late is given back
abbrev pub keeping : Option ℕ → SpelledGivingUp
keeping skips = record { late = Kept; skips = skips }

abbrev pub flag_text : Bool → List ℕ
flag_text true = codes "lifo "
flag_text false = []

abbrev pub call_text : SpelledCall → List ℕ
call_text (Acquire c) = codes "acquire " ++ decimal c
call_text (AcquireLifo c) = codes "acquire " ++ (decimal c ++ codes " lifo")
call_text (AcquireOrLeave c lifo how) = codes "acquire " ++ (decimal c ++ (codes " " ++ (flag_text lifo ++ giving_up_text how)))
call_text (Release c) = codes "release " ++ decimal c
call_text (ReleaseHandoff c) = codes "release " ++ (decimal c ++ codes " handoff")
call_text (ReleaseMany c n) = codes "release " ++ (decimal c ++ (codes " many " ++ decimal n))
call_text (Add l) = codes "add " ++ decimal l
call_text (Wait l) = codes "wait " ++ decimal l
call_text (WaitOrLeave l how) = codes "wait " ++ (decimal l ++ (codes " " ++ giving_up_text how))
call_text (One l) = codes "one " ++ decimal l
call_text (All l) = codes "all " ++ decimal l
call_text (GroupAdd g d) = codes "gadd " ++ (decimal g ++ (codes " " ++ change_text d))
call_text (GroupWait g) = codes "gwait " ++ decimal g
call_text (GroupWaitOrLeave g skips) = codes "gwait " ++ (decimal g ++ (codes " " ++ giving_up_text (keeping skips)))

-- calls, a semicolon and a space apart
abbrev pub calls_text : List SpelledCall → List ℕ
calls_text [] = []
calls_text (c ∷ []) = call_text c
calls_text (c ∷ d ∷ cs) = call_text c ++ (codes "; " ++ calls_text (d ∷ cs))

-- at most ten digits, and no `-0`
abbrev pub IsShortChange : Change → Type 0
IsShortChange (Up n) = n < 10 ^ 10
IsShortChange (Down n) = (0 < n) × (n < 10 ^ 10)

-- at most ten digits, and no 0: where none is left out, nothing is written
abbrev pub IsShortSkips : Option ℕ → Type 0
IsShortSkips skips = IfSome skips (λ n. (0 < n) × (n < 10 ^ 10))

abbrev pub IsShortGivingUp : SpelledGivingUp → Type 0
IsShortGivingUp how = IsShortSkips how.skips

-- each of its numbers has at most ten digits
abbrev pub IsShort : SpelledCall → Type 0
IsShort (Acquire c) = c < 10 ^ 10
IsShort (AcquireLifo c) = c < 10 ^ 10
IsShort (AcquireOrLeave c lifo how) = (c < 10 ^ 10) × IsShortGivingUp how
IsShort (Release c) = c < 10 ^ 10
IsShort (ReleaseHandoff c) = c < 10 ^ 10
IsShort (ReleaseMany c n) = (c < 10 ^ 10) × (n < 10 ^ 10)
IsShort (Add l) = l < 10 ^ 10
IsShort (Wait l) = l < 10 ^ 10
IsShort (WaitOrLeave l how) = (l < 10 ^ 10) × IsShortGivingUp how
IsShort (One l) = l < 10 ^ 10
IsShort (All l) = l < 10 ^ 10
IsShort (GroupAdd g d) = (g < 10 ^ 10) × IsShortChange d
IsShort (GroupWait g) = g < 10 ^ 10
IsShort (GroupWaitOrLeave g skips) = (g < 10 ^ 10) × IsShortGivingUp (keeping skips)

-- ---- lines

pub data Line : Type 0 where
  Roots : (n : ℕ) → Line
  Counter : (start : ℕ) → Line
  NotifyList : (first : ℕ) → Line
  Group : Line
  Seat : (k : ℕ) (calls : List SpelledCall) → Line
  Settled : Line
  Value : (c n : ℕ) → Line
  NoMisuse : Line
  NoLost : Line

-- how a line is spelled
abbrev pub line_text : Line → List ℕ
line_text (Roots n) = codes "roots " ++ decimal n
line_text (Counter start) = codes "counter " ++ decimal start
line_text (NotifyList first) = codes "list " ++ decimal first
line_text Group = codes "group"
line_text (Seat k calls) = codes "seat " ++ (decimal k ++ (codes ": " ++ calls_text calls))
line_text Settled = codes "settled"
line_text (Value c n) = codes "value " ++ (decimal c ++ (codes " " ++ decimal n))
line_text NoMisuse = codes "no-misuse"
line_text NoLost = codes "no-lost"

-- its numbers have at most ten digits, that of a list at most twenty; a seat has a call
abbrev pub HasForm : Line → Type 0
HasForm (Roots n) = n < 10 ^ 10
HasForm (Counter start) = start < 10 ^ 10
HasForm (NotifyList first) = first < 10 ^ 20
HasForm Group = ⊤
HasForm (Seat k calls) = (k < 10 ^ 10) × (0 < length calls) × AllByRecursion IsShort calls
HasForm Settled = ⊤
HasForm (Value c n) = (c < 10 ^ 10) × (n < 10 ^ 10)
HasForm NoMisuse = ⊤
HasForm NoLost = ⊤

-- the text is a line's spelling
pub record Spells (text : List ℕ) (line : Line) : Type 0 where
  pub form : HasForm line
  pub spelled : text ≡ line_text line
