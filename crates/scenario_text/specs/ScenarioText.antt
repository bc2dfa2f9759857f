-- A scenario's text: its request, or its fault.
use Rattle.std.specs.Prelude.{⊤, ◌≡◌, ℕ, ◌+◌, true, false, ℤ, pos, neg_ℤ, List, [], ◌∷◌, ◌++◌, length, map}
use Rattle.std.specs.Prelude.{fold, ◌⊎◌, Option, Some, None}
use Rattle.step_table.specs.declared.call.Call.{Call}
use Rattle.step_table.specs.declared.call.Call.TheVariants as core
use Rattle.step_table.specs.declared.call.GivingUp.{GivingUp}
use Rattle.step_table.specs.declared.parts.Parts.{Parts}
use Rattle.scenario_text.specs.declared.reader.call.Change.{Change}
use Rattle.scenario_text.specs.declared.reader.call.Change.TheVariants.{Up, Down}
use Rattle.scenario_text.specs.declared.reader.call.SpelledCall.{SpelledCall}
use Rattle.scenario_text.specs.declared.reader.call.SpelledCall.TheVariants.{Acquire, AcquireLifo, AcquireOrLeave, Release}
use Rattle.scenario_text.specs.declared.reader.call.SpelledCall.TheVariants.{ReleaseHandoff, ReleaseMany, Add}
use Rattle.scenario_text.specs.declared.reader.call.SpelledCall.TheVariants.{Wait, WaitOrLeave, One, All, GroupAdd}
use Rattle.scenario_text.specs.declared.reader.call.SpelledCall.TheVariants.{GroupWait, GroupWaitOrLeave}
use Rattle.scenario_text.specs.declared.reader.call.SpelledGivingUp.{SpelledGivingUp}
use Rattle.scenario_text.specs.declared.read_fault.Cause.TheVariants.{End}
use Rattle.scenario_text.specs.declared.read_fault.ReadFault.{ReadFault}
use Rattle.scenario_text.specs.declared.request.Property.{Property}
use Rattle.scenario_text.specs.declared.request.Property.TheVariants as property
use Rattle.scenario_text.specs.declared.request.SpelledRequest.{SpelledRequest}
use Rattle.scenario_text.specs.Line.{Line, Roots, Counter, NotifyList, Group, Seat, Settled, Value, NoMisuse, NoLost, skips, keeping}
use Rattle.scenario_text.specs.Pieces.{Piece, pieces}
use Rattle.scenario_text.specs.Causes.{IsFault, IsReadable, IsRight}

-- ---- what lines ask for

abbrev pub change_of : Change → ℤ
change_of (Up n) = pos n
change_of (Down n) = neg_ℤ (pos n)

abbrev pub giving_up_of : SpelledGivingUp → GivingUp
giving_up_of how = record { late = how.late; skips = skips how }

abbrev pub call_of : SpelledCall → Call
call_of (Acquire c) = core.Acquire c false
call_of (AcquireLifo c) = core.Acquire c true
call_of (AcquireOrLeave c lifo how) = core.AcquireOrLeave c lifo (giving_up_of how)
call_of (Release c) = core.Release c false
call_of (ReleaseHandoff c) = core.Release c true
call_of (ReleaseMany c n) = core.ReleaseMany c n
call_of (Add l) = core.Add l
call_of (Wait l) = core.Wait l
call_of (WaitOrLeave l how) = core.WaitOrLeave l (giving_up_of how)
call_of (One l) = core.One l
call_of (All l) = core.All l
call_of (GroupAdd g d) = core.GroupAdd g (change_of d)
call_of (GroupWait g) = core.GroupWait g
call_of (GroupWaitOrLeave g n) = core.GroupWaitOrLeave g (skips (keeping n))

-- what a line adds to the parts
abbrev pub with_line : Parts → Line → Parts
with_line parts (Roots n) = record parts { roots = n }
with_line parts (Counter start) = record parts { starts = parts.starts ++ (start ∷ []) }
with_line parts (NotifyList first) = record parts { firsts = parts.firsts ++ (first ∷ []) }
with_line parts Group = record parts { groups = parts.groups + 1 }
with_line parts (Seat k calls) = record parts { calls = parts.calls ++ (map call_of calls ∷ []) }
with_line parts line = parts

-- without a line that says it there are 251 roots
abbrev pub no_parts : Parts
no_parts = record { roots = 251; starts = []; firsts = []; groups = 0; calls = [] }

abbrev pub parts_of : List Line → Parts
parts_of lines = fold with_line no_parts lines

-- the property that stands among the lines
abbrev pub with_property : Option Property → Line → Option Property
with_property before Settled = Some property.Settled
with_property before (Value c n) = Some (property.Value c n)
with_property before NoMisuse = Some property.NoMisuse
with_property before NoLost = Some property.NoLost
with_property before line = before

abbrev pub property_of : List Line → Option Property
property_of lines = fold with_property None lines

-- ---- the text

-- nothing is wrong with any line, and these are the lines that they spell
abbrev pub AreRight : List Line → List Piece → List Line → Type 0
AreRight before [] [] = ⊤
AreRight before [] (line ∷ lines) = ⊥
AreRight before (p ∷ ps) [] = ⊥
AreRight before (p ∷ ps) (line ∷ lines) = IsRight before p line × AreRight (before ++ (line ∷ [])) ps lines

-- the text's lines are right, and ask for this
abbrev pub IsRequestOf : List ℕ → SpelledRequest → Type 0
IsRequestOf text request =
    (lines : List Line) × AreRight [] (pieces text) lines
    × (request.parts ≡ parts_of lines) × (property_of lines ≡ Some request.property)

-- the first line that is faulty, and what is wrong with it; 9, behind the last line, where none is and no
-- property stands
abbrev pub IsFirstFault : List Line → List Piece → ReadFault → Type 0
IsFirstFault before [] fault =
    (fault.line ≡ length before + 1) × (fault.cause ≡ End) × (property_of before ≡ None)
IsFirstFault before (p ∷ ps) fault =
    ((fault.line ≡ length before + 1) × IsFault before p fault.cause)
    ⊎ ((line : Line) × IsRight before p line × IsFirstFault (before ++ (line ∷ [])) ps fault)

abbrev pub IsFaultOf : List ℕ → ReadFault → Type 0
IsFaultOf text fault = IsFirstFault [] (pieces text) fault

-- the text has a line of this number, which is neither cut nor unprintable, and the lines before it are right
abbrev pub IsReached : List Line → List Piece → ℕ → Type 0
IsReached before [] n = ⊥
IsReached before (p ∷ ps) n =
    ((n ≡ length before + 1) × IsReadable before p)
    ⊎ ((line : Line) × IsRight before p line × IsReached (before ++ (line ∷ [])) ps n)
