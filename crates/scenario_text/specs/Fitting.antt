-- Spelled numbers that fit the types of a request.
use Rattle.std.specs.Prelude.{⊤, ◌<◌, ◌≤◌, ◌^◌, All}
use Rattle.scenario_text.specs.declared.reader.call.Change.{Change}
use Rattle.scenario_text.specs.declared.reader.call.Change.TheVariants.{Up, Down}
use Rattle.scenario_text.specs.declared.reader.call.SpelledCall.{SpelledCall}
use Rattle.scenario_text.specs.declared.reader.call.SpelledCall.TheVariants.{Acquire, AcquireLifo, AcquireOrLeave, Release}
use Rattle.scenario_text.specs.declared.reader.call.SpelledCall.TheVariants.{ReleaseHandoff, ReleaseMany, Add}
use Rattle.scenario_text.specs.declared.reader.call.SpelledCall.TheVariants.{Wait, WaitOrLeave, One, All as NotifyAll}
use Rattle.scenario_text.specs.declared.reader.call.SpelledCall.TheVariants.{GroupAdd, GroupWait, GroupWaitOrLeave}
use Rattle.scenario_text.specs.declared.reader.call.SpelledGivingUp.{SpelledGivingUp}
use Rattle.scenario_text.specs.Line.{Line, Roots, Counter, NotifyList, Group, Seat, Settled, Value, NoMisuse, NoLost, skips, keeping}

abbrev pub FitsChange : Change → Type 0
FitsChange (Up n) = n < 2 ^ 31
FitsChange (Down n) = n ≤ 2 ^ 31

abbrev pub FitsGivingUp : SpelledGivingUp → Type 0
FitsGivingUp how = skips how < 2 ^ 32

abbrev pub FitsCall : SpelledCall → Type 0
FitsCall (Acquire c) = c < 2 ^ 32
FitsCall (AcquireLifo c) = c < 2 ^ 32
FitsCall (AcquireOrLeave c lifo how) = (c < 2 ^ 32) × FitsGivingUp how
FitsCall (Release c) = c < 2 ^ 32
FitsCall (ReleaseHandoff c) = c < 2 ^ 32
FitsCall (ReleaseMany c n) = (c < 2 ^ 32) × (n < 2 ^ 32)
FitsCall (Add l) = l < 2 ^ 32
FitsCall (Wait l) = l < 2 ^ 32
FitsCall (WaitOrLeave l how) = (l < 2 ^ 32) × FitsGivingUp how
FitsCall (One l) = l < 2 ^ 32
FitsCall (NotifyAll l) = l < 2 ^ 32
FitsCall (GroupAdd g d) = (g < 2 ^ 32) × FitsChange d
FitsCall (GroupWait g) = g < 2 ^ 32
FitsCall (GroupWaitOrLeave g skips) = (g < 2 ^ 32) × FitsGivingUp (keeping skips)

abbrev pub FitsLine : Line → Type 0
FitsLine (Roots n) = n < 2 ^ 32
FitsLine (Counter start) = start < 2 ^ 32
FitsLine (NotifyList first) = first < 2 ^ 64
FitsLine Group = ⊤
FitsLine (Seat k calls) = All FitsCall calls
FitsLine Settled = ⊤
FitsLine (Value c n) = (c < 2 ^ 32) × (n < 2 ^ 32)
FitsLine NoMisuse = ⊤
FitsLine NoLost = ⊤
