use Rattle.std.proofs.Common.{◌≡◌, ◌≤◌, List, length, take}
use Rattle.step_rows.specs.ListStored.{StoredList}
use Rattle.step_core.proofs.starting.copied.Given as goal

abbrev pub invariant-loop-list : goal.invariant-loop-list
invariant-loop-list l = (◌≡◌ {A = List StoredList} l.copy.items (take l.list-index l.lists)) × (length l.lists ≤ l.copy.cap)
