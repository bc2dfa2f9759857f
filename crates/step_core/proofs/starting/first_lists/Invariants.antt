use Rattle.std.proofs.Common.{◌≤◌, length}
use Rattle.step_core.specs.State.{AreFirst}
use Rattle.step_core.proofs.starting.first_lists.Given as goal

abbrev pub invariant-loop-first : goal.invariant-loop-first
invariant-loop-first l = AreFirst l.firsts l.first-index l.seats l.lists.items × (length l.firsts ≤ l.lists.cap)
