use Rattle.std.proofs.Common.{◌≤◌}
use Rattle.sync_parts.specs.GroupCalls.{HasReleased}
use Rattle.sync_parts.proofs.group.WaitGroup.release_waits.Given as goal

abbrev pub invariant-loop-wait : goal.invariant-loop-wait
invariant-loop-wait g l = record {
  released : HasReleased l._wait l.initial.sema l.sema;
  upto : l._wait ≤ l.fn.waits;
}
