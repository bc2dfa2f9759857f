use Rattle.std.proofs.Common.{◌≡◌}
use Rattle.journal.proofs.Gone.{NoneBefore}
use Rattle.journal.proofs.queue.remove_wait.Given as goal

-- nothing was taken out, and none so far is the wait
abbrev pub invariant-loop-place : goal.invariant-loop-place
invariant-loop-place l =
    record {
      same : l.waits.items ≡ l.initial.waits.items;
      none : NoneBefore l.wait l.waits.items l.place;
    }
