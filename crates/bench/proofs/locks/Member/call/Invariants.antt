use Rattle.std.proofs.Common.{◌≡◌, false}
use Rattle.bench.proofs.locks.Member.call.Given as goal

abbrev pub invariant-loop-turn : goal.invariant-loop-turn
invariant-loop-turn g l = (l.lock.held ≡ false)
    × (l.waits.list ≡ l.hall.full) × (l.tells.list ≡ l.hall.called)
