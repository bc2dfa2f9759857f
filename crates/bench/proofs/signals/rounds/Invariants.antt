use Rattle.std.proofs.Common.{◌≡◌}
use Rattle.bench.proofs.signals.rounds.Given as goal

abbrev pub invariant-loop : goal.invariant-loop
invariant-loop g l = (l.waits.list ≡ l.fn.list) × (l.tells.list ≡ l.fn.list)
