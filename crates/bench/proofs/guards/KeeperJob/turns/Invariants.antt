use Rattle.std.proofs.Common.{◌≡◌, false}
use Rattle.sync_guarded.specs.Seats.{is_held}
use Rattle.bench.proofs.guards.KeeperJob.turns.Given as goal

abbrev pub invariant-loop : goal.invariant-loop
invariant-loop g l = is_held l.guard ≡ false
