use Rattle.std.proofs.Common.{◌≡◌}
use Rattle.running_rows.proofs.tries.Running+S+View+V+T+K+OneWorld+R.try_lock.Given as goal

abbrev pub invariant-loop : goal.invariant-loop
invariant-loop g l = (l.token.table_id ≡ l.initial.token.table_id) × (l.token.me ≡ l.initial.token.me)
