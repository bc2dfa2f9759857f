use Rattle.std.proofs.Common.{◌≡◌}
use Rattle.running_rows.proofs.locks.Running+S+View+V+T+K+OneWorld+R.take_lock_patiently.Given as goal

abbrev pub invariant-loop-turn : goal.invariant-loop-turn
invariant-loop-turn g l = (l.token.table_id ≡ l.initial.token.table_id) × (l.token.me ≡ l.initial.token.me)
