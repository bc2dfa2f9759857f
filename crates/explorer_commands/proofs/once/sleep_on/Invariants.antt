use Rattle.std.proofs.Common.{◌≡◌}
use Rattle.explorer_commands.proofs.once.sleep_on.Given as goal

abbrev pub invariant-loop : goal.invariant-loop
invariant-loop g l = l.sleeping.table ≡ l.fn.table
