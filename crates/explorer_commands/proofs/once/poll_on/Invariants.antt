use Rattle.std.proofs.Common.{◌≡◌}
use Rattle.sema_table.specs.Waking.{OnlyLooks}
use Rattle.explorer_commands.proofs.once.poll_on.Given as goal

-- the seat has only looked
abbrev pub invariant-loop : goal.invariant-loop
invariant-loop g l = OnlyLooks l.fn.sleeping l.sleeping × (l.sleeping.table ≡ l.fn.table)
