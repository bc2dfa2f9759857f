use Rattle.sema_table.specs.Waking.{OnlyLooks}
use Rattle.sema_table.proofs.sema_table.SemaTable.sleep_until.Given as goal

abbrev pub invariant-loop : goal.invariant-loop
invariant-loop g l = OnlyLooks l.initial.sleeping l.sleeping
