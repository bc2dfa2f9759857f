use Rattle.sema_table.proofs.Acquiring.{SleepsOn}
use Rattle.sema_table.proofs.sema_table.SemaTable.sleep_until_taken.Given as goal

abbrev pub invariant-loop : goal.invariant-loop
invariant-loop g l = SleepsOn l.initial.sleeping l.sleeping
