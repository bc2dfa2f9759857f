use Rattle.sema_table.proofs.WakeningMany.{GrantedUpTo}
use Rattle.sema_table.proofs.sema_table.SemaTable.grant_all.Given as goal

abbrev pub invariant-loop-seat : goal.invariant-loop-seat
invariant-loop-seat g l = GrantedUpTo l.initial.token l.fn.call l.seat-index l.token
