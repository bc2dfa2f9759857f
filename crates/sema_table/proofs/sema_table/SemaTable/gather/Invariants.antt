use Rattle.sema_table.proofs.Gathering.{Gathered}
use Rattle.sema_table.proofs.sema_table.SemaTable.gather.Given as goal

abbrev pub invariant-loop-seat : goal.invariant-loop-seat
invariant-loop-seat l =
    Gathered l.fn.self l.initial.seats.items l.initial.token.me.0.own l.seats.items l.token l.initial.releases l.initial.acquires l.releases l.acquires

abbrev pub decreases-loop-seat : goal.decreases-loop-seat
decreases-loop-seat l = goal.left-loop-seat l
