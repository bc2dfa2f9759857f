use Rattle.notify_list.proofs.Gathering.{Gathered}
use Rattle.notify_list.proofs.notify_list.NotifyList.gather.Given as goal

abbrev pub invariant-loop-seat : goal.invariant-loop-seat
invariant-loop-seat l = Gathered l.fn.self l.initial.seats.items l.initial.token.me.0.own l.seats.items l.token

abbrev pub decreases-loop-seat : goal.decreases-loop-seat
decreases-loop-seat l = goal.left-loop-seat l
