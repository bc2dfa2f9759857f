use Rattle.std.proofs.Common.{◌-◌, length}
use Rattle.notify_list.proofs.Emptying.{Emptied}
use Rattle.notify_list.proofs.notify_list.NotifyList.remove_all.Given as goal

abbrev pub invariant-loop-seat : goal.invariant-loop-seat
invariant-loop-seat l = Emptied l.initial.token l.token l.room l.count

abbrev pub decreases-loop-seat : goal.decreases-loop-seat
decreases-loop-seat l = length l.initial.room - l.count
