use Rattle.std.proofs.Common.{arith}
use Rattle.notify_list.proofs.notify_list.NotifyList.wake_many.Goals as goal

pub wake_within-requires : goal.wake_within-requires
wake_within-requires c = let may = c.requires.2 in
    record { seat = c.requires; room = (let r = may.1.2.room in let f = may.0.few in omega arith) }
