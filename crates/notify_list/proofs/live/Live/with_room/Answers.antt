use Rattle.std.proofs.Common.{refl}
use Rattle.notify_list.proofs.LiveTickets.{none_live}
use Rattle.notify_list.proofs.live.Live.with_room.Goals as goal

pub returns-clause-live : goal.returns-clause-live
returns-clause-live c = none_live c.args.first _ c.requires c.in_ok-with_capacity.ensures.items refl
