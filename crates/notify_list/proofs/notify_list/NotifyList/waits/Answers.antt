use Rattle.std.proofs.Common.{sym, arith}
use Rattle.notify_list.specs.Seats.{guarded_of}
use Rattle.notify_list.proofs.Recording.{may_edit}
use Rattle.notify_list.proofs.notify_list.NotifyList.waits.Goals as goal

pub record_mut-record-requires : goal.record_mut-record-requires
record_mut-record-requires c =
    let s = c.args.token.now in (omega arith, may_edit c.self.inside s (guarded_of s) c.self.view_is c.requires.0 c.requires.1)

pub returns-clause-same : goal.returns-clause-same
returns-clause-same c = let s = c.args.token.now in λ i. record s { me = (s.me.0, sym c.record_mut-record.ensures.value i) }
