use Rattle.std.proofs.Common.{arith}
use Rattle.notify_list.specs.Seats.{setting_of}
use Rattle.notify_list.proofs.Emptying.{lent_waits}
use Rattle.notify_list.proofs.Recording.{may_edit}
use Rattle.notify_list.proofs.Passing.{has_gone, may_be_gone}
use Rattle.notify_list.proofs.notify_list.NotifyList.take_ticket.Goals as goal

pub record_mut-record-requires : goal.record_mut-record-requires
record_mut-record-requires c =
    let may = c.requires.2 in (omega arith, may_edit c.self.inside c.args.token.now c.requires.0 c.self.view_is may.list_is may.has)

pub take-requires : goal.take-requires
take-requires c =
    let s = c.args.token.now in let g = c.requires.0 in let m = c.requires.1 in let may = c.requires.2 in
    let y = c.record_mut-record.result.now in let is = lent_waits s y g may.has c.record_mut-record.ensures.value in
    ((setting_of s).first, g.passed, m, g.gone, is.live, may_be_gone c.args.self.now s g m c.args.ticket y may is)

pub returns : goal.returns
returns c g m may =
    let s = c.args.token.now in let y = c.record_mut-record.result.now in
    let is = lent_waits s y g may.has c.record_mut-record.ensures.value in
    has_gone c.args.self.now s g m c.args.ticket y c.take.new.self may is
    (c.take.ensures.live (setting_of s).first g.passed m g.gone is.live (may_be_gone c.args.self.now s g m c.args.ticket y may is)) c.take.ensures.capacity
