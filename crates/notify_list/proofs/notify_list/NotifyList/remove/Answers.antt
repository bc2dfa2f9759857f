use Rattle.std.proofs.Common.{arith}
use Rattle.notify_list.specs.Seats.{guarded_of}
use Rattle.notify_list.proofs.Recording.{may_edit, lent_record, out_none, out_some}
use Rattle.notify_list.proofs.notify_list.NotifyList.remove.Goals as goal

pub record_mut-record-requires : goal.record_mut-record-requires
record_mut-record-requires c = let s = c.args.token.now in
    (omega arith, may_edit c.self.inside s (guarded_of s) c.self.view_is c.requires.0 c.requires.1)

pub returns-in_default : goal.returns-in_default
returns-in_default c =
    let s = c.args.token.now in let y = c.record_mut-record.result.now in let E = c.in_default.ensures in
    out_none s y c.take_ticket.new.self c.args.ticket c.requires.1 (lent_record s y c.requires.1 c.record_mut-record.ensures.value) E.first E.none

pub returns : goal.returns
returns c =
    let s = c.args.token.now in let y = c.record_mut-record.result.now in let E = c.in-Some.ensures in
    out_some s y c.take_ticket.new.self c.args.ticket c.number.result c.in-Some.wait c.requires.1
    (lent_record s y c.requires.1 c.record_mut-record.ensures.value)
    E.first E.rest E.room c.number.ensures
