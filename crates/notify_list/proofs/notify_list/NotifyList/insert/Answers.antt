use Rattle.std.proofs.Common.{arith}
use Rattle.notify_list.specs.Seats.{guarded_of}
use Rattle.notify_list.proofs.Recording.{may_edit, lent_record, put_in}
use Rattle.notify_list.proofs.notify_list.NotifyList.insert.Goals as goal

pub record_mut-record-requires : goal.record_mut-record-requires
record_mut-record-requires c =
    let s = c.args.token.now in (omega arith, may_edit c.self.inside s (guarded_of s) c.self.view_is c.requires.seat.0 c.requires.seat.1)

pub push_back-requires : goal.push_back-requires
push_back-requires c =
    let s = c.args.token.now in let y = c.record_mut-record.result.now in
    let is = lent_record s y c.requires.seat.1 c.record_mut-record.ensures.value in
    record { «open» = is.opened; fits = (let a = is.room in let b = c.requires.room in omega arith) }

pub returns : goal.returns
returns c w same =
    let s = c.args.token.now in let y = c.record_mut-record.result.now in let E = c.push_back.ensures in
    put_in s y c.push_back.new.self c.args.wait w same c.requires.seat.1 (lent_record s y c.requires.seat.1 c.record_mut-record.ensures.value) E.pushed E.room
