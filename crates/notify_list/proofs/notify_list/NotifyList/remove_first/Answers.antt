use Rattle.std.proofs.Common.{arith}
use Rattle.notify_list.proofs.Recording.{may_edit}
use Rattle.notify_list.proofs.Emptying.{lent_waits, first_none, first_some}
use Rattle.notify_list.proofs.notify_list.NotifyList.remove_first.Goals as goal

pub record_mut-record-requires : goal.record_mut-record-requires
record_mut-record-requires c =
    (omega arith, may_edit c.self.inside c.args.token.now c.requires.1.0 c.self.view_is c.requires.0 c.requires.1.1)

pub pop_front-requires : goal.pop_front-requires
pop_front-requires c =
    record { «open» = (lent_waits c.args.token.now c.record_mut-record.result.now c.requires.1.0 c.requires.1.1 c.record_mut-record.ensures.value).opened }

pub returns-in_default : goal.returns-in_default
returns-in_default c g has =
    let s = c.args.token.now in let y = c.record_mut-record.result.now in let E = c.in_default.ensures in
    first_none s y c.pop_front.new.self g has (lent_waits s y g has c.record_mut-record.ensures.value) E.first E.none

pub returns : goal.returns
returns c g has =
    let s = c.args.token.now in let y = c.record_mut-record.result.now in let E = c.in-Some.ensures in
    first_some s y c.pop_front.new.self g c.in-Some.wait c.number.result has
    (lent_waits s y g has c.record_mut-record.ensures.value) E.first E.rest E.room c.number.ensures
