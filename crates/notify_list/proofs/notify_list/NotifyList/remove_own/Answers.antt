use Rattle.std.proofs.Common.{refl, arith}
use Rattle.notify_list.proofs.Recording.{may_edit}
use Rattle.notify_list.proofs.Emptying.{lent_waits}
use Rattle.notify_list.proofs.Withdrawing.{own_none, own_some}
use Rattle.notify_list.proofs.notify_list.NotifyList.remove_own.Goals as goal

pub record_mut-record-requires : goal.record_mut-record-requires
record_mut-record-requires c =
    (omega arith, may_edit c.self.inside c.args.token.now c.requires.1.0 c.self.view_is c.requires.0 c.requires.1.1)

pub take-requires : goal.take-requires
take-requires c =
    record { «open» = (lent_waits c.args.token.now c.record_mut-record.result.now c.requires.1.0 c.requires.1.1 c.record_mut-record.ensures.value).opened }

pub returns-in_default : goal.returns-in_default
returns-in_default c g has =
    let s = c.args.token.now in let y = c.record_mut-record.result.now in let E = c.in_default.ensures in
    own_none s y c.take.new.self g c.args.seat has (lent_waits s y g has c.record_mut-record.ensures.value) E.first E.none

pub returns : goal.returns
returns c g has =
    let s = c.args.token.now in let y = c.record_mut-record.result.now in let E = c.in-Some.ensures in
    own_some s y c.take.new.self g c.args.seat c.in-Some.wait.ticket c.in-Some.wait has
    (lent_waits s y g has c.record_mut-record.ensures.value) E.first E.rest E.room refl
