use Rattle.std.proofs.Common.{arith}
use Rattle.notify_list.specs.Seats.{guarded_of}
use Rattle.notify_list.proofs.Recording.{may_edit, lent_record}
use Rattle.notify_list.proofs.Passing.{few_passed, early_ticket, late_ticket}
use Rattle.notify_list.proofs.notify_list.NotifyList.may_leave.Goals as goal

pub record_mut-record-requires : goal.record_mut-record-requires
record_mut-record-requires c =
    let s = c.args.token.now in (omega arith, may_edit c.self.inside s (guarded_of s) c.self.view_is c.requires.0 c.requires.1)

pub returns-clause-few : goal.returns-clause-few
returns-clause-few c e =
    let s = c.args.token.now in let y = c.record_mut-record.result.now in
    few_passed y.early _ (guarded_of s).passed (lent_record s y c.requires.1 c.record_mut-record.ensures.value).early c.still_early.ensures.was e

pub returns-clause-early : goal.returns-clause-early
returns-clause-early c n e low at =
    let s = c.args.token.now in let y = c.record_mut-record.result.now in
    early_ticket y.early _ (guarded_of s).passed (lent_record s y c.requires.1 c.record_mut-record.ensures.value).early c.still_early.ensures.was n
    (λ a b. c.still_early.ensures.is n a b at) e low

pub returns-clause-late : goal.returns-clause-late
returns-clause-late c n e at =
    let s = c.args.token.now in let y = c.record_mut-record.result.now in
    late_ticket y.early _ (guarded_of s).passed (lent_record s y c.requires.1 c.record_mut-record.ensures.value).early c.still_early.ensures.was n
    (λ a b. c.still_early.ensures.is n a b at) e
