use Rattle.std.proofs.Common.{sym, subst, arith}
use Rattle.notify_list.specs.LiveTickets.{MayAllPass}
use Rattle.notify_list.specs.Seats.{ListModel, setting_of}
use Rattle.notify_list.proofs.Emptying.{lent_waits}
use Rattle.notify_list.proofs.Recording.{may_edit}
use Rattle.notify_list.proofs.Passing.{all_passed}
use Rattle.notify_list.proofs.notify_list.NotifyList.pass_all.Goals as goal

pub record_mut-record-requires : goal.record_mut-record-requires
record_mut-record-requires c =
    let may = c.requires.2 in (omega arith, may_edit c.self.inside c.args.token.now c.requires.0 c.self.view_is may.list_is may.has)

pub pass_all-requires : goal.pass_all-requires
pass_all-requires c =
    let s = c.args.token.now in let g = c.requires.0 in let upto = c.requires.1 in let may = c.requires.2 in
    let y = c.record_mut-record.result.now in let is = lent_waits s y g may.has c.record_mut-record.ensures.value in (
      (setting_of s).first,
      g.passed,
      upto,
      g.gone,
      is.live,
      subst (λ (l : ListModel). MayAllPass l.setting.first g.passed upto g.gone c.args.waited) (sym may.list_is) may.may,
    )

pub returns : goal.returns
returns c g upto may =
    let s = c.args.token.now in let y = c.record_mut-record.result.now in
    let is = lent_waits s y g may.has c.record_mut-record.ensures.value in
    all_passed c.args.self.now s g upto c.args.waited y c.pass_all.new.self c.still_early-record.result c.pass_all.result may is
    (c.pass_all.ensures.live (setting_of s).first g.passed upto g.gone is.live
    (subst (λ (l : ListModel). MayAllPass l.setting.first g.passed upto g.gone c.args.waited) (sym may.list_is) may.may))
    c.pass_all.ensures.capacity c.still_early-record.ensures.is
