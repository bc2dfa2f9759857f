use Rattle.std.proofs.Common.{sym, ap, ◌∙◌, arith}
use Rattle.step_table.specs.Wrapping.{word_of}
use Rattle.notify_list.specs.Seats.{ListModel, setting_of}
use Rattle.notify_list.proofs.Emptying.{lent_waits}
use Rattle.notify_list.proofs.Recording.{may_edit}
use Rattle.notify_list.proofs.Passing.{passed_over}
use Rattle.notify_list.proofs.notify_list.NotifyList.pass.Goals as goal

pub record_mut-record-requires : goal.record_mut-record-requires
record_mut-record-requires c =
    let may = c.requires.1 in (omega arith, may_edit c.self.inside c.args.token.now c.requires.0 c.self.view_is may.list_is may.has)

pub pass-next-requires : goal.pass-next-requires
pass-next-requires c =
    let s = c.args.token.now in let g = c.requires.0 in let may = c.requires.1 in (
      (setting_of s).first,
      g.passed,
      g.gone,
      (lent_waits s c.record_mut-record.result.now g may.has c.record_mut-record.ensures.value).live,
      may.ticket_is ∙ ap (λ (l : ListModel). word_of l.setting.first g.passed) (sym may.list_is),
    )

pub returns : goal.returns
returns c g may =
    let s = c.args.token.now in let y = c.record_mut-record.result.now in
    let is = lent_waits s y g may.has c.record_mut-record.ensures.value in
    passed_over c.args.self.now s g c.args.ticket y c.pass-next.new.self c.still_early-record.result c.pass-next.result may is
    (c.pass-next.ensures.live (setting_of s).first g.passed g.gone is.live (may.ticket_is ∙ ap (λ (l : ListModel). word_of l.setting.first g.passed) (sym may.list_is)))
    c.pass-next.ensures.capacity c.still_early-record.ensures.is
