use Rattle.std.proofs.Common.{◌≡◌, sym, ap, ◌∙◌}
use Rattle.step_table.specs.Wrapping.{word_of}
use Rattle.notify_list.specs.Seats.{ListModel}
use Rattle.notify_list.proofs.Passing.{tells_early}
use Rattle.notify_list.proofs.notify_list.NotifyList.still_early.Goals as goal

pub returns-then-early-clause-is : goal.returns-then-early-clause-is
returns-then-early-clause-is c n low high at =
    let first : c.self.inside.first ≡ c.args.self.now.setting.first
    = c.self.invariant.first_is ∙ ap (λ (l : ListModel). l.setting.first) c.self.view_is in
    tells_early c.self.inside.first n c.args.ticket c.minus.result c.self.invariant.fits (low c.if-early.true)
    (at ∙ ap (λ k. word_of k n) (sym first)) c.minus.ensures
