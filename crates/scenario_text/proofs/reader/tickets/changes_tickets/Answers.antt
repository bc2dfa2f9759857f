use Rattle.std.proofs.Common.{◌∙◌, arith}
use Rattle.scenario_text.proofs.Leaving.{asked, all_left, looks}
use Rattle.scenario_text.proofs.reader.tickets.changes_tickets.Goals as goal
use Rattle.scenario_text.proofs.reader.tickets.changes_tickets.Goals.{then-more-left, else-more-left}

pub returns : goal.returns
returns c =
    c.is_any_changed.ensures ∙ looks c.args.calls.now c.args.here c.if-more-left.end c.args.more (elim c.if-more-left.branch [
      | then-more-left w ↦ asked c.args.calls.now c.args.here c.if-more-left.end c.args.more w.end-is
      | else-more-left w ↦ all_left c.args.calls.now c.args.here c.if-more-left.end c.args.more c.requires w.end-is (omega (arith, w.if-more-left))
    ])
