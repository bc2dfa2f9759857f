use Rattle.std.specs.Prelude.{codes}
use Rattle.std.proofs.Common.{[]}
use Rattle.scenario_text.specs.Phrases.{IsOrLeave, IsGroupLeave}
use Rattle.scenario_text.specs.Line.{keeping}
use Rattle.scenario_text.proofs.Parts.{fails, none, nothing}
use Rattle.scenario_text.proofs.Calls.{group_leaves, group_quits}
use Rattle.scenario_text.proofs.reader.call.read_group_leave.Goals as goal

pub returns-in_err-group : goal.returns-in_err-group
returns-in_err-group c = fails (IsGroupLeave c.args.text.now) _ c.from_residual.ensures
    (λ a q. none (IsOrLeave (codes "gwait ") [] c.args.text.now) (a.0, keeping a.1) c.in_err-group.ensures q)

pub returns-in-Kept : goal.returns-in-Kept
returns-in-Kept c = group_leaves c.args.text.now c.in_ok-group.group c.in_ok-group.how c.in_ok-group.ensures c.in-Kept.is

pub returns-in-GivenBack : goal.returns-in-GivenBack
returns-in-GivenBack c =
    nothing (IsGroupLeave c.args.text.now) (group_quits c.args.text.now c.in_ok-group.group c.in_ok-group.how c.in_ok-group.ensures c.in-GivenBack.is)
