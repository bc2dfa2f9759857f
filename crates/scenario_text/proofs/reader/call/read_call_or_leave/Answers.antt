use Rattle.std.proofs.Common.{true, false}
use Rattle.scenario_text.specs.Phrases.{IsCallOrLeave}
use Rattle.scenario_text.proofs.Parts.{fails}
use Rattle.scenario_text.proofs.Calls.{acquire_or_leave, wait_or_leave, group_wait_or_leave, no_call_or_leave}
use Rattle.scenario_text.proofs.reader.call.read_call_or_leave.Goals as goal

pub returns-in-Some : goal.returns-in-Some
returns-in-Some c = acquire_or_leave c.args.text.now c.in-Some.counter false c.in-Some.how c.in-Some.ensures

pub returns-in-Some-read_or_leave : goal.returns-in-Some-read_or_leave
returns-in-Some-read_or_leave c =
    acquire_or_leave c.args.text.now c.in-Some-read_or_leave.counter true c.in-Some-read_or_leave.how c.in-Some-read_or_leave.ensures

pub returns-in-Some-read_or_leave-2 : goal.returns-in-Some-read_or_leave-2
returns-in-Some-read_or_leave-2 c =
    wait_or_leave c.args.text.now c.in-Some-read_or_leave-2.list c.in-Some-read_or_leave-2.how c.in-Some-read_or_leave-2.ensures

pub returns-in_err-group : goal.returns-in_err-group
returns-in_err-group c = fails (IsCallOrLeave c.args.text.now) _ c.from_residual.ensures
    (no_call_or_leave c.args.text.now c.in_default.ensures c.in_default-read_or_leave.ensures c.in_default-read_or_leave-2.ensures
    c.in_err-group.ensures)

pub returns : goal.returns
returns c = group_wait_or_leave c.args.text.now c.in_ok-group.group c.in_ok-group.skips c.in_ok-group.ensures
