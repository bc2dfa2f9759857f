use Rattle.scenario_text.proofs.Calls.{change_up, change_down}
use Rattle.scenario_text.proofs.reader.call.read_change.Goals as goal

pub returns-in-Some : goal.returns-in-Some
returns-in-Some c = change_up c.args.text.now c.in-Some.size c.in-Some.ensures

pub returns : goal.returns
returns c = change_down c.args.text.now c.in_ok-size.size c.in_default.ensures c.in_ok-size.ensures c.if-size-eq0.false
