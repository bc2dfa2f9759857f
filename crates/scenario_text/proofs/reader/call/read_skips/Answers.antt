use Rattle.scenario_text.proofs.Calls.{keyed_some}
use Rattle.scenario_text.proofs.reader.call.read_skips.Goals as goal

pub returns : goal.returns
returns c = keyed_some c.args.word.now c.args.text.now c.in_ok-skips.skips c.in_ok-skips.ensures c.if-skips-eq0.false
