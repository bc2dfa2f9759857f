use Rattle.std.proofs.Common.{arith}
use Rattle.scenario_text.proofs.Judging.{utf8}
use Rattle.scenario_text.proofs.reader.judge.printable.Goals as goal

pub returns-in-Err : goal.returns-in-Err
returns-in-Err c = absurd (c.in-Err.ensures.cases.0 (utf8 c.args.bytes.now (grind (arith))))
