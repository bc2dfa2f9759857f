use Rattle.std.proofs.Common.{rules}
use Rattle.explorer_commands.proofs.Judging.{refuses_well}
use Rattle.explorer_commands.proofs.judged.judge_reply.Goals as goal

pub returns-in-Err : goal.returns-in-Err
returns-in-Err c = refuses_well c.args.demands.now c.args.input.now c.in-Err.fault c.refused.result c.in-Err.ensures.fault c.refused.ensures

pub returns : goal.returns
returns c = search rules
