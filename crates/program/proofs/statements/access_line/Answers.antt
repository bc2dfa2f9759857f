use Rattle.std.proofs.Common.{◌∙◌}
use Rattle.program.proofs.Falling.{layer_is}
use Rattle.program.proofs.statements.access_line.Goals as goal

pub returns-in_default : goal.returns-in_default
returns-in_default c =
    let d = c.in_default in
    c.layer_line.ensures ∙ layer_is c.args.names.now c.args.line.now d.not-Load d.not-Store d.not-Swap d.not-Add d.not-Exchange d.not-Await
