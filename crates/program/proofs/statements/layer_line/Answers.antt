use Rattle.std.proofs.Common.{◌∙◌}
use Rattle.program.proofs.Falling.{seat_is}
use Rattle.program.proofs.statements.layer_line.Goals as goal

pub returns-in_default : goal.returns-in_default
returns-in_default c =
    let d = c.in_default in
    c.seat_line.ensures
    ∙ seat_is c.args.names.now c.args.line.now d.not-Acquire d.not-Release d.not-Ticket d.not-Wait d.not-One d.not-All d.not-Park d.not-Unpark
