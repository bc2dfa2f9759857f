use Rattle.std.proofs.Common.{ap, ◌∙◌}
use Rattle.program.specs.declared.statement.Statement.TheVariants as says
use Rattle.program.specs.Causes.{map_ok}
use Rattle.program.proofs.Falling.{plain_is}
use Rattle.program.proofs.statements.statement_of.Goals as goal

pub returns-in-Ok-access_line : goal.returns-in-Ok-access_line
returns-in-Ok-access_line c =
    let d = c.in_default in
    ap (map_ok says.Plain) c.in-Ok-access_line.ensures ∙ plain_is c.args.names.now c.args.ended c.args.line d.not-If d.not-Goto d.not-Label d.not-Do d.not-Return

pub returns : goal.returns
returns c =
    let d = c.in_default in
    ap (map_ok says.Plain) c.in-Err-access_line.ensures ∙ plain_is c.args.names.now c.args.ended c.args.line d.not-If d.not-Goto d.not-Label d.not-Do d.not-Return
