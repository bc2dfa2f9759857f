use Rattle.program.proofs.statements.access_of.Goals as goal

pub returns : goal.returns
returns c = cc
