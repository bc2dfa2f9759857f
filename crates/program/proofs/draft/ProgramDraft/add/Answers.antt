use Rattle.std.proofs.Common.{subst}
use Rattle.program.specs.Fitting.{FitsMeant}
use Rattle.program.proofs.Fits.{fits_stated}
use Rattle.program.proofs.draft.ProgramDraft.add.Goals as goal

pub returns-in-Statement-clause-fitting : goal.returns-in-Statement-clause-fitting
returns-in-Statement-clause-fitting c =
    let d = c.args.self.now in
    let put = c.push_back-in-Statement in
    fits_stated d c.args.line c.in-Statement.statement put.new.self put.result c.requires.fitting
    (subst (FitsMeant d) c.in-Statement.is c.requires.room) put.ensures.ok
