use Rattle.program.proofs.Fits.{fits_result}
use Rattle.program.proofs.draft.ProgramDraft.close_by.Goals as goal

pub returns-in-Programs-Program-clause-fitting : goal.returns-in-Programs-Program-clause-fitting
returns-in-Programs-Program-clause-fitting c = fits_result c.args.self.now c.close.new.self c.close.result c.requires c.close.ensures
