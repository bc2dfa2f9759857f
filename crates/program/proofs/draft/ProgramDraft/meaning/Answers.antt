use Rattle.program.proofs.Steps.{told_from}
use Rattle.program.proofs.draft.ProgramDraft.meaning.Goals as goal

pub returns : goal.returns
returns c =
    told_from c.args.self.now c.args.line c.is_too_many-over.result c.is_again-again.result c.len.result c.meant_of-meant.result c.too_if.result
    c.too_if-2.result c.is_too_many-over.ensures c.is_again-again.ensures c.len.ensures c.meant_of-meant.ensures c.too_if.ensures c.too_if-2.ensures
