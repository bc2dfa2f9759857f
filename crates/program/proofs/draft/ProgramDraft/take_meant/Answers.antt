use Rattle.std.proofs.Common.{sym, subst}
use Rattle.program.specs.declared.draft.ProgramDraft.{ProgramDraft}
use Rattle.program.specs.Fitting.{FitsMeant}
use Rattle.program.proofs.Steps.{made}
use Rattle.program.proofs.draft.ProgramDraft.take_meant.Goals as goal

pub add-requires-clause-room : goal.add-requires-clause-room
add-requires-clause-room c = subst (λ (d : ProgramDraft). FitsMeant d c.args.meant) (sym c.in_ok-close_by.ensures.closed) c.requires.room

pub returns-clause-made : goal.returns-clause-made
returns-clause-made c =
    made c.args.self.now c.close_by.new.self c.add.new.self c.args.number c.args.group c.args.meant c.stage_after-self.result
    c.in_ok-close_by.ensures.closed c.in_ok-add.ensures.with c.stage_after-self.ensures
