use Rattle.std.proofs.Common.{◌≡◌, true, sym, ap, subst, ◌∙◌, rules}
use Rattle.program.specs.declared.stage.LineGroup.{LineGroup}
use Rattle.program.specs.Drafts.{closed_by, made_of}
use Rattle.program.specs.Fitting.{FitsMeant}
use Rattle.program.specs.Places.{group_of, may_stand}
use Rattle.program.proofs.Steps.{told_room, taken}
use Rattle.program.proofs.draft.ProgramDraft.take.Goals as goal

pub take_meant-requires-clause-room : goal.take_meant-requires-clause-room
take_meant-requires-clause-room c =
    subst (λ (k : LineGroup). FitsMeant (closed_by c.args.self.now.stage k c.args.self.now) c.in_ok-meant.meant) (sym c.of-group.ensures)
    (told_room c.args.self.now c.args.line c.in_ok-meant.meant c.requires (sym c.meaning.ensures ∙ c.in_ok-meant.was))

pub returns-clause-answer : goal.returns-clause-answer
returns-clause-answer c =
    let stands : may_stand c.args.self.now.stage (group_of c.args.line) ≡ true = search rules in
    taken c.args.self.now c.take_meant.new.self c.args.number c.args.line c.in_ok-meant.meant stands
    (sym c.meaning.ensures ∙ c.in_ok-meant.was)
    (c.in_ok-take_meant.ensures.made ∙ ap (λ (k : LineGroup). made_of c.args.self.now c.args.number k c.in_ok-meant.meant) c.of-group.ensures)
