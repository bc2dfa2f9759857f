use Rattle.std.proofs.Common.{sym, subst, arith}
use Rattle.std.proofs.lemmas.List.{nil_from_length}
use Rattle.scenario_text.specs.Pieces.{Piece}
use Rattle.program.specs.declared.draft.ProgramDraft.{ProgramDraft}
use Rattle.program.specs.Fitting.{IsFitting}
use Rattle.program.proofs.Fits.{fits_none}
use Rattle.program.proofs.Formed.{answer_is_formed, answer_is_few}
use Rattle.program.proofs.Texts.{SoFar, begins, turn, failed, last_program, last_faultless, last_told}
use Rattle.program.proofs.reader.read_program.Goals as goal

pub loop-rest-init : goal.loop-rest-init
loop-rest-init c = record {
  so = subst (λ (d : ProgramDraft). SoFar c.args.text.now c.args.text.now d 1) (sym c.new-draft.ensures) (begins c.args.text.now);
  fitting = subst IsFitting (sym c.new-draft.ensures) fits_none;
  number = omega arith;
}

pub returns-in-Err-clause-fault : goal.returns-in-Err-clause-fault
returns-in-Err-clause-fault c =
    let p : Piece = record { text = c.first_line-ended.result.0.now; ended = c.first_line-ended.result.2 } in
    failed c.args.text.now c.loop-rest.rest.now c.first_line-ended.result.1.now c.loop-rest.draft c.loop-rest.number p c.in-Err.cause
    c.loop-rest.invariant.so c.first_line-ended.ensures.line c.in-Err.ensures.judged

pub loop-rest-preserved : goal.loop-rest-preserved
loop-rest-preserved c =
    let p : Piece = record { text = c.first_line-ended.result.0.now; ended = c.first_line-ended.result.2 } in
    record {
      so = turn c.args.text.now c.loop-rest.rest.now c.first_line-ended.result.1.now c.loop-rest.draft c.read_line.new.draft c.loop-rest.number p
          c.loop-rest.invariant.so c.first_line-ended.ensures.line c.in_default.ensures.judged;
      fitting = c.in_default.ensures.fitting;
      number = omega arith;
    }

pub returns-clause-program : goal.returns-clause-program
returns-clause-program c = last_program c.args.text.now c.loop-rest.rest.now c.loop-rest.draft c.loop-rest.number c.finished.result c.loop-rest.invariant.so
    (nil_from_length c.loop-rest.rest.now (grind arith)) c.finished.ensures

pub returns-clause-faultless : goal.returns-clause-faultless
returns-clause-faultless c = last_faultless c.args.text.now c.loop-rest.rest.now c.loop-rest.draft c.loop-rest.number c.finished.result c.loop-rest.invariant.so
    (nil_from_length c.loop-rest.rest.now (grind arith)) c.finished.ensures

pub returns-clause-formed : goal.returns-clause-formed
returns-clause-formed c = answer_is_formed c.args.text.now c.finished.result
    (last_program c.args.text.now c.loop-rest.rest.now c.loop-rest.draft c.loop-rest.number c.finished.result c.loop-rest.invariant.so
    (nil_from_length c.loop-rest.rest.now (grind arith)) c.finished.ensures)

pub returns-clause-few : goal.returns-clause-few
returns-clause-few c = answer_is_few c.args.text.now c.finished.result
    (last_program c.args.text.now c.loop-rest.rest.now c.loop-rest.draft c.loop-rest.number c.finished.result c.loop-rest.invariant.so
    (nil_from_length c.loop-rest.rest.now (grind arith)) c.finished.ensures)

pub returns-clause-fault : goal.returns-clause-fault
returns-clause-fault c = last_told c.args.text.now c.loop-rest.rest.now c.loop-rest.draft c.loop-rest.number c.finished.result c.loop-rest.invariant.so
    (nil_from_length c.loop-rest.rest.now (grind arith)) c.finished.ensures
