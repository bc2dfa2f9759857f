use Rattle.std.proofs.Common.{◌<◌, length, arith, rules}
use Rattle.journal.specs.JournalText.{Spells, IsFaultOf}
use Rattle.journal.proofs.Parts.{found}
use Rattle.journal.proofs.Texts.{turn, kept_more, counted, first_is_right, longer}
use Rattle.journal.proofs.reader.read_journal.Goals as goal

pub loop-rest-preserved : goal.loop-rest-preserved
loop-rest-preserved c =
    rw (c.in_ok-add.ensures)
    (record {
      so_far = turn c.args.text.now c.loop-rest.rest.now c.first_line.result.1.now c.first_line.result.0.now c.loop-rest.journal c.in-Some.line
          c.loop-rest.invariant.so_far c.first_line.ensures.line c.in-Some.ensures;
      kept =
          kept_more c.loop-rest.journal c.in-Some.line c.loop-rest.invariant.kept
          (found (Spells c.loop-rest.journal c.first_line.result.0.now) c.in-Some.line c.in-Some.ensures).follows;
      few =
          let more = counted c.loop-rest.journal c.in-Some.line in
          let six = longer c.loop-rest.journal c.first_line.result.0.now c.in-Some.line c.in-Some.ensures in
          let whole = c.first_line.ensures.whole in
          let few = c.loop-rest.invariant.few in
          omega arith;
    })

pub returns-in_default-clause-fault : goal.returns-in_default-clause-fault
returns-in_default-clause-fault c = search rules

pub returns-in_err-add-clause-fault : goal.returns-in_err-add-clause-fault
returns-in_err-add-clause-fault c =
    let six = longer c.loop-rest.journal c.first_line.result.0.now c.in-Some.line c.in-Some.ensures in
    let whole = c.first_line.ensures.whole in
    let few = c.loop-rest.invariant.few in
    let some : 0 < length c.args.text.now = omega arith in
    let right : IsFaultOf c.args.text.now 1 → ⊥ =
    first_is_right c.args.text.now c.loop-rest.rest.now c.first_line.result.1.now c.first_line.result.0.now c.loop-rest.journal
    c.in-Some.line c.loop-rest.invariant.so_far c.first_line.ensures.line c.in-Some.ensures in
    let given = c.from_residual.ensures in
    search rules
