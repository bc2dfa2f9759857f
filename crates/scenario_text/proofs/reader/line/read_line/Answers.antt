use Rattle.std.specs.Prelude.{codes}
use Rattle.scenario_text.proofs.Forms.{differs, roots_line, counter_line, list_line, value_line, seat_line, no_line}
use Rattle.scenario_text.proofs.reader.line.read_line.Goals as goal

pub returns-in-Some : goal.returns-in-Some
returns-in-Some c = roots_line c.args.text.now c.in-Some.n c.in-Some.ensures

pub returns-in-Some-keyed : goal.returns-in-Some-keyed
returns-in-Some-keyed c = counter_line c.args.text.now c.in-Some-keyed.start c.in-Some-keyed.ensures

pub returns-in-Some-keyed-2 : goal.returns-in-Some-keyed-2
returns-in-Some-keyed-2 c = list_line c.args.text.now c.in-Some-keyed-2.first c.in-Some-keyed-2.ensures

pub returns-in-Some-pair : goal.returns-in-Some-pair
returns-in-Some-pair c = value_line c.args.text.now c.in-Some-pair.counter c.in-Some-pair.n c.in-Some-pair.ensures

pub returns-in-Some-2 : goal.returns-in-Some-2
returns-in-Some-2 c = seat_line c.args.text.now c.in-Some-2.name c.in-Some-2.calls.items (rw c.in-Some-2.is at c.in_ok-name.ensures)

pub returns-in-None : goal.returns-in-None
returns-in-None c = no_line c.args.text.now c.in_default.ensures c.in_default-keyed.ensures c.in_default-keyed-2.ensures c.in_default-pair.ensures
    (rw c.in-None.is at c.in_ok-name.ensures)
    (differs c.eq.result c.args.text.now (codes "group") c.eq.ensures c.if-eq.false)
    (differs c.eq-2.result c.args.text.now (codes "settled") c.eq-2.ensures c.if-eq-2.false)
    (differs c.eq-3.result c.args.text.now (codes "no-misuse") c.eq-3.ensures c.if-eq-3.false)
    (differs c.eq-4.result c.args.text.now (codes "no-lost") c.eq-4.ensures c.if-eq-4.false)
