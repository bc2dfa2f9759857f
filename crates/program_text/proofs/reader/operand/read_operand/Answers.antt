use Rattle.std.specs.Prelude.{codes}
use Rattle.scenario_text.proofs.Forms.{differs}
use Rattle.program_text.proofs.Spelling.{equals, operand_me, operand_number, operand_name, operand_none}
use Rattle.program_text.proofs.reader.operand.read_operand.Goals as goal

pub returns-then-eq : goal.returns-then-eq
returns-then-eq c = operand_me c.args.word.now (equals c.eq.result c.args.word.now (codes "me") c.eq.ensures c.if-eq.true)

pub returns-in-Some : goal.returns-in-Some
returns-in-Some c = operand_number c.args.word.now c.in-Some.number c.in-Some.ensures

pub returns-in-Some-read_name : goal.returns-in-Some-read_name
returns-in-Some-read_name c = operand_name c.args.word.now c.in-Some-read_name.name (differs c.eq.result c.args.word.now
    (codes "me") c.eq.ensures c.if-eq.false) c.in_default.ensures c.in-Some-read_name.ensures

pub returns-in-None : goal.returns-in-None
returns-in-None c = operand_none c.args.word.now (differs c.eq.result c.args.word.now
    (codes "me") c.eq.ensures c.if-eq.false) c.in_default.ensures c.in-None.ensures
