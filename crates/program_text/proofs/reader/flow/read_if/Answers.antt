use Rattle.std.proofs.Common.{ℕ, List, [], Some, None, Bor, get_or}
use Rattle.std.specs.Prelude.{codes}
use Rattle.program_text.specs.declared.reader.verb.Verb.TheVariants as verb
use Rattle.program_text.specs.Words.{texts}
use Rattle.program_text.proofs.Forms.{read}
use Rattle.program_text.proofs.Spelling.{unequal, equal}
use Rattle.program_text.proofs.Wording.{jump, no_jump_length, no_jump_goto, no_jump_test, no_jump_label}
use Rattle.program_text.proofs.reader.flow.read_if.Goals as goal

pub returns-then-words-ne5 : goal.returns-then-words-ne5
returns-then-words-ne5 c = read verb.If (texts c.args.words.now) None (no_jump_length c.args.words.now c.if-words-ne5.true)

pub returns-then-ne : goal.returns-then-ne
returns-then-ne c =
    let none : Bor (List ℕ) = record { ref_ptr = (0, 0); now = [] } in
    read verb.If (texts c.args.words.now) None (no_jump_goto c.args.words.now none c.if-words-ne5.false
    (unequal c.ne.result (get_or c.args.words.now 3 none).now (codes "goto") c.ne.ensures c.if-ne.true))

pub returns-in_default : goal.returns-in_default
returns-in_default c = read verb.If (texts c.args.words.now) None (no_jump_test c.args.words.now c.if-words-ne5.false c.in_default.ensures)

pub returns-in_default-read_name : goal.returns-in_default-read_name
returns-in_default-read_name c =
    let none : Bor (List ℕ) = record { ref_ptr = (0, 0); now = [] } in
    read verb.If (texts c.args.words.now) None (no_jump_label c.args.words.now none c.if-words-ne5.false c.in_default-read_name.ensures)

pub returns : goal.returns
returns c =
    let none : Bor (List ℕ) = record { ref_ptr = (0, 0); now = [] } in
    read verb.If (texts c.args.words.now) (Some (c.in-Some.first, c.in-Some.relation, c.in-Some.second, c.in-Some-read_name.label))
    (jump c.args.words.now none none c.in-Some.first c.in-Some.relation c.in-Some.second c.in-Some-read_name.label c.if-words-ne5.false
    (equal c.ne.result (get_or c.args.words.now 3 none).now (codes "goto") c.ne.ensures c.if-ne.false) c.in-Some.ensures c.in-Some-read_name.ensures)
