use Rattle.std.proofs.Common.{ℕ, List, [], Some, None, Bor, get_or, sym, ◌∙◌}
use Rattle.std.specs.Prelude.{codes}
use Rattle.scenario_text.proofs.Parts.{stripped_end}
use Rattle.program_text.specs.Words.{texts}
use Rattle.program_text.proofs.Parts.{texts_length, texts_one}
use Rattle.program_text.proofs.Wording.{label_one, label_none, label_many}
use Rattle.program_text.proofs.reader.line.read_label.Goals as goal

pub returns-then-words-ne1 : goal.returns-then-words-ne1
returns-then-words-ne1 c = label_many (texts c.args.words.now) (λ e. c.if-words-ne1.true (sym (texts_length c.args.words.now) ∙ e))

pub returns-in_default : goal.returns-in_default
returns-in_default c =
    let none : Bor (List ℕ) = record { ref_ptr = (0, 0); now = [] } in
    label_none (texts c.args.words.now) (get_or c.args.words.now 0 none).now (texts_one c.args.words.now none c.if-words-ne1.false)
    (stripped_end (codes ":") (get_or c.args.words.now 0 none).now None c.in_default.ensures.cases)

pub returns : goal.returns
returns c =
    let none : Bor (List ℕ) = record { ref_ptr = (0, 0); now = [] } in
    label_one (texts c.args.words.now) (get_or c.args.words.now 0 none).now c.in-Some.label.now c.read_name.result
    (texts_one c.args.words.now none c.if-words-ne1.false)
    (stripped_end (codes ":") (get_or c.args.words.now 0 none).now (Some c.in-Some.label) c.in-Some.ensures.cases) c.read_name.ensures
