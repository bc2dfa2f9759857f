use Rattle.std.proofs.Common.{◌≡◌, ℕ, List, [], ◌∷◌, Bor, get_or, ap, ◌∙◌, arith}
use Rattle.std.specs.Prelude.{codes}
use Rattle.scenario_text.proofs.Forms.{differs}
use Rattle.program_text.specs.Words.{texts}
use Rattle.program_text.proofs.Spelling.{equals}
use Rattle.program_text.proofs.Wording.{texts_first, others, label, registers, formed, no_verb}
use Rattle.program_text.proofs.reader.line.read_words.Goals as goal

pub returns-in-Some : goal.returns-in-Some
returns-in-Some c = label (texts c.args.words.now) c.in-Some.name c.in-Some.ensures

pub returns-then-eq : goal.returns-then-eq
returns-then-eq c =
    let none : Bor (List ℕ) = record { ref_ptr = (0, 0); now = [] } in
    let word : List ℕ = (get_or c.args.words.now 0 none).now in
    let first : texts c.args.words.now ≡ word ∷ others c.args.words.now = texts_first c.args.words.now none (grind arith) in
    let register : word ≡ codes "register" = equals c.eq.result word (codes "register") c.eq.ensures c.if-eq.true in
    let whole : texts c.args.words.now ≡ codes "register" ∷ others c.args.words.now = first
    ∙ ap (λ (x : List ℕ). x ∷ others c.args.words.now) register in
    registers (texts c.args.words.now) (others c.args.words.now) c.in-Some-2.names whole c.in_default.ensures (rw c.in-Some-2.is at c.in_ok-names.ensures)

pub returns-in-Some-read_verb : goal.returns-in-Some-read_verb
returns-in-Some-read_verb c =
    let none : Bor (List ℕ) = record { ref_ptr = (0, 0); now = [] } in
    let word : List ℕ = (get_or c.args.words.now 0 none).now in
    let first : texts c.args.words.now ≡ word ∷ others c.args.words.now = texts_first c.args.words.now none (grind arith) in
    formed (texts c.args.words.now) (others c.args.words.now) word c.in-Some-read_verb.verb c.read_form.result first (differs c.eq.result word
    (codes "register") c.eq.ensures c.if-eq.false) c.in_default.ensures
    c.in-Some-read_verb.ensures c.read_form.ensures

pub returns-in-None : goal.returns-in-None
returns-in-None c =
    let none : Bor (List ℕ) = record { ref_ptr = (0, 0); now = [] } in
    let word : List ℕ = (get_or c.args.words.now 0 none).now in
    let first : texts c.args.words.now ≡ word ∷ others c.args.words.now = texts_first c.args.words.now none (grind arith) in
    no_verb (texts c.args.words.now) (others c.args.words.now) word first (differs c.eq.result word
    (codes "register") c.eq.ensures c.if-eq.false) c.in_default.ensures c.in-None.ensures
