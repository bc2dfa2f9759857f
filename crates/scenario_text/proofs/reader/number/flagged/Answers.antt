use Rattle.std.proofs.Common.{ℕ, Option, Some, None, ◌++◌, subst, sym, ◌∙◌, append_assoc}
use Rattle.std.specs.Fmt.{decimal}
use Rattle.scenario_text.specs.Phrases.{ReadsAs, IsFlagged}
use Rattle.scenario_text.proofs.Parts.{nothing, flagged_reads, stripped_end}
use Rattle.scenario_text.proofs.reader.number.flagged.Goals as goal

pub returns-in_err-strip_suffix : goal.returns-in_err-strip_suffix
returns-in_err-strip_suffix c =
    subst (λ (o : Option ℕ). ReadsAs (IsFlagged c.args.keyword.now c.args.flag.now c.args.text.now) o) (sym c.from_residual.ensures)
    (nothing (IsFlagged c.args.keyword.now c.args.flag.now c.args.text.now)
    (λ n p. stripped_end c.args.flag.now c.args.text.now None c.in_err-strip_suffix.ensures.cases (c.args.keyword.now ++ decimal n)
    (p.1 ∙ sym (append_assoc c.args.keyword.now (decimal n) c.args.flag.now))))

pub returns : goal.returns
returns c = flagged_reads c.args.keyword.now c.args.flag.now c.in_ok-strip_suffix.field-0.now c.args.text.now c.keyed.result
    (stripped_end c.args.flag.now c.args.text.now (Some c.in_ok-strip_suffix.field-0) c.in_ok-strip_suffix.ensures.cases) c.keyed.ensures
