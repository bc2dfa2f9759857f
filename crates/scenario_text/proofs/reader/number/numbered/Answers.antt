use Rattle.std.proofs.Common.{Some, None, refl}
use Rattle.scenario_text.specs.Phrases.{IsNumber, IsNumbered}
use Rattle.scenario_text.proofs.Parts.{fails, none, stripped_front, numbered_split, numbered_made}
use Rattle.scenario_text.proofs.reader.number.numbered.Goals as goal

pub returns-in_err-first : goal.returns-in_err-first
returns-in_err-first c = rw c.from_residual-in_err-first.ensures (fails (IsNumbered c.args.keyword.now c.args.text.now) None refl (λ z p.
    numbered_split c.args.keyword.now c.args.text.now c.in_ok-strip_prefix.field-0.now None
    (stripped_front c.args.keyword.now c.args.text.now (Some c.in_ok-strip_prefix.field-0) c.in_ok-strip_prefix.ensures.cases)
    c.in_err-first.ensures.cases z p))

pub returns-in_err-first-2 : goal.returns-in_err-first-2
returns-in_err-first-2 c = rw c.from_residual-in_err-first-2.ensures (fails (IsNumbered c.args.keyword.now c.args.text.now) None refl (λ z p.
    none (IsNumber 10 c.in_ok-first.first.now) z.0 c.in_err-first-2.ensures
    (numbered_split c.args.keyword.now c.args.text.now c.in_ok-strip_prefix.field-0.now (Some (c.in_ok-first.first, c.in_ok-first.rest))
    (stripped_front c.args.keyword.now c.args.text.now (Some c.in_ok-strip_prefix.field-0) c.in_ok-strip_prefix.ensures.cases)
    c.in_ok-first.ensures.cases z p).0))

pub returns : goal.returns
returns c = numbered_made c.args.keyword.now c.args.text.now c.in_ok-strip_prefix.field-0.now (c.in_ok-first.first, c.in_ok-first.rest)
    c.in_ok-first-2.first
    (stripped_front c.args.keyword.now c.args.text.now (Some c.in_ok-strip_prefix.field-0) c.in_ok-strip_prefix.ensures.cases) c.in_ok-first.ensures.cases
    c.in_ok-first-2.ensures
