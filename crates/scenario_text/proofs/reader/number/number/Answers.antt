use Rattle.std.proofs.Common.{ℕ, Option, subst, sym, arith}
use Rattle.scenario_text.specs.Phrases.{IsNumber, ReadsAs}
use Rattle.scenario_text.proofs.Numbers.{IsPlain, not_plain, parsed_plain}
use Rattle.scenario_text.proofs.reader.number.number.Goals as goal

pub returns-then-is_empty : goal.returns-then-is_empty
returns-then-is_empty c = not_plain c.args.most c.args.text.now c.requires.some c.requires.few (λ (p : IsPlain c.args.most c.args.text.now). grind arith)

pub returns-then-first-eq43 : goal.returns-then-first-eq43
returns-then-first-eq43 c =
    not_plain c.args.most c.args.text.now c.requires.some c.requires.few (λ (p : IsPlain c.args.most c.args.text.now). grind (arith, p.no_zero, p.no_plus))

pub returns : goal.returns
returns c =
    let plain : IsPlain c.args.most c.args.text.now
    = record { some = grind arith; short = grind arith; no_zero = λ z. grind arith; no_plus = λ z. grind arith } in
    subst (λ (o : Option ℕ). ReadsAs (IsNumber c.args.most c.args.text.now) o) (sym c.ok.ensures.value)
    (parsed_plain c.args.most c.args.text.now c.parse.result c.requires.some c.requires.few plain c.parse.ensures.value.0)
