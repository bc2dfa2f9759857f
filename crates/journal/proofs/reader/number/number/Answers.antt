use Rattle.std.proofs.Common.{arith, subst, sym, Some, ℕ}
use Rattle.journal.specs.Reading.{ReadsAs, IsNumber}
use Rattle.journal.proofs.Numbers.{IsPlain, not_plain, value_plain}
use Rattle.journal.proofs.reader.number.number.Goals as goal

pub returns-then-is_empty : goal.returns-then-is_empty
returns-then-is_empty c = not_plain c.args.digits.now (λ (p : IsPlain c.args.digits.now). grind arith)

pub returns-then-digits-gt1 : goal.returns-then-digits-gt1
returns-then-digits-gt1 c = not_plain c.args.digits.now (λ (p : IsPlain c.args.digits.now). grind (arith, p.no_zero))

pub returns : goal.returns
returns c =
    let plain : IsPlain c.args.digits.now = record { some = grind arith; short = grind arith; no_zero = λ z. grind arith } in
    subst (λ (n : ℕ). ReadsAs (IsNumber c.args.digits.now) (Some n)) (sym c.value_of.ensures) (value_plain c.args.digits.now c.requires plain)
