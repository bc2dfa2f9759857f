use Rattle.std.proofs.Common.{rules, refl, ℕ, ◌+◌, ◌-◌, ◌%◌, ◌<◌, ◌≤◌, ◌^◌, arith, ◌⊎◌, inl, inr}
use Rattle.std.specs.Prelude.{pos, negsuc}
use Rattle.std.proofs.lemmas.Bool.{cases_lt}
use Rattle.std.proofs.lemmas.Int.{ints}
use Rattle.step_table.specs.Wrapping.{IsBefore, less, minus}
use Rattle.step_table.proofs.order.less.Goals as goal

module _ (a b : ℕ) (ha : a < 2 ^ 64) (hb : b < 2 ^ 64) where
  before : 9223372036854775808 ≤ (a + (18446744073709551616 - b)) % 18446744073709551616 → (a < b) ⊎ (b ≤ a) → IsBefore a b
  before h (inl l) = (
    negsuc (b - a - 1),
    record { low = omega (arith, ints); high = omega (arith, ints); rounds = pos 0; same = omega (arith, ints) },
    omega (arith, ints),
  )
  before h (inr l) = (
    negsuc (18446744073709551615 - (a - b)),
    record { low = omega (arith, ints); high = omega (arith, ints); rounds = negsuc 0; same = omega (arith, ints) },
    omega (arith, ints),
  )

  after : IsBefore a b → 9223372036854775808 ≤ (a + (18446744073709551616 - b)) % 18446744073709551616
  after (x, d, n) = let low = d.low in let same = d.same in omega (arith, ints)

pub returns-clause-signed : goal.returns-clause-signed
returns-clause-signed c = (
  λ h. before c.args.a c.args.b (omega arith) (omega arith) (search rules) (cases_lt c.args.a c.args.b),
  λ h. let le = after c.args.a c.args.b (omega arith) (omega arith) h in search rules,
)

pub returns-clause-less : goal.returns-clause-less
unfolding less minus
returns-clause-less c = refl
