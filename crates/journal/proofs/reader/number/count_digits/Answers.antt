use Rattle.std.proofs.Common.{length, arith}
use Rattle.journal.proofs.Numbers.{front_digits}
use Rattle.journal.proofs.reader.number.count_digits.Goals as goal

pub returns-then-not-is_ascii_digit-clause-digits : goal.returns-then-not-is_ascii_digit-clause-digits
returns-then-not-is_ascii_digit-clause-digits c = front_digits c.args.text.now c.loop-i.i (omega arith) c.loop-i.invariant

pub returns-clause-digits : goal.returns-clause-digits
returns-clause-digits c = front_digits c.args.text.now (length c.args.text.now) (omega arith) (λ k lt. c.loop-i.invariant k (omega arith))
