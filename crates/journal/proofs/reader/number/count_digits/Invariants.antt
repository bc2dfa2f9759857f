use Rattle.std.proofs.Common.{◌<◌, ℕ, get_or}
use Rattle.journal.specs.Reading.{IsDigit}
use Rattle.journal.proofs.reader.number.count_digits.Given as goal

abbrev pub invariant-loop-i : goal.invariant-loop-i
invariant-loop-i l = (k : ℕ) → k < l.i → IsDigit (get_or l.text k 0)
