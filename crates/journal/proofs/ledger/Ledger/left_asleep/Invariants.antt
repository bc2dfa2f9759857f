use Rattle.std.proofs.Common.{ℕ, ◌<◌}
use Rattle.journal.specs.Account.{IsAsleepBeside}
use Rattle.journal.specs.Shown.{shown}
use Rattle.journal.proofs.ledger.Ledger.left_asleep.Given as goal

abbrev pub invariant-loop-counter : goal.invariant-loop-counter
invariant-loop-counter l = (c : ℕ) → c < l.counter → IsAsleepBeside (shown l.self) c → ⊥
