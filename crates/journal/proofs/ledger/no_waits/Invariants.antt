use Rattle.std.proofs.Common.{◌≡◌, ℕ, [], get_or, vec_len}
use Rattle.journal.proofs.ledger.no_waits.Given as goal

abbrev pub invariant-loop : goal.invariant-loop
invariant-loop l = record { len : vec_len l.queues ≡ l.counter; empty : (k : ℕ) → get_or l.queues.items k [] ≡ [] }
