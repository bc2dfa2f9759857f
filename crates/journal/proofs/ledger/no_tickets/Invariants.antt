use Rattle.std.proofs.Common.{◌≡◌, ℕ, get_or, vec_len}
use Rattle.step_law_lists.specs.ListLawful.{none_told}
use Rattle.journal.proofs.ledger.no_tickets.Given as goal

abbrev pub invariant-loop : goal.invariant-loop
invariant-loop l = record { len : vec_len l.tickets ≡ l.counter; none : (k : ℕ) → get_or l.tickets.items k none_told ≡ none_told }
