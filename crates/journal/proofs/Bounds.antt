-- What is kept of few entries with short numbers stays far below 128 bits.
use Rattle.std.proofs.Common.{◌≡◌, ℕ, ◌+◌, ◌-◌, ◌*◌, ◌^◌, ◌<◌, ◌≤◌, ◌⊎◌, Bool, true, false, cond, eqb, List, []}
use Rattle.std.proofs.Common.{◌∷◌, length, get_or, inl, inr, arith}
use Rattle.std.specs.Prelude.{All}
use Rattle.std.proofs.Math.ListN.{get_or-eq_default}
use Rattle.std.proofs.lemmas.Bool.{cases_lt}
use Rattle.step_table.specs.ListWorld.{Numbers, Took, Granted, Forgone}
use Rattle.step_table.proofs.Sums.{put_most}
use Rattle.step_law_lists.specs.ListLawful as list
use Rattle.journal.specs.declared.entry.JournalEntry as journal
use Rattle.journal.specs.declared.entry.JournalEntry.TheVariants.{Add, AddMany, Take, Queue, Leave, Withdraw, Ticket, Grant, Forgo}
use Rattle.journal.specs.JournalLine.{IsShort, HasForm}
use Rattle.journal.specs.LawfulJournal.{entry_of}
use Rattle.journal.specs.Account.{Account, HasRoom, account, after}

-- the account of so many entries
pub record IsBounded (k : ℕ) (a : Account) : Type 0 where
  pub numbers : (c : ℕ) → a.numbers c ≤ 10 ^ 20 * (k + 1)
  pub handed : (l : ℕ) → (a.told l).handed ≤ k

pub bounded_start : (starts : List ℕ) → All IsShort starts → IsBounded 0 (account starts [])
bounded_start starts h = record { numbers = λ c. by c (cases_lt c (length starts)); handed = λ l. omega arith }
  where
    by : (c : ℕ) → (c < length starts) ⊎ (length starts ≤ c) → get_or starts c 0 ≤ 10 ^ 20 * (0 + 1)
    by c (inl lt) = let short : get_or starts c 0 < 10 ^ 20 = h c 0 lt in omega arith
    by c (inr out) = let none : get_or starts c 0 ≡ 0 = get_or-eq_default starts 0 out in omega arith

-- a ticket, or a grant, of some list
took : (n : Numbers) (s : ℕ) (b : Bool) → (list.replay n (cond b (Took s ∷ []) [])).handed ≤ n.handed + 1
took n s true = omega arith
took n s false = omega arith

granted : (n : Numbers) (u s : ℕ) (b : Bool) → (list.replay n (cond b (Granted u s ∷ []) [])).handed ≤ n.handed + 1
granted n u s true = omega arith
granted n u s false = omega arith

forgone : (n : Numbers) (m s : ℕ) (b : Bool) → (list.replay n (cond b (Forgone m s ∷ []) [])).handed ≤ n.handed + 1
forgone n m s true = omega arith
forgone n m s false = omega arith

pub bounded_more : (counters lists k : ℕ) (a : Account) (e : journal.JournalEntry) → HasForm counters lists e → IsBounded k a
    → IsBounded (k + 1) (after a (entry_of e))
bounded_more counters lists k a (Add c s) h b = record {
  numbers = λ d. put_most a.numbers c (a.numbers c + 1) d (10 ^ 20 * (k + 1 + 1)) (omega (arith, b.numbers c)) (omega (arith, b.numbers d));
  handed = λ l. omega (arith, b.handed l);
}
bounded_more counters lists k a (AddMany c s n) h b = record {
  numbers = λ d. put_most a.numbers c (a.numbers c + n) d (10 ^ 20 * (k + 1 + 1)) (omega (arith, b.numbers c, h.1.1)) (omega (arith, b.numbers d));
  handed = λ l. omega (arith, b.handed l);
}
bounded_more counters lists k a (Take c s) h b = record {
  numbers = λ d. put_most a.numbers c (a.numbers c - 1) d (10 ^ 20 * (k + 1 + 1)) (omega (arith, b.numbers c)) (omega (arith, b.numbers d));
  handed = λ l. omega (arith, b.handed l);
}
bounded_more counters lists k a (Queue c w lifo) h b = record { numbers = λ d. omega (arith, b.numbers d); handed = λ l. omega (arith, b.handed l) }
bounded_more counters lists k a (Leave c w s) h b = record { numbers = λ d. omega (arith, b.numbers d); handed = λ l. omega (arith, b.handed l) }
bounded_more counters lists k a (Withdraw c w) h b = record { numbers = λ d. omega (arith, b.numbers d); handed = λ l. omega (arith, b.handed l) }
bounded_more counters lists k a (Ticket m s) h b =
    record { numbers = λ d. omega (arith, b.numbers d); handed = λ l. omega (arith, b.handed l, took (a.told l) s (eqb m l)) }
bounded_more counters lists k a (Grant m u s) h b =
    record { numbers = λ d. omega (arith, b.numbers d); handed = λ l. omega (arith, b.handed l, granted (a.told l) u s (eqb m l)) }
bounded_more counters lists k a (Forgo m n s) h b =
    record { numbers = λ d. omega (arith, b.numbers d); handed = λ l. omega (arith, b.handed l, forgone (a.told l) n s (eqb m l)) }

pub room : (heads k len : ℕ) (a : Account) → IsBounded k a → ((l : ℕ) → (a.told l).passed ≤ (a.told l).handed)
    → 6 * (heads + len) < 2 ^ 64 → k < len → HasRoom a
room heads k len a b order few lt = record {
  numbers = λ c. omega (arith, b.numbers c);
  handed = λ l. omega (arith, b.handed l);
  passed = λ l. omega (arith, b.handed l, order l);
}
