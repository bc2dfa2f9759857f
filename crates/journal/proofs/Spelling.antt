-- Which line a text spells behind a journal.
use Rattle.std.proofs.Common.{◌≡◌, ℕ, ◌≤◌, List, [], length, Option, Some, None, sym, ap, ◌∙◌, arith, ◌⊎◌, inl, inr}
use Rattle.std.specs.Prelude.{codes}
use Rattle.std.proofs.lemmas.List.{length-append}
use Rattle.journal.specs.declared.entry.JournalEntry.{JournalEntry}
use Rattle.journal.specs.declared.entry.JournalEntry.TheVariants.{Add, AddMany, Take, Queue, Leave, Withdraw, Ticket, Grant, Forgo}
use Rattle.journal.specs.declared.journal.Journal.{Journal}
use Rattle.journal.specs.declared.line.JournalLine.{JournalLine}
use Rattle.journal.specs.declared.line.JournalLine.TheVariants.{Counter, List as NotifyList, Entry as Tells}
use Rattle.journal.specs.JournalLine.{entry_text, line_text}
use Rattle.journal.specs.JournalText.{Spells}
use Rattle.journal.specs.Reading.{ReadsAs, IsEntryOf, IsHeadOf}
use Rattle.journal.proofs.Parts.{one, found, only, none}
use Rattle.journal.proofs.Forms.{key}

-- no entry begins as a head line does
entry_key : (entry : JournalEntry) (n : ℕ) → (key (entry_text entry) ≡ key (codes "co")) ⊎ (key (entry_text entry) ≡ key (codes "li")) → ⊥
entry_key (Add c s) n (inl h) = omega arith
entry_key (Add c s) n (inr h) = omega arith
entry_key (AddMany c s k) n (inl h) = omega arith
entry_key (AddMany c s k) n (inr h) = omega arith
entry_key (Take c s) n (inl h) = omega arith
entry_key (Take c s) n (inr h) = omega arith
entry_key (Queue c w lifo) n (inl h) = omega arith
entry_key (Queue c w lifo) n (inr h) = omega arith
entry_key (Leave c w s) n (inl h) = omega arith
entry_key (Leave c w s) n (inr h) = omega arith
entry_key (Withdraw c w) n (inl h) = omega arith
entry_key (Withdraw c w) n (inr h) = omega arith
entry_key (Forgo l k s) n (inl h) = omega arith
entry_key (Forgo l k s) n (inr h) = omega arith
entry_key (Ticket l s) n (inl h) = omega arith
entry_key (Ticket l s) n (inr h) = omega arith
entry_key (Grant l u s) n (inl h) = omega arith
entry_key (Grant l u s) n (inr h) = omega arith

module _ (before : Journal) (text : List ℕ) where
  pub entry_line : (entry : JournalEntry) → ReadsAs (IsEntryOf (length before.starts) before.lists text) (Some entry)
      → ReadsAs (Spells before text) (Some (Tells entry))
  entry_line entry h =
      let f = found (IsEntryOf (length before.starts) before.lists text) entry h in
      one (Spells before text) (Tells entry) (record { follows = f.0; spelled = f.1 }) is
    where
      is : (a : JournalLine) → Spells before text a → a ≡ Tells entry
      is (Counter m) q =
          let f = found (IsEntryOf (length before.starts) before.lists text) entry h in absurd (entry_key entry m (inl (ap key (sym f.1 ∙ q.spelled))))
      is (NotifyList m) q =
          let f = found (IsEntryOf (length before.starts) before.lists text) entry h in absurd (entry_key entry m (inr (ap key (sym f.1 ∙ q.spelled))))
      is (Tells other) q = ap Tells (only (IsEntryOf (length before.starts) before.lists text) entry other h (q.follows, q.spelled))

  pub head_line : (o : Option JournalLine) → ReadsAs (IsEntryOf (length before.starts) before.lists text) None → before.entries ≡ []
      → ReadsAs (IsHeadOf text) o → ReadsAs (Spells before text) o
  head_line o h early k a = (to a, λ e. from a ((k a).1 e))
    where
      to : (a : JournalLine) → Spells before text a → o ≡ Some a
      to (Counter m) q = (k (Counter m)).0 (q.follows.0, q.spelled)
      to (NotifyList m) q = (k (NotifyList m)).0 (q.follows.0, q.spelled)
      to (Tells other) q = absurd (none (IsEntryOf (length before.starts) before.lists text) other h (q.follows, q.spelled))

      from : (a : JournalLine) → IsHeadOf text a → Spells before text a
      from (Counter m) p = record { follows = (p.0, early); spelled = p.1 }
      from (NotifyList m) p = record { follows = (p.0, early); spelled = p.1 }
      from (Tells other) p = absurd p

-- each line has six bytes or more
entry_long : (entry : JournalEntry) → 6 ≤ length (entry_text entry)
entry_long (Add c s) = omega (arith, length-append {A = ℕ})
entry_long (AddMany c s k) = omega (arith, length-append {A = ℕ})
entry_long (Take c s) = omega (arith, length-append {A = ℕ})
entry_long (Queue c w lifo) = omega (arith, length-append {A = ℕ})
entry_long (Leave c w s) = omega (arith, length-append {A = ℕ})
entry_long (Withdraw c w) = omega (arith, length-append {A = ℕ})
entry_long (Forgo l n s) = omega (arith, length-append {A = ℕ})
entry_long (Ticket l s) = omega (arith, length-append {A = ℕ})
entry_long (Grant l u s) = omega (arith, length-append {A = ℕ})

pub long : (line : JournalLine) → 6 ≤ length (line_text line)
long (Counter n) = omega (arith, length-append {A = ℕ})
long (NotifyList n) = omega (arith, length-append {A = ℕ})
long (Tells entry) = entry_long entry
