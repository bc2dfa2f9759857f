-- What is told of locks.
use Rattle.std.proofs.Common.{◌≡◌, ℕ, suc, ◌+◌, ◌<◌, ◌≤◌, Bool, true, false, cond, nat_lt, List, [], ◌∷◌, ◌++◌, length, get_or}
use Rattle.std.proofs.Common.{take, drop, Option, Some, None}
use Rattle.std.proofs.Common.{refl, sym, ap, subst, ◌∙◌, below_more, arith}
use Rattle.std.proofs.lemmas.Bool.{ltb-false, ltb-true}
use Rattle.step_table.specs.declared.entry.Entry.{Entry}
use Rattle.journal.specs.declared.entry.JournalEntry as journal
use Rattle.journal.specs.declared.journal.Journal.{Journal}
use Rattle.journal.specs.declared.lock.Breach.{Breach}
use Rattle.journal.specs.declared.lock.LockUse.{LockUse}
use Rattle.journal.specs.declared.lock_rule.LockRule.{LockRule}
use Rattle.journal.specs.declared.lock_rule.LockRule.TheVariants.{NotHeld, HeldByAnother}
use Rattle.journal.specs.LawfulJournal.{entry_of, entries_of}
use Rattle.journal.specs.Locks.{use_of, holder_after, holder_from, holder_of, BreaksLock, KeepsLock, IsBreachAt, IsToldOfUse, IsLockVerdict}
use Rattle.journal.specs.Locks.{IsKeptBefore, IsFirstOf, earlier}
use Rattle.journal.proofs.Entries.{stands_more}
use Rattle.journal.proofs.Verdicts.{next, split, front_length}

-- ---- one use

pub unused : (holder : Option ℕ) → (let none : Option LockUse = None in let silent : Option LockRule = None in IsToldOfUse holder none silent)
unused None NotHeld b = b
unused None HeldByAnother b = b
unused (Some h) NotHeld b = b
unused (Some h) HeldByAnother b = b

-- ---- the holder

pub holder_more : (lock : ℕ) (h : Option ℕ) (xs : List Entry) (e : Entry) → holder_from lock h (xs ++ e ∷ [])
    ≡ holder_after (holder_from lock h xs) (use_of lock e)
holder_more lock h [] e = refl
holder_more lock h (x ∷ xs) e = holder_more lock (holder_after h (use_of lock x)) xs e

-- ---- the loop over entries

module _ (j : Journal) (lock i : ℕ) (e : journal.JournalEntry) (lt : i < length j.entries) (is : e ≡ get_or j.entries i e) where
  pub holder_next : holder_of lock (entries_of (take (i + 1) j.entries))
      ≡ holder_after (holder_of lock (entries_of (take i j.entries))) (use_of lock (entry_of e))
  holder_next = ap (holder_of lock) (next j.entries i e lt is) ∙ holder_more lock None (entries_of (take i j.entries)) (entry_of e)

  pub kept_next : KeepsLock lock (entries_of (take i j.entries))
      → ((rule : LockRule) → BreaksLock rule lock (entries_of (take i j.entries)) (entry_of e) → ⊥)
      → KeepsLock lock (entries_of (take (i + 1) j.entries))
  kept_next kept none =
      subst (KeepsLock lock) (sym (next j.entries i e lt is))
      (stands_more (λ (x : Entry) (before : List Entry). (rule : LockRule) → BreaksLock rule lock before x → ⊥)
      (entries_of (take i j.entries)) (entry_of e) kept none)

  pub breach_here : (rule : LockRule) (line : ℕ) → KeepsLock lock (entries_of (take i j.entries))
      → BreaksLock rule lock (entries_of (take i j.entries)) (entry_of e)
      → line ≡ j.heads + i + 1 → IsBreachAt j lock line rule
  breach_here rule line kept breaks place = record {
    before = entries_of (take i j.entries);
    entry = entry_of e;
    after = entries_of (drop (suc i) j.entries);
    whole =
        split j.entries i e lt ∙ ap (λ (x : journal.JournalEntry). entries_of (take i j.entries) ++ (entry_of x ∷ entries_of (drop (suc i) j.entries))) (sym is);
    place = omega (arith, place, front_length j.entries i (omega arith));
    kept = kept;
    breaks = breaks;
  }

pub kept_none : (lock : ℕ) → KeepsLock lock []
kept_none lock [] after e q = absurd cc
kept_none lock (b ∷ before) after e q = absurd cc

-- ---- the first of several

-- of two cuts of a list the shorter is within the longer
within : (xs ys us vs : List Entry) (e f : Entry) → xs ++ (e ∷ us) ≡ ys ++ (f ∷ vs) → length xs < length ys
    → (rest : List Entry) × (ys ≡ xs ++ (e ∷ rest))
within xs [] us vs e f q lt = absurd (omega arith)
within [] (y ∷ ys) us vs e f q lt = (ys, cc)
within (x ∷ xs) (y ∷ ys) us vs e f q lt =
    let behind : xs ++ (e ∷ us) ≡ ys ++ (f ∷ vs) = cc in let r = within xs ys us vs e f behind (omega arith) in let is = r.1 in (r.0, cc)

kept_breaks : (j : Journal) (lock at : ℕ) (rule : LockRule) → KeepsLock lock (entries_of j.entries) → IsBreachAt j lock at rule → ⊥
kept_breaks j lock at rule kept b = kept b.before b.after b.entry b.whole rule b.breaks

none_earlier : (j : Journal) (lock at line : ℕ) (one two : LockRule) → at < line → IsBreachAt j lock at one → IsBreachAt j lock line two → ⊥
none_earlier j lock at line one two lt a b =
    let r = within a.before b.before a.after b.after a.entry b.entry (sym a.whole ∙ b.whole) (omega (arith, a.place, b.place)) in
    b.kept a.before r.0 a.entry r.1 one a.breaks

kept_before : (j : Journal) (lock line : ℕ) (v : Option Breach) → IsLockVerdict j lock v
    → ((b : Breach) → v ≡ Some b → line ≤ b.line) → IsKeptBefore j lock line
kept_before j lock line None v le at rule lt b = kept_breaks j lock at rule v b
kept_before j lock line (Some c) v le at rule lt b = none_earlier j lock at c.line rule c.rule (omega (arith, le c refl)) b v

sooner : (j : Journal) (lock line least : ℕ) → least ≤ line → IsKeptBefore j lock line → IsKeptBefore j lock least
sooner j lock line least le h at rule lt b = h at rule (omega arith) b

no_breach : (b c : Breach) (line : ℕ) → (let o : Option Breach = None in o ≡ Some c) → line ≤ c.line
no_breach b c line e = absurd cc

same_line : (b c : Breach) (line : ℕ) → line ≤ b.line → (let o : Option Breach = Some b in o ≡ Some c) → line ≤ c.line
same_line b c line le e = let k : b ≡ c = cc in subst (λ (x : Breach). line ≤ x.line) k le

-- one lock more
pub first_more : (j : Journal) (locks : List ℕ) (i : ℕ) (first v : Option Breach) → IsFirstOf j locks i first → IsLockVerdict j (get_or locks i 0) v
    → IsFirstOf j locks (i + 1) (earlier first v)
first_more j locks i None None h v = below_more _ _ h v
first_more j locks i None (Some b) h v = (
  (i, omega arith, v),
  below_more _ _ (λ k lt. λ at rule before breach. kept_breaks j (get_or locks k 0) at rule (h k lt) breach)
      (kept_before j (get_or locks i 0) b.line (Some b) v (λ c e. same_line b c b.line (omega arith) e)),
)
first_more j locks i (Some a) None h v = (
  (h.0.0, omega (arith, h.0.1), h.0.2),
  below_more _ _ h.1 (kept_before j (get_or locks i 0) a.line None v (λ c e. no_breach a c a.line e)),
)
first_more j locks i (Some a) (Some b) h v = by (nat_lt b.line a.line) refl
  where
    by : (t : Bool) → nat_lt b.line a.line ≡ t → IsFirstOf j locks (i + 1) (cond t (Some b) (Some a))
    by true e = (
      (i, omega arith, v),
      below_more _ _ (λ k lt. sooner j (get_or locks k 0) a.line b.line (omega (arith, ltb-true b.line a.line e)) (h.1 k lt))
          (kept_before j (get_or locks i 0) b.line (Some b) v (λ c f. same_line b c b.line (omega arith) f)),
    )
    by false e = (
      (h.0.0, omega (arith, h.0.1), h.0.2),
      below_more _ _ h.1 (kept_before j (get_or locks i 0) a.line (Some b) v (λ c f. same_line b c a.line (ltb-false b.line a.line e) f)),
    )
