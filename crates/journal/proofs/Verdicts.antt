-- What the judge says of a journal, by the entries in front of a place.
use Rattle.std.proofs.Common.{◌≡◌, ℕ, zero, suc, ◌+◌, ◌<◌, ◌≤◌, List, [], ◌∷◌, ◌++◌, length, get_or, take, drop, Option, Some}
use Rattle.std.proofs.Common.{None, refl, sym, ap, subst, ◌∙◌}
use Rattle.std.proofs.Common.{append_assoc, arith}
use Rattle.step_table.specs.declared.entry.Entry.{Entry}
use Rattle.journal.specs.declared.entry.JournalEntry as journal
use Rattle.journal.specs.declared.journal.Journal.{Journal}
use Rattle.journal.specs.declared.rule.Rule.{Rule}
use Rattle.journal.specs.declared.verdict.Verdict.TheVariants.{Unlawful}
use Rattle.journal.specs.LawfulJournal.{entry_of, entries_of, IsLawfulJournal, told_after}
use Rattle.journal.specs.Rules.{BreaksNone, BreaksFirst, IsUnlawfulAt, IsVerdictOf}
use Rattle.journal.specs.Account.{Account, account, after, first_broken}
use Rattle.step_table.specs.Core.{list_entries}
use Rattle.step_law_lists.proofs.ListJournals.{each_once}
use Rattle.journal.proofs.Accounts.{account_last}
use Rattle.journal.proofs.FirstRules.{Judged, judged}
use Rattle.journal.proofs.Rules.{lawful_front, lawful_breaks_none, breaks_none_lawful}

-- ---- the entries in front of a place, the one there, and those behind

pub split : (xs : List journal.JournalEntry) (i : ℕ) (d : journal.JournalEntry) → i < length xs → entries_of xs ≡ entries_of (take i xs)
    ++ (entry_of (get_or xs i d) ∷ entries_of (drop (suc i) xs))
split [] i d lt = absurd (omega arith)
split (x ∷ xs) zero d lt = refl
split (x ∷ xs) (suc i) d lt = ap (λ z. entry_of x ∷ z) (split xs i d (omega arith))

front_more : (xs : List journal.JournalEntry) (i : ℕ) (d : journal.JournalEntry) → i < length xs
    → entries_of (take (suc i) xs) ≡ entries_of (take i xs) ++ (entry_of (get_or xs i d) ∷ [])
front_more [] i d lt = absurd (omega arith)
front_more (x ∷ xs) zero d lt = refl
front_more (x ∷ xs) (suc i) d lt = ap (λ z. entry_of x ∷ z) (front_more xs i d (omega arith))

pub front_length : (xs : List journal.JournalEntry) (i : ℕ) → i ≤ length xs → length (entries_of (take i xs)) ≡ i
front_length xs zero le = refl
front_length [] (suc i) le = absurd (omega arith)
front_length (x ∷ xs) (suc i) le = omega (arith, front_length xs i (omega arith))

-- one more, by the code's names
pub next : (xs : List journal.JournalEntry) (i : ℕ) (e : journal.JournalEntry) → i < length xs → e ≡ get_or xs i e
    → entries_of (take (i + 1) xs) ≡ entries_of (take i xs) ++ (entry_of e ∷ [])
next xs i e lt is =
    let one : suc i ≡ i + 1 = omega arith in
    ap (λ (n : ℕ). entries_of (take n xs)) (sym one) ∙ front_more xs i e lt
    ∙ ap (λ (x : journal.JournalEntry). entries_of (take i xs) ++ (entry_of x ∷ [])) (sym is)

module _ (j : Journal) (i : ℕ) (e : journal.JournalEntry) (lt : i < length j.entries) (is : e ≡ get_or j.entries i e) where
  pub account_next : account j.starts (entries_of (take (i + 1) j.entries)) ≡ after (account j.starts (entries_of (take i j.entries))) (entry_of e)
  account_next = ap (account j.starts) (next j.entries i e lt is) ∙ account_last j.starts (entries_of (take i j.entries)) (entry_of e)

  pub lawful_next : IsLawfulJournal j.starts (entries_of (take i j.entries))
      → (let o : Option Rule = None in o ≡ first_broken (account j.starts (entries_of (take i j.entries))) (entry_of e))
      → IsLawfulJournal j.starts (entries_of (take (i + 1) j.entries))
  lawful_next h q =
      let none : BreaksNone j.starts (entries_of (take i j.entries)) (entry_of e) =
      subst (Judged j.starts (entries_of (take i j.entries)) (entry_of e)) (sym q) (judged j.starts (entries_of (take i j.entries)) (entry_of e) h) in
      subst (IsLawfulJournal j.starts) (sym (next j.entries i e lt is)) (breaks_none_lawful j.starts (entries_of (take i j.entries)) (entry_of e) h none)

  pub told_unlawful : (rule : Rule) (line : ℕ) → IsLawfulJournal j.starts (entries_of (take i j.entries))
      → Some rule ≡ first_broken (account j.starts (entries_of (take i j.entries))) (entry_of e)
      → line ≡ j.heads + i + 1 → IsVerdictOf j (Unlawful line rule)
  told_unlawful rule line h q place = (found, refused)
    where
      front : List Entry
      front = entries_of (take i j.entries)

      behind : List Entry
      behind = entries_of (drop (suc i) j.entries)

      whole : entries_of j.entries ≡ entries_of (take i j.entries) ++ (entry_of e ∷ entries_of (drop (suc i) j.entries))
      whole =
          split j.entries i e lt ∙ ap (λ (x : journal.JournalEntry). entries_of (take i j.entries) ++ (entry_of x ∷ entries_of (drop (suc i) j.entries))) (sym is)

      breaks : BreaksFirst j.starts (entries_of (take i j.entries)) (entry_of e) rule
      breaks = subst (Judged j.starts (entries_of (take i j.entries)) (entry_of e)) (sym q) (judged j.starts (entries_of (take i j.entries)) (entry_of e) h)

      found : IsUnlawfulAt j line rule
      found = record {
        before = entries_of (take i j.entries);
        entry = entry_of e;
        after = entries_of (drop (suc i) j.entries);
        whole = whole;
        place = omega (arith, place, front_length j.entries i (omega arith));
        lawful = h;
        breaks = breaks;
      }

      refused : IsLawfulJournal j.starts (entries_of j.entries) → ⊥
      refused all =
          let parted : IsLawfulJournal j.starts ((entries_of (take i j.entries) ++ (entry_of e ∷ [])) ++ entries_of (drop (suc i) j.entries)) =
          subst (IsLawfulJournal j.starts) (whole ∙ sym
          (append_assoc (entries_of (take i j.entries)) (entry_of e ∷ []) (entries_of (drop (suc i) j.entries)))) all in
          lawful_breaks_none j.starts (entries_of (take i j.entries)) (entry_of e)
          (lawful_front j.starts (entries_of (take i j.entries) ++ (entry_of e ∷ [])) (entries_of (drop (suc i) j.entries)) parted) rule breaks.broken

-- ---- no more tickets are passed than were handed out

pub told_in_order : (starts : List ℕ) (entries : List Entry) → IsLawfulJournal starts entries
    → (k : ℕ) → (told_after entries k).passed ≤ (told_after entries k).handed
told_in_order starts entries h k = (each_once (list_entries k entries) (h.1 k)).order

pub in_order : (a b : Account) → a ≡ b → ((k : ℕ) → (b.told k).passed ≤ (b.told k).handed) → (k : ℕ) → (a.told k).passed ≤ (a.told k).handed
in_order a b e h = subst (λ (x : Account). (k : ℕ) → (x.told k).passed ≤ (x.told k).handed) (sym e) h

-- ---- before the first entry, and behind the last

no_part : {E : Type 0} (before after : List E) (e : E) → (let none : List E = [] in none ≡ before ++ e ∷ after) → ⊥
no_part [] after e q = cc
no_part (b ∷ before) after e q = cc

pub lawful_none : (starts : List ℕ) → IsLawfulJournal starts []
lawful_none starts = (
  ((λ before after e q. absurd (no_part before after e q)), (λ w. (omega arith, omega arith))),
  (λ l before after e q. absurd (no_part before after e q)),
)

pub whole_front : (xs : List journal.JournalEntry) (i : ℕ) → length xs ≤ i → take i xs ≡ xs
whole_front [] zero le = refl
whole_front [] (suc i) le = refl
whole_front (x ∷ xs) zero le = absurd (omega arith)
whole_front (x ∷ xs) (suc i) le = ap (λ z. x ∷ z) (whole_front xs i (omega arith))
