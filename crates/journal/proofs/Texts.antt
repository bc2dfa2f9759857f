-- What the lines that were read say of the whole text.
use Rattle.std.proofs.Common.{◌≡◌, ℕ, ◌+◌, ◌*◌, ◌<◌, ◌≤◌, ◌^◌, List, [], ◌∷◌, ◌++◌, length, Some, None, sym, ap, subst}
use Rattle.std.proofs.Common.{◌∙◌, arith, inl, inr}
use Rattle.std.specs.Prelude.{◌↔◌, All}
use Rattle.journal.specs.declared.journal.Journal.{Journal}
use Rattle.journal.specs.declared.entry.JournalEntry.{JournalEntry}
use Rattle.journal.specs.declared.line.JournalLine.{JournalLine}
use Rattle.journal.specs.declared.line.JournalLine.TheVariants.{Counter, List as NotifyList, Entry as Tells}
use Rattle.journal.specs.Cutting.{lines}
use Rattle.journal.specs.JournalLine.{IsShort, HasForm}
use Rattle.journal.specs.JournalText.{no_lines, with_line, MayFollow, Spells, Makes, IsJournalOf, IsFirstFault, IsFaultOf, IsSound}
use Rattle.journal.specs.Reading.{ReadsAs, IsOnly, IsNone}
use Rattle.std.proofs.lemmas.List.{length-append}
use Rattle.std.proofs.lemmas.List.Elements.{All-nil, All-push}
use Rattle.journal.proofs.Parts.{found, only, none}
use Rattle.journal.proofs.Spelling.{long}

-- the text is read on from these lines, and in no other way
pub record SoFar (text rest : List ℕ) (before : Journal) : Type 0 where
  pub makes : (j : Journal) → Makes before (lines rest) j ↔ IsJournalOf text j
  pub fault : (n : ℕ) → IsFirstFault before (lines rest) n ↔ IsFaultOf text n

pub begins : (text : List ℕ) → SoFar text text no_lines
begins text = record { makes = λ j. ((λ h. h), (λ h. h)); fault = λ n. ((λ h. h), (λ h. h)) }

-- one line more
makes_more : (before : Journal) (p : List ℕ) (ps : List (List ℕ)) (line : JournalLine) → ReadsAs (Spells before p) (Some line) → (j : Journal)
    → Makes (with_line before line) ps j ↔ Makes before (p ∷ ps) j
makes_more before p ps line h j = (
  (λ m. (line, found (Spells before p) line h, m)),
  (λ m. subst (λ (l : JournalLine). Makes (with_line before l) ps j) (only (Spells before p) line m.0 h m.1) m.2),
)

fault_more : (before : Journal) (p : List ℕ) (ps : List (List ℕ)) (line : JournalLine) → ReadsAs (Spells before p) (Some line) → (n : ℕ)
    → IsFirstFault (with_line before line) ps n ↔ IsFirstFault before (p ∷ ps) n
fault_more before p ps line h n = ((λ f. inr (line, found (Spells before p) line h, f)), back)
  where
    back : IsFirstFault before (p ∷ ps) n → IsFirstFault (with_line before line) ps n
    back (inl f) = absurd (f.1 line (found (Spells before p) line h))
    back (inr f) = subst (λ (l : JournalLine). IsFirstFault (with_line before l) ps n) (only (Spells before p) line f.0 h f.1) f.2

pub turn : (text rest after p : List ℕ) (before : Journal) (line : JournalLine) → SoFar text rest before → lines rest ≡ p ∷ lines after
    → ReadsAs (Spells before p) (Some line)
    → SoFar text after (with_line before line)
turn text rest after p before line so e h = record {
  makes = λ j. (
    (λ m. (so.makes j).0 (subst (λ (ps : List (List ℕ)). Makes before ps j) (sym e) ((makes_more before p (lines after) line h j).0 m))),
    (λ m. (makes_more before p (lines after) line h j).1 (subst (λ (ps : List (List ℕ)). Makes before ps j) e ((so.makes j).1 m))),
  );
  fault = λ n. (
    (λ f. (so.fault n).0 (subst (λ (ps : List (List ℕ)). IsFirstFault before ps n) (sym e) ((fault_more before p (lines after) line h n).0 f))),
    (λ f. (fault_more before p (lines after) line h n).1 (subst (λ (ps : List (List ℕ)). IsFirstFault before ps n) e ((so.fault n).1 f))),
  );
}

-- ---- a faulty line

faulty : (before : Journal) (p : List ℕ) (ps : List (List ℕ)) → ReadsAs (Spells before p) None → (n : ℕ) → IsFirstFault before (p ∷ ps) n
    → n ≡ before.heads + length before.entries + 1
faulty before p ps h n (inl f) = f.0
faulty before p ps h n (inr f) = absurd (none (Spells before p) f.0 h f.1)

pub refused : (text rest after p : List ℕ) (before : Journal) (n : ℕ) → SoFar text rest before → lines rest ≡ p ∷ lines after
    → ReadsAs (Spells before p) None → n ≡ before.heads + length before.entries + 1
    → IsOnly (IsFaultOf text) n × IsNone (IsJournalOf text)
refused text rest after p before n so e h k =
    let mine : IsFaultOf text n = (so.fault n).0
    (subst (λ (ps : List (List ℕ)). IsFirstFault before ps n) (sym e) (inl (k, λ l q. none (Spells before p) l h q))) in (
      (λ m. (
        (λ f. faulty before p (lines after) h m (subst (λ (ps : List (List ℕ)). IsFirstFault before ps m) e ((so.fault m).1 f)) ∙ sym k),
        (λ i. subst (IsFaultOf text) (sym i) mine),
      )),
      (λ j m. let t = subst (λ (ps : List (List ℕ)). Makes before ps j) e ((so.makes j).1 m) in none (Spells before p) t.0 h t.1),
    )

-- ---- the end

pub whole : (text rest : List ℕ) (journal : Journal) → SoFar text rest journal → rest ≡ [] → IsOnly (IsJournalOf text) journal
whole text rest journal so e j = (
  (λ m. subst (λ (bytes : List ℕ). Makes journal (lines bytes) j) e ((so.makes j).1 m)),
  (λ i. (so.makes j).0 (subst (λ (bytes : List ℕ). Makes journal (lines bytes) j) (sym e) i)),
)

pub faultless : (text rest : List ℕ) (journal : Journal) → SoFar text rest journal → rest ≡ [] → IsNone (IsFaultOf text)
faultless text rest journal so e n f = subst (λ (bytes : List ℕ). IsFirstFault journal (lines bytes) n) e ((so.fault n).1 f)

-- ---- what is known of the journal

pub record Kept (j : Journal) : Type 0 where
  pub starts : All IsShort j.starts
  pub entries : All (HasForm (length j.starts) j.lists) j.entries
  pub lists : j.lists ≤ j.heads

pub kept_none : Kept no_lines
kept_none = record { starts = All-nil IsShort; entries = All-nil (HasForm 0 0); lists = omega arith }

-- of no entries anything holds
all_of_none : (P : JournalEntry → Type 0) (entries : List JournalEntry) → entries ≡ [] → All P entries
all_of_none P entries e = subst (All P) (sym e) (All-nil P)

pub kept_more : (j : Journal) (line : JournalLine) → Kept j → MayFollow j line → Kept (with_line j line)
kept_more j (Counter start) k m = record {
  starts = All-push IsShort j.starts start k.starts m.0;
  entries = all_of_none (HasForm (length (j.starts ++ (start ∷ []))) j.lists) j.entries m.1;
  lists = omega (arith, k.lists);
}
kept_more j (NotifyList first) k m = record {
  starts = k.starts;
  entries = all_of_none (HasForm (length j.starts) (j.lists + 1)) j.entries m.1;
  lists = omega (arith, k.lists);
}
kept_more j (Tells entry) k m = record {
  starts = k.starts;
  entries = All-push (HasForm (length j.starts) j.lists) j.entries entry k.entries m;
  lists = k.lists;
}

-- one line more is one head line or one entry more
pub counted : (j : Journal) (line : JournalLine) → (with_line j line).heads + length (with_line j line).entries ≡ j.heads + length j.entries + 1
counted j (Counter start) = omega arith
counted j (NotifyList first) = omega arith
counted j (Tells entry) = omega (arith, length-append j.entries (entry ∷ []))

-- a faulty line stands behind all that were read
behind : (j : Journal) (ps : List (List ℕ)) (n : ℕ) → IsFirstFault j ps n → j.heads + length j.entries + 1 ≤ n
behind j [] n f = absurd f
behind j (p ∷ ps) n (inl f) = let here = f.0 in omega arith
behind j (p ∷ ps) n (inr (line, spelled, f)) =
    let later = behind (with_line j line) ps n f in let one = counted j line in omega arith

-- where any line was read, the first isn't faulty
pub first_is_right : (text rest after p : List ℕ) (before : Journal) (line : JournalLine) → SoFar text rest before → lines rest ≡ p ∷ lines after
    → ReadsAs (Spells before p) (Some line) → IsFaultOf text 1 → ⊥
first_is_right text rest after p before line so e h f =
    let here : IsFirstFault before (p ∷ lines after) 1 = subst (λ (ps : List (List ℕ)). IsFirstFault before ps 1) e ((so.fault 1).1 f) in
    let later = behind (with_line before line) (lines after) 1 ((fault_more before p (lines after) line h 1).1 here) in
    let one = counted before line in
    omega arith

pub longer : (before : Journal) (p : List ℕ) (line : JournalLine) → ReadsAs (Spells before p) (Some line) → 6 ≤ length p
longer before p line h = let f = found (Spells before p) line h in omega (arith, long line, ap length f.spelled)

pub sound : (j : Journal) → Kept j → 6 * (j.heads + length j.entries) < 2 ^ 64 → IsSound j
sound j k few = record { few = few; starts = k.starts; entries = k.entries }
