-- A live ticket goes: it is taken out of those that are kept, or none of them is it.
use Rattle.std.proofs.Common.{◌≡◌, ◌≢◌, ℕ, zero, suc, ◌+◌, ◌-◌, ◌<◌, ◌≤◌, ◌⊎◌, ◌%◌, ◌^◌, Bool, true, false, not, eqb, List, [], ◌∷◌, ◌++◌, length, map, get_or, Option, Some, None, refl, sym, ap, ◌∙◌}
use Rattle.std.proofs.Common.{subst, inl, inr, eq-eqb, eqb-true, arith}
use Rattle.std.specs.Prelude.{nat_eq}
use Rattle.std.specs.List.{position, position_or_len, remove}
use Rattle.std.proofs.lemmas.Bool.{cases_lt, lt-ltb}
use Rattle.std.proofs.lemmas.List.{length-map}
use Rattle.std.proofs.lemmas.List.Sums.{prefix_len_passes}
use Rattle.std.proofs.lemmas.List.Quantifiers.{position-Some}
use native.Mathlib.Decide.{ℕ_discrete}
use Rattle.step_table.specs.Counting.{on, among}
use Rattle.step_table.specs.Wrapping.{word_of}
use Rattle.step_table.proofs.Sums.{on_here, on_else}
use Rattle.step_law_lists.specs.ListInvariant.{IsRising}
use Rattle.notify_list.specs.declared.live.Live.{Live}
use Rattle.notify_list.specs.LiveTickets.{AreKept, AreLive, MayBeGone, IsGoneBy}

-- where a number stands that is among these
place_among : (n : ℕ) (l : List ℕ) → 0 < among n l → (k : ℕ) × (k < length l) × (get_or l k 0 ≡ n)
place_among n [] some = absurd (omega arith)
place_among n (x ∷ l) some = by (ℕ_discrete n x) (place_among n l)
  where
    by : Dec (n ≡ x) → (0 < among n l → (k : ℕ) × (k < length l) × (get_or l k 0 ≡ n)) → (k : ℕ) × (k < length (x ∷ l)) × (get_or (x ∷ l) k 0 ≡ n)
    by (yes e) rest = (0, omega arith, sym e)
    by (no ne) rest = let off = on_else n x 1 ne in let more = rest (omega arith) in (suc more.0, (let a = more.1 in omega arith), more.2)

-- one of them is taken out
among_without : (n : ℕ) (l : List ℕ) (i : ℕ) → i < length l → among n l ≡ on n (get_or l i 0) 1 + among n (remove l i)
among_without n [] i low = absurd (omega arith)
among_without n (x ∷ l) zero low = refl
among_without n (x ∷ l) (suc i) low = let rest = among_without n l i (omega arith) in omega arith

rising_without : (l : List ℕ) (i : ℕ) → i < length l → IsRising l → IsRising (remove l i)
rising_without [] i low rising = absurd (omega arith)
rising_without (x ∷ l) zero low rising = rising.1
rising_without (x ∷ l) (suc i) low rising = (
  (λ n some. rising.0 n (let sum = among_without n l i (omega arith) in omega arith)),
  rising_without l i (omega arith) rising.1,
)

words_without : (f : ℕ → ℕ) (l : List ℕ) (i : ℕ) → i < length l → remove (map f l) i ≡ map f (remove l i)
words_without f [] i low = absurd (omega arith)
words_without f (x ∷ l) zero low = refl
words_without f (x ∷ l) (suc i) low = ap (λ (r : List ℕ). f x ∷ r) (words_without f l i (omega arith))

word_at : (f : ℕ → ℕ) (l : List ℕ) (i : ℕ) → i < length l → get_or (map f l) i 0 ≡ f (get_or l i 0)
word_at f [] i low = absurd (omega arith)
word_at f (x ∷ l) zero low = refl
word_at f (x ∷ l) (suc i) low = word_at f l i (omega arith)

-- early tickets with one word are one
one_early : (first a b : ℕ) → a < 2 ^ 60 → b < 2 ^ 60 → word_of first a ≡ word_of first b → a ≡ b
unfolding word_of
one_early first a b low also same = omega arith

-- where the place of a word is none, none of them is it
none_at : (ticket : ℕ) (l : List ℕ) (k : ℕ) → position (λ w. nat_eq w ticket) l ≡ None → k < length l → get_or l k 0 ≡ ticket → ⊥
none_at ticket l k none low is = by (cases_lt (position_or_len (λ w. nat_eq w ticket) l) (length l))
  where
    by : (position_or_len (λ w. nat_eq w ticket) l < length l) ⊎ (length l ≤ position_or_len (λ w. nat_eq w ticket) l) → ⊥
    by (inl before) =
        let some : position (λ w. nat_eq w ticket) l ≡ Some (position_or_len (λ w. nat_eq w ticket) l)
        = ap (λ (b : Bool). Rattle.std.proofs.Common.cond b (Some (position_or_len (λ w. nat_eq w ticket) l)) None) (lt-ltb _ _ before) in
        let both : None ≡ Some (position_or_len (λ w. nat_eq w ticket) l) = sym none ∙ some in absurd cc
    by (inr all) =
        let other : not (nat_eq (get_or l k 0) ticket) ≡ true = prefix_len_passes (λ w. not (nat_eq w ticket)) l k 0 (omega arith) in
        let no : false ≡ true = ap not (sym (eq-eqb (get_or l k 0) ticket is)) ∙ other in absurd cc

module _ {first : ℕ} {y : Live} {passed : ℕ} {gone : List ℕ} (live : AreLive first y passed gone) (m ticket room : ℕ)
    (may : MayBeGone first passed m gone ticket room) where
  abbrev k : AreKept first y passed gone
  k = live.kept

  -- those that are kept come before one that is gone
  kept_early : (n : ℕ) → 0 < among n k.numbers → n < 2 ^ 60
  kept_early n some = by (cases_lt n passed) (cases_lt n k.end)
    where
      by : (n < passed) ⊎ (passed ≤ n) → (n < k.end) ⊎ (k.end ≤ n) → n < 2 ^ 60
      by (inl before) any = absurd (let none = k.below n before in omega arith)
      by (inr low) (inr after) = absurd (let none = (k.above n after).0 in omega arith)
      by (inr low) (inl high) =
          let last = live.last (k.end - 1) (omega arith) (omega arith) in let early = may.gone_early.early (k.end - 1) last in omega arith

  -- it is none of them, so it comes after them
  pub beyond : position (λ w. nat_eq w ticket) y.words.items ≡ None → k.end ≤ m
  beyond none = by (cases_lt m k.end)
    where
      by : (m < k.end) ⊎ (k.end ≤ m) → k.end ≤ m
      by (inr after) = after
      by (inl before) =
          let one = k.parted m (let a = may.after in omega arith) before in
          let at = place_among m k.numbers (let no = may.stays in omega arith) in
          let is : get_or y.words.items at.0 0 ≡ ticket
          = ap (λ (l : List ℕ). get_or l at.0 0) k.words_are ∙ word_at (word_of first) k.numbers at.0 at.1 ∙ ap (word_of first) at.2 ∙ sym may.ticket_is in
          let count = ap length k.words_are ∙ length-map k.numbers (word_of first) in
          absurd (none_at ticket y.words.items at.0 none (let a = at.1 in omega arith) is)

  -- it is the one at this place, which is taken out
  module _ (i : ℕ) (at : position (λ w. nat_eq w ticket) y.words.items ≡ Some i) where
    pub there : i < length y.words.items
    there = (position-Some (λ w. nat_eq w ticket) y.words.items i 0 at).0

    low : i < length k.numbers
    low = let count = ap length k.words_are ∙ length-map k.numbers (word_of first) in let t = there in omega arith

    is_it : get_or k.numbers i 0 ≡ m
    is_it =
        let found = eqb-true (get_or y.words.items i 0) ticket (position-Some (λ w. nat_eq w ticket) y.words.items i 0 at).1 in
        let sum = among_without (get_or k.numbers i 0) k.numbers i low in let here = on_here (get_or k.numbers i 0) 1 in
        one_early first (get_or k.numbers i 0) m (kept_early (get_or k.numbers i 0) (omega arith)) may.early
        (sym (word_at (word_of first) k.numbers i low) ∙ ap (λ (l : List ℕ). get_or l i 0) (sym k.words_are) ∙ found ∙ may.ticket_is)

    without : (n : ℕ) → among n k.numbers ≡ on n m 1 + among n (remove k.numbers i)
    without n = among_without n k.numbers i low ∙ ap (λ e. on n e 1 + among n (remove k.numbers i)) is_it

    pub taken_out : (z : Live) → z.words.items ≡ remove y.words.items i → z.end ≡ y.end → IsGoneBy first passed m gone z
    taken_out z words end more goes = record {
      kept = record {
        numbers = remove k.numbers i;
        end = k.end;
        words_are = words ∙ ap (λ (l : List ℕ). remove l i) k.words_are ∙ words_without (word_of first) k.numbers i low;
        end_is = end ∙ k.end_is;
        rising = rising_without k.numbers i low k.rising;
        from = k.from;
        below = λ n before. (let sum = without n in let none = k.below n before in omega arith);
        parted = λ n low high. (let sum = without n in let g = goes n in let one = k.parted n low high in omega arith);
        above = λ n after. (
          (let sum = without n in let none = (k.above n after).0 in omega arith),
          (let sum = without n in let g = goes n in let a = k.above n after in let none = a.0 in let also = a.1 in omega arith),
        );
        stays = let g = goes passed in let none = k.stays in let after = may.after in let off = on_else passed m 1 (λ e. omega arith) in omega arith;
      };
      last = λ n e low. (let g = goes n in let some = live.last n e low in omega arith);
    }
