-- What a search finds in a sorted vector of entries, and what an edit of the vector at that place does to the pairs.
use Rattle.std.proofs.Common.{◌≡◌, ℕ, zero, suc, ◌+◌, ◌<◌, ◌≤◌, List, [], ◌∷◌, ◌++◌, length, take, drop, get_or, Some, None}
use Rattle.std.proofs.Common.{Result, Ok, Err, IfOk, IfErr}
use Rattle.std.proofs.Common.{sym, ap, ◌∙◌, arith, drop-cons, length-drop}
use Rattle.std.specs.List.{insert, remove}
use Rattle.std.specs.List.Sorted.{IsSearchInRange, IsBinarySearchResult, IsNonDecreasingBy}
use Rattle.std.specs.Ordering.{nat_cmp, ordering_index}
use Rattle.std.proofs.lemmas.Bool.Decides.{nat_tests}
use Rattle.std.proofs.lemmas.Cmp.{ranked}
use Rattle.std.proofs.lemmas.List.{get_or-take, get_or-drop, length-take-le, map-append, take-append-drop}
use Rattle.sema_root.specs.declared.sorted_root.CounterQueue.{CounterQueue}
use Rattle.sema_root.specs.Entries.{entry_of, AllBelow, AllAbove, AreRising, Adds, Removes}
use Rattle.sema_root.specs.Search.{pairs, IsAt, IsGapFor}
use Rattle.sema_root.proofs.Entering.{Adds-was, Removes-was}

-- a counter below all is below each
above_at : (c : ℕ) (entries : List CounterQueue) → AllAbove c (pairs entries) → (i : ℕ) (d : CounterQueue) → i < length entries
    → c < (get_or entries i d).counter
above_at c [] above i d in_range = absurd (omega arith)
above_at c (x ∷ xs) above zero d in_range = above.0
above_at c (x ∷ xs) above (suc i) d in_range = above_at c xs above.1 i d (omega arith)

-- the counters rise from place to place
rising_at : (entries : List CounterQueue) → AreRising (pairs entries) → (i j : ℕ) (d : CounterQueue) → i < j → j < length entries
    → (get_or entries i d).counter < (get_or entries j d).counter
rising_at [] rising i j d less in_range = absurd (omega arith)
rising_at (x ∷ xs) rising i zero d less in_range = absurd (omega arith)
rising_at (x ∷ xs) rising zero (suc j) d less in_range = above_at x.counter xs rising.0 j d (omega arith)
rising_at (x ∷ xs) rising (suc i) (suc j) d less in_range = rising_at xs rising.1 i j d (omega arith) (omega arith)

-- the other way round
below_from : (c : ℕ) (entries : List CounterQueue) → ((i : ℕ) (d : CounterQueue) → i < length entries → (get_or entries i d).counter < c)
    → AllBelow c (pairs entries)
below_from c [] each = tt
below_from c (x ∷ xs) each = (each 0 x (omega arith), below_from c xs (λ i d in_range. each (suc i) d (omega arith)))

above_from : (c : ℕ) (entries : List CounterQueue) → ((i : ℕ) (d : CounterQueue) → i < length entries → c < (get_or entries i d).counter)
    → AllAbove c (pairs entries)
above_from c [] each = tt
above_from c (x ∷ xs) each = (each 0 x (omega arith), above_from c xs (λ i d in_range. each (suc i) d (omega arith)))

module _ (entries : List CounterQueue) (rising : AreRising (pairs entries)) (c : ℕ) where
  -- the comparisons with c rise along the vector, as a binary search asks
  comparisons_rise : IsNonDecreasingBy (λ entry. ordering_index (nat_cmp entry.counter c)) entries
  comparisons_rise i j d le in_range =
      let counters_rise : (get_or entries i d).counter ≤ (get_or entries j d).counter =
      grind (arith, rising_at entries rising i j d, λ (same : i ≡ j). ap (λ k. (get_or entries k d).counter) same) in
      grind (arith, nat_tests)

  -- a binary search ends at the counter, or at the gap for it
  pub searched : (r : Result ℕ ℕ) → IsSearchInRange r (length entries)
      → IsBinarySearchResult (λ entry. nat_cmp entry.counter c) entries r
      → record { found : IfOk r (IsAt entries c); absent : IfErr r (IsGapFor entries c) }
  searched (Ok at) in_range equal = record {
    found = record { in_range = in_range; here = λ other. ranked _ c _ (sym (equal other)) };
    absent = tt;
  }
  searched (Err at) in_range parted = record {
    found = tt;
    absent = record {
      in_range = in_range;
      below = below_from c (take at entries) (λ i d less.
          let long : length (take at entries) ≡ at = length-take-le at entries in_range in
          let lower : i < at = omega arith in
          rw (get_or-take at entries i d lower) (ranked _ c _ (sym ((parted comparisons_rise).0 i d (omega arith) lower))));
      above = above_from c (drop at entries) (λ i d less.
          let long = length-drop at entries in
          rw (get_or-drop at entries i d) (ranked _ c _ (sym ((parted comparisons_rise).1 (at + i) d (omega arith) (omega arith)))));
    };
  }

-- taking the counter's entry out of the vector removes it
pub removes_at : (entries : List CounterQueue) (c at : ℕ) → IsAt entries c at → (entry : CounterQueue) → entry ≡ get_or entries at entry
    → Removes (pairs entries) (pairs (remove entries at)) c
removes_at entries c at is_at entry is = record {
  before = pairs (take at entries);
  value = entry.list;
  behind = pairs (drop (suc at) entries);
  were = ap pairs (sym (take-append-drop at entries))
      ∙ map-append _ (take at entries) (drop at entries)
      ∙ ap (λ rest. pairs (take at entries) ++ pairs rest) (drop-cons entries at entry is_at.in_range)
      ∙ ap (λ here. pairs (take at entries) ++ (here.counter, here.list) ∷ pairs (drop (suc at) entries)) (sym is)
      ∙ ap (λ counter. pairs (take at entries) ++ (counter, entry.list) ∷ pairs (drop (suc at) entries))
      (ap (λ here. here.counter) is ∙ is_at.here entry);
  are = map-append _ (take at entries) (drop (suc at) entries);
}

-- so the pairs have its list for the counter
pub found_list : (entries : List CounterQueue) (c at : ℕ) → AreRising (pairs entries) → IsAt entries c at
    → (entry : CounterQueue) → entry ≡ get_or entries at entry
    → entry_of c (pairs entries) ≡ Some entry.list
unfolding removes_at
found_list entries c at rising is_at entry is = Removes-was (removes_at entries c at is_at entry is) rising

-- an entry that is put into the gap for its counter is added
pub adds_at : (entries : List CounterQueue) (at : ℕ) (entry : CounterQueue) → IsGapFor entries entry.counter at
    → Adds (pairs entries) (pairs (insert entries at entry)) entry.counter entry.list
adds_at entries at entry gap = record {
  before = pairs (take at entries);
  behind = pairs (drop at entries);
  were = ap pairs (sym (take-append-drop at entries)) ∙ map-append _ (take at entries) (drop at entries);
  are = map-append _ (take at entries) (entry ∷ drop at entries);
  below = gap.below;
  above = gap.above;
}

-- the pairs have nothing for a counter that has a gap
pub absent_entry : (entries : List CounterQueue) (c at : ℕ) → IsGapFor entries c at → entry_of c (pairs entries) ≡ None
absent_entry entries c at gap = Adds-was (adds_at entries at (record { counter = c; list = 0 }) gap)
