-- A treap gives a node up: one entry goes, and it is a treap still.
use Rattle.std.proofs.Common.{◌≡◌, ◌≢◌, ◌⊎◌, ℕ, ◌+◌, ◌<◌, inl, inr, [], ◌∷◌, Some}
use Rattle.std.proofs.Common.{sym, ◌∙◌, arith, le_of_lt, lt-ltb, le-ltb, eq-eqb, ne_eqb}
use Rattle.std.proofs.lemmas.Bool.{cases_order}
use Rattle.sema_root.specs.Entries.{entry_of, AreRising, Removes}
use Rattle.sema_root.specs.Tree.{Sprig, Tree, leaf, fork, entries, size, IsAtMost, IsHeaped, IsTreap}
use Rattle.sema_root.specs.Reshaping.{merged, pruned}
use Rattle.sema_root.proofs.Entering.{Removes-rising, Removes-length, Removes-append_left, Removes-append_right}
use Rattle.sema_root.proofs.Seeking.{held, entry, entries-length, searched-left, searched-right}
use Rattle.sema_root.proofs.Seeking.{found-left, found-right}
use Rattle.sema_root.proofs.Merging.{merged-entries, merged-at_most, merged-heaped, IsAtMost-lower}

module _ {V : Type 0} (counter : ℕ) where
  -- what holds of a tree before and after a counter is pruned is shown down its path
  module _ (P : (old tree : Tree V) → Type 0)
      (nothing : P leaf leaf)
      (here : (l : Tree V) (x : Sprig V) (r : Tree V) → counter ≡ x.counter → P (fork l x r) (merged l r))
      (to_left : (l : Tree V) (x : Sprig V) (r t : Tree V) → counter < x.counter → P l t → P (fork l x r) (fork t x r))
      (to_right : (l : Tree V) (x : Sprig V) (r t : Tree V) → x.counter < counter → P r t → P (fork l x r) (fork l x t)) where
    pub pruned-by : (old : Tree V) → P old (pruned counter old)
    pruned-by leaf = nothing
    pruned-by (fork left node right) = by (pruned-by left) (pruned-by right) (cases_order counter node.counter)
      where
        by : P left (pruned counter left) → P right (pruned counter right)
            → (counter ≡ node.counter) ⊎ ((counter < node.counter) ⊎ (node.counter < counter))
            → P (fork left node right) (pruned counter (fork left node right))
        by on_left on_right (inl same) = rw (eq-eqb counter node.counter same) (here left node right same)
        by on_left on_right (inr (inl less)) =
            let apart : counter ≢ node.counter = omega arith in
            rw (ne_eqb counter node.counter apart, lt-ltb counter node.counter less) (to_left left node right _ less on_left)
        by on_left on_right (inr (inr more)) =
            let apart : counter ≢ node.counter = omega arith in
            rw (ne_eqb counter node.counter apart, le-ltb counter node.counter (le_of_lt more)) (to_right left node right _ more on_right)

  -- a counter that a search tree has loses its entry
  pub pruned-removes : (old : Tree V) → AreRising (entries old) → (value : ℕ × V) → entry_of counter (entries old) ≡ Some value
      → Removes (entries old) (entries (pruned counter old)) counter
  pruned-removes = pruned-by
      (λ old tree. AreRising (entries old) → (value : ℕ × V) → entry_of counter (entries old) ≡ Some value
      → Removes (entries old) (entries tree) counter)
      (λ rising value has. cc)
      (λ left node right same rising value has. record {
        before = entries left;
        value = held node;
        behind = entries right;
        were = rw same;
        are = merged-entries left right;
      })
      (λ left node right tree less is rising value has.
      let has_left = sym (found-left left node right rising counter less) ∙ has in
      Removes-append_right (is (searched-left left node right rising) value has_left) (entry node ∷ entries right))
      (λ left node right tree more is rising value has.
      let has_right = sym (found-right left node right rising counter more) ∙ has in
      let removes = is (searched-right left node right rising) value has_right in
      Removes-append_left (Removes-append_left removes (entry node ∷ [])) (entries left))

  -- it is one node less
  pub pruned-size : (old : Tree V) → AreRising (entries old) → (value : ℕ × V) → entry_of counter (entries old) ≡ Some value
      → size (pruned counter old) + 1 ≡ size old
  pruned-size old rising value has =
      let less = Removes-length (pruned-removes old rising value has) rising in
      omega (arith, entries-length old, entries-length (pruned counter old))

  abbrev IsPrunedHeap : (old tree : Tree V) → Type 0
  IsPrunedHeap old tree = IsHeaped old → IsHeaped tree × ((ticket : ℕ) → IsAtMost ticket old → IsAtMost ticket tree)

  is_pruned_heap : (old : Tree V) → IsPrunedHeap old (pruned counter old)
  is_pruned_heap = pruned-by IsPrunedHeap
      (λ heaped. (tt, λ ticket most. tt))
      (λ left node right same heaped. (
        merged-heaped left right heaped.2 heaped.3,
        λ ticket most. merged-at_most ticket left right
            (IsAtMost-lower ticket node.ticket most left heaped.0) (IsAtMost-lower ticket node.ticket most right heaped.1),
      ))
      (λ left node right tree less is heaped.
      (((is heaped.2).1 node.ticket heaped.0, heaped.1, (is heaped.2).0, heaped.3), λ ticket most. most))
      (λ left node right tree more is heaped.
      ((heaped.0, (is heaped.3).1 node.ticket heaped.1, heaped.2, (is heaped.3).0), λ ticket most. most))

  -- a heap without one of its nodes is a heap
  pub pruned-heaped : (old : Tree V) → IsHeaped old → IsHeaped (pruned counter old)
  pruned-heaped old heaped = (is_pruned_heap old heaped).0

  -- a treap without one of its counters is a treap
  pub pruned-treap : (old : Tree V) → IsTreap old → (value : ℕ × V) → entry_of counter (entries old) ≡ Some value
      → IsTreap (pruned counter old)
  pruned-treap old treap value has = record {
    searched = Removes-rising (pruned-removes old treap.searched value has) treap.searched;
    heaped = pruned-heaped old treap.heaped;
  }
