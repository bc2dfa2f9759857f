-- A search tree splits at a counter into what is below it and what is above, and a heap into two heaps.
use Rattle.std.proofs.Common.{◌≡◌, ℕ, ◌+◌, ◌<◌, ◌≤◌, ltb, ◌∷◌, ◌++◌, None}
use Rattle.std.proofs.Common.{refl, sym, ap, ◌∙◌, arith, append_assoc, ltb-true, ltb-false}
use Rattle.std.proofs.lemmas.Bool.{cond_both}
use Rattle.sema_root.specs.Entries.{entry_of, AllBelow, AllAbove, AreRising}
use Rattle.sema_root.specs.Tree.{Sprig, Tree, leaf, fork, entries, size, IsAtMost, IsHeaped}
use Rattle.sema_root.specs.Reshaping.{split}
use Rattle.sema_root.proofs.Rising.{All-append, Above-lower, Below-higher}
use Rattle.sema_root.proofs.Seeking.{entry, searched-left, searched-right}
use Rattle.sema_root.proofs.Seeking.{searched-below, searched-above, found-left, found-right, lacking-apart}
use Rattle.sema_root.proofs.Merging.{IsAtMost-lower}

module _ {V : Type 0} (counter : ℕ) where
  -- what holds of a tree and its two sides is shown down the path of the counter
  module _ (P : (tree below above : Tree V) → Type 0)
      (nothing : P leaf leaf leaf)
      (to_left : (l : Tree V) (x : Sprig V) (r b a : Tree V) → counter < x.counter → P l b a → P (fork l x r) b (fork a x r))
      (to_right : (l : Tree V) (x : Sprig V) (r b a : Tree V) → x.counter ≤ counter → P r b a → P (fork l x r) (fork l x b) a) where
    pub split-by : (tree : Tree V) → P tree (split counter tree).0 (split counter tree).1
    split-by leaf = nothing
    split-by (fork left node right) =
        cond_both {A = Tree V × Tree V} (ltb counter node.counter) _ _
        (λ sides. P (fork left node right) sides.0 sides.1)
        (λ less. to_left left node right _ _ (ltb-true counter node.counter less) (split-by left))
        (λ more. to_right left node right _ _ (ltb-false counter node.counter more) (split-by right))

  -- the two sides have the entries of the tree, in their order
  pub split-entries : (tree : Tree V) → entries (split counter tree).0 ++ entries (split counter tree).1 ≡ entries tree
  split-entries = split-by (λ tree below above. entries below ++ entries above ≡ entries tree)
      refl
      (λ left node right below above less is.
      sym (append_assoc (entries below) (entries above) (entry node ∷ entries right)) ∙ ap (λ l. l ++ entry node ∷ entries right) is)
      (λ left node right below above more is.
      append_assoc (entries left) (entry node ∷ entries below) (entries above) ∙ ap (λ l. entries left ++ entry node ∷ l) is)

  -- and its nodes
  pub split-size : (tree : Tree V) → size (split counter tree).0 + size (split counter tree).1 ≡ size tree
  split-size = split-by (λ tree below above. size below + size above ≡ size tree)
      (omega arith) (λ left node right below above less is. omega arith) (λ left node right below above more is. omega arith)

  -- where a search tree lacks the counter, one side is all below it and the other all above
  pub split-sides : (tree : Tree V) → AreRising (entries tree) → entry_of counter (entries tree) ≡ None
      → AllBelow counter (entries (split counter tree).0) × AllAbove counter (entries (split counter tree).1)
  split-sides = split-by
      (λ tree below above. AreRising (entries tree) → entry_of counter (entries tree) ≡ None
      → AllBelow counter (entries below) × AllAbove counter (entries above))
      (λ rising lacks. (tt, tt))
      (λ left node right below above less is rising lacks.
      let sides = is (searched-left left node right rising) (sym (found-left left node right rising counter less) ∙ lacks) in (
        sides.0,
        All-append _ (entries above) (entry node ∷ entries right) sides.1
            (less, Above-lower counter node.counter less (entries right) (searched-above left node right rising)),
      ))
      (λ left node right below above most is rising lacks.
      let apart = lacking-apart left node right rising counter lacks in
      let more : node.counter < counter = omega arith in
      let sides = is (searched-right left node right rising) (sym (found-right left node right rising counter more) ∙ lacks) in (
        All-append _ (entries left) (entry node ∷ entries below)
            (Below-higher node.counter counter more (entries left) (searched-below left node right rising)) (more, sides.0),
        sides.1,
      ))

  -- the sides of a heap are heaps, and no ticket in them is smaller than its topmost one
  abbrev AreSplitHeaps : (tree below above : Tree V) → Type 0
  AreSplitHeaps tree below above = IsHeaped tree → IsHeaped below × IsHeaped above
      × ((ticket : ℕ) → IsAtMost ticket tree → IsAtMost ticket below × IsAtMost ticket above)

  are_split_heaps : (tree : Tree V) → AreSplitHeaps tree (split counter tree).0 (split counter tree).1
  are_split_heaps = split-by AreSplitHeaps
      (λ heaped. (tt, tt, λ ticket most. (tt, tt)))
      (λ left node right below above less is heaped.
      let sides = is heaped.2 in (
        sides.0,
        ((sides.2 node.ticket heaped.0).1, heaped.1, sides.1, heaped.3),
        λ ticket most. ((sides.2 ticket (IsAtMost-lower ticket node.ticket most left heaped.0)).0, most),
      ))
      (λ left node right below above more is heaped.
      let sides = is heaped.3 in (
        (heaped.0, (sides.2 node.ticket heaped.1).0, heaped.2, sides.0),
        sides.1,
        λ ticket most. (most, (sides.2 ticket (IsAtMost-lower ticket node.ticket most right heaped.1)).1),
      ))

  -- a heap splits into two heaps
  pub split-heaped : (tree : Tree V) → IsHeaped tree → IsHeaped (split counter tree).0 × IsHeaped (split counter tree).1
  split-heaped tree heaped = ((are_split_heaps tree heaped).0, (are_split_heaps tree heaped).1)

  -- a ticket that is at most the heap's topmost one is at most those of both sides
  pub split-at_most : (tree : Tree V) → IsHeaped tree → (ticket : ℕ) → IsAtMost ticket tree
      → IsAtMost ticket (split counter tree).0 × IsAtMost ticket (split counter tree).1
  split-at_most tree heaped = (are_split_heaps tree heaped).2
