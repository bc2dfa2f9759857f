-- A treap takes a node in: one entry comes, and it is a treap still.
use Rattle.std.proofs.Common.{◌≡◌, ℕ, suc, ◌+◌, ◌<◌, ◌≤◌, ltb, [], ◌∷◌, None, if◌then◌else◌}
use Rattle.std.proofs.Common.{refl, sym, ◌∙◌, arith, lt-ltb, ltb-true, ltb-false}
use Rattle.std.proofs.lemmas.Bool.{cond_both}
use Rattle.sema_root.specs.Entries.{entry_of, AreRising, Adds}
use Rattle.sema_root.specs.Tree.{Sprig, Tree, leaf, fork, entries, size, IsAtMost, IsHeaped, IsTreap}
use Rattle.sema_root.specs.Reshaping.{split, grafted}
use Rattle.sema_root.proofs.Rising.{Above-lower, Below-higher}
use Rattle.sema_root.proofs.Entering.{Adds-rising, Adds-append_left, Adds-append_right}
use Rattle.sema_root.proofs.Seeking.{entry, searched-left, searched-right}
use Rattle.sema_root.proofs.Seeking.{searched-below, searched-above, found-left, found-right, lacking-apart}
use Rattle.sema_root.proofs.Merging.{IsAtMost-lower}
use Rattle.sema_root.proofs.Splitting.{split-entries, split-size, split-sides, split-heaped, split-at_most}

module _ {V : Type 0} (new : Sprig V) where
  -- above a larger ticket the node comes to the top, and the tree is split under it
  pub grafted-top : (old : Tree V) → IsAtMost (suc new.ticket) old
      → grafted new old ≡ fork (split new.counter old).0 new (split new.counter old).1
  grafted-top leaf smaller = refl
  grafted-top (fork left node right) smaller = rw (lt-ltb new.ticket node.ticket smaller)

  -- what holds of a tree before and after a node is grafted is shown down the path of its counter
  module _ (P : (old tree : Tree V) → Type 0)
      (on_top : (old : Tree V) → IsAtMost (suc new.ticket) old → P old (fork (split new.counter old).0 new (split new.counter old).1))
      (to_left : (l : Tree V) (x : Sprig V) (r t : Tree V) → x.ticket ≤ new.ticket → new.counter < x.counter → P l t
      → P (fork l x r) (fork t x r))
      (to_right : (l : Tree V) (x : Sprig V) (r t : Tree V) → x.ticket ≤ new.ticket → x.counter ≤ new.counter → P r t
      → P (fork l x r) (fork l x t)) where
    deeper : (l : Tree V) (x : Sprig V) (r : Tree V) → x.ticket ≤ new.ticket → P l (grafted new l) → P r (grafted new r)
        → P (fork l x r) (if ltb new.counter x.counter then fork (grafted new l) x r else fork l x (grafted new r))
    deeper l x r larger on_left on_right =
        cond_both (ltb new.counter x.counter) _ _ (P (fork l x r))
        (λ less. to_left l x r _ larger (ltb-true new.counter x.counter less) on_left)
        (λ more. to_right l x r _ larger (ltb-false new.counter x.counter more) on_right)

    pub grafted-by : (old : Tree V) → P old (grafted new old)
    grafted-by leaf = on_top leaf tt
    grafted-by (fork l x r) =
        cond_both (ltb new.ticket x.ticket) _ _ (P (fork l x r))
        (λ smaller. on_top (fork l x r) (ltb-true new.ticket x.ticket smaller))
        (λ larger. deeper l x r (ltb-false new.ticket x.ticket larger) (grafted-by l) (grafted-by r))

  -- a grafted node adds its entry, where a search tree lacks its counter
  pub grafted-adds : (old : Tree V) → AreRising (entries old) → entry_of new.counter (entries old) ≡ None
      → Adds (entries old) (entries (grafted new old)) new.counter (new.ticket, new.value)
  grafted-adds = grafted-by
      (λ old tree. AreRising (entries old) → entry_of new.counter (entries old) ≡ None
      → Adds (entries old) (entries tree) new.counter (new.ticket, new.value))
      (λ old smaller rising lacks.
      let sides = split-sides new.counter old rising lacks in
      record {
        before = entries (split new.counter old).0;
        behind = entries (split new.counter old).1;
        were = sym (split-entries new.counter old);
        are = refl;
        below = sides.0;
        above = sides.1;
      })
      (λ left node right tree larger less is rising lacks.
      let adds = is (searched-left left node right rising) (sym (found-left left node right rising new.counter less) ∙ lacks) in
      Adds-append_right adds (entry node ∷ entries right)
      (less, Above-lower new.counter node.counter less (entries right) (searched-above left node right rising)))
      (λ left node right tree larger most is rising lacks.
      let apart = lacking-apart left node right rising new.counter lacks in
      let more : node.counter < new.counter = omega arith in
      let adds = is (searched-right left node right rising) (sym (found-right left node right rising new.counter more) ∙ lacks) in
      Adds-append_left (Adds-append_left adds (entry node ∷ []) (more, tt)) (entries left)
      (Below-higher node.counter new.counter more (entries left) (searched-below left node right rising)))

  -- it is one node more
  pub grafted-size : (old : Tree V) → size (grafted new old) ≡ size old + 1
  grafted-size = grafted-by (λ old tree. size tree ≡ size old + 1)
      (λ old smaller. omega (arith, split-size new.counter old))
      (λ left node right tree larger less is. omega arith)
      (λ left node right tree larger more is. omega arith)

  abbrev IsGraftedHeap : (old tree : Tree V) → Type 0
  IsGraftedHeap old tree =
      IsHeaped old → IsHeaped tree × ((ticket : ℕ) → IsAtMost ticket old → ticket ≤ new.ticket → IsAtMost ticket tree)

  is_grafted_heap : (old : Tree V) → IsGraftedHeap old (grafted new old)
  is_grafted_heap = grafted-by IsGraftedHeap
      (λ old smaller heaped.
      let sides = split-heaped new.counter old heaped in
      let most = IsAtMost-lower new.ticket (suc new.ticket) (omega arith) old smaller in
      let lower = split-at_most new.counter old heaped new.ticket most in
      ((lower.0, lower.1, sides.0, sides.1), λ ticket on_old on_new. on_new))
      (λ left node right tree larger less is heaped.
      (((is heaped.2).1 node.ticket heaped.0 larger, heaped.1, (is heaped.2).0, heaped.3), λ ticket on_old on_new. on_old))
      (λ left node right tree larger more is heaped.
      ((heaped.0, (is heaped.3).1 node.ticket heaped.1 larger, heaped.2, (is heaped.3).0), λ ticket on_old on_new. on_old))

  -- a heap with a node grafted is a heap
  pub grafted-heaped : (old : Tree V) → IsHeaped old → IsHeaped (grafted new old)
  grafted-heaped old heaped = (is_grafted_heap old heaped).0

  -- a treap with a node of a new counter grafted is a treap
  pub grafted-treap : (old : Tree V) → IsTreap old → entry_of new.counter (entries old) ≡ None → IsTreap (grafted new old)
  grafted-treap old treap lacks = record {
    searched = Adds-rising (grafted-adds old treap.searched lacks) treap.searched;
    heaped = grafted-heaped old treap.heaped;
  }
