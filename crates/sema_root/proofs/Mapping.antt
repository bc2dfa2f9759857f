-- A tree with its values changed keeps its counters and its tickets, and so its shape and its order.
use Rattle.std.proofs.Common.{◌≡◌, ◌==◌, ℕ, Bool, true, false, ltb, List, [], ◌∷◌, map, Some, if◌then◌else◌, option_map}
use Rattle.std.proofs.Common.{refl, sym, ap, ◌∙◌, subst}
use Rattle.std.proofs.lemmas.List.{map-append}
use Rattle.sema_root.specs.Entries.{entry_of, AllAbove, AreRising}
use Rattle.sema_root.specs.Tree.{Tree, leaf, fork, entries, top_counter, sought, top_place}
use Rattle.sema_root.specs.Tree.{IsAtMost, IsHeaped, IsTreap, mapped}
use Rattle.sema_root.proofs.Seeking.{entry}

module _ {A B : Type 0} (change : A → B) where
  -- the entries with their values changed
  abbrev pub changed : List (ℕ × A) → List (ℕ × B)
  changed = map (λ entry. (entry.0, change entry.1))

  -- are above what they were above
  pub changed-above : (c : ℕ) (xs : List (ℕ × A)) → AllAbove c xs → AllAbove c (changed xs)
  changed-above c [] above = tt
  changed-above c (x ∷ xs) above = (above.0, changed-above c xs above.1)

  -- rise as they rose
  pub changed-rising : (xs : List (ℕ × A)) → AreRising xs → AreRising (changed xs)
  changed-rising [] rising = tt
  changed-rising (x ∷ xs) rising = (changed-above x.0 xs rising.0, changed-rising xs rising.1)

  -- and have for each counter what they had, changed
  pub changed-entry_of : (c : ℕ) (xs : List (ℕ × A)) → entry_of c (changed xs) ≡ option_map change (entry_of c xs)
  changed-entry_of c [] = refl
  changed-entry_of c (x ∷ xs) = by (x.0 == c) (changed-entry_of c xs)
    where
      by : (here : Bool) → entry_of c (changed xs) ≡ option_map change (entry_of c xs)
          → (if here then Some (change x.1) else entry_of c (changed xs)) ≡ option_map change (if here then Some x.1 else entry_of c xs)
      by true further = refl
      by false further = further

module _ {V W : Type 0} (change : V → W) where
  -- a mapped tree has the entries of the tree with their values changed
  pub mapped-entries : (tree : Tree V)
      → entries (mapped change tree) ≡ map (λ entry. (entry.0, (entry.1.0, change entry.1.1))) (entries tree)
  mapped-entries leaf = refl
  mapped-entries (fork left node right) =
      rw (mapped-entries left, mapped-entries right) (sym (map-append _ (entries left) (entry node ∷ entries right)))

  -- the same counter on top
  pub mapped-top_counter : (tree : Tree V) → top_counter (mapped change tree) ≡ top_counter tree
  mapped-top_counter leaf = refl
  mapped-top_counter (fork left node right) = refl

  -- the same place on top
  pub mapped-top_place : (tree : Tree V) → top_place (mapped change tree) ≡ top_place tree
  mapped-top_place leaf = refl
  mapped-top_place (fork left node right) = rw (mapped-top_counter left, mapped-top_counter right)

  -- a search takes the same way
  pub mapped-sought : (c : ℕ) (tree : Tree V) → sought c (mapped change tree) ≡ mapped change (sought c tree)
  mapped-sought c leaf = refl
  mapped-sought c (fork left node right) =
      by (c == node.counter) (ltb c node.counter) (mapped-sought c left) (mapped-sought c right)
    where
      by : (here less : Bool) → sought c (mapped change left) ≡ mapped change (sought c left)
          → sought c (mapped change right) ≡ mapped change (sought c right)
          → (if here then mapped change (fork left node right)
          else (if less then sought c (mapped change left) else sought c (mapped change right)))
          ≡ mapped change (if here then fork left node right else (if less then sought c left else sought c right))
      by true less on_left on_right = refl
      by false true on_left on_right = on_left
      by false false on_left on_right = on_right

  -- the tickets are those of the tree: so a ticket is at most the topmost one as it was
  pub mapped-at_most : (ticket : ℕ) (tree : Tree V) → IsAtMost ticket tree → IsAtMost ticket (mapped change tree)
  mapped-at_most ticket leaf most = tt
  mapped-at_most ticket (fork left node right) most = most

  -- and a heap is a heap still
  pub mapped-heaped : (tree : Tree V) → IsHeaped tree → IsHeaped (mapped change tree)
  mapped-heaped leaf heaped = tt
  mapped-heaped (fork left node right) heaped = (
    mapped-at_most node.ticket left heaped.0,
    mapped-at_most node.ticket right heaped.1,
    mapped-heaped left heaped.2,
    mapped-heaped right heaped.3,
  )

  -- a search tree is a search tree still
  pub mapped-searched : (tree : Tree V) → AreRising (entries tree) → AreRising (entries (mapped change tree))
  mapped-searched tree rising =
      subst AreRising (sym (mapped-entries tree)) (changed-rising (λ held. (held.0, change held.1)) (entries tree) rising)

  -- and a treap a treap
  pub mapped-treap : (tree : Tree V) → IsTreap tree → IsTreap (mapped change tree)
  mapped-treap tree treap = record {
    searched = mapped-searched tree treap.searched;
    heaped = mapped-heaped tree treap.heaped;
  }

  -- it has for each counter what the tree has, changed
  pub mapped-entry_of : (c : ℕ) (tree : Tree V)
      → entry_of c (entries (mapped change tree)) ≡ option_map (λ held. (held.0, change held.1)) (entry_of c (entries tree))
  mapped-entry_of c tree =
      ap (entry_of c) (mapped-entries tree) ∙ changed-entry_of (λ held. (held.0, change held.1)) c (entries tree)
