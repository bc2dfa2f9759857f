-- Down a search tree, what is sought is found: at the counter's node, or nowhere.
use Rattle.std.proofs.Common.{◌≡◌, ◌≢◌, ℕ, ◌<◌, ◌⊎◌, inl, inr, ◌∷◌, Option, Some, None, length, option_map}
use Rattle.std.proofs.Common.{refl, sym, ap, ◌∙◌, arith, eq-eqb, ne_eqb, lt-ltb, le-ltb, le_of_lt, length-append}
use Rattle.std.proofs.lemmas.Bool.{cases_order}
use Rattle.sema_root.specs.Entries.{entry_of, AllBelow, AllAbove, AreRising}
use Rattle.sema_root.specs.Tree.{Sprig, Tree, leaf, fork, entries, size, sought, top_value}
use Rattle.sema_root.proofs.Rising.{Rising-append_left, Rising-append_right, Rising-below, Rising-above}
use Rattle.sema_root.proofs.Rising.{Rising-here, Rising-left, Rising-right}

module _ {V : Type 0} where
  -- what a node holds for its counter
  abbrev pub held : Sprig V → ℕ × V
  held node = (node.ticket, node.value)

  -- the entry of a node
  abbrev pub entry : Sprig V → ℕ × (ℕ × V)
  entry node = (node.counter, held node)

  -- what the topmost node holds
  abbrev pub top_held : Tree V → Option (ℕ × V)
  top_held leaf = None
  top_held (fork _ node _) = Some (held node)

  -- a tree has as many entries as nodes
  pub entries-length : (tree : Tree V) → length (entries tree) ≡ size tree
  entries-length leaf = refl
  entries-length (fork left node right) =
      omega (arith, length-append (entries left) (entry node ∷ entries right), entries-length left, entries-length right)

  module _ (left : Tree V) (node : Sprig V) (right : Tree V) (rising : AreRising (entries (fork left node right))) where
    -- the subtrees of a search tree are search trees: the left one
    pub searched-left : AreRising (entries left)
    searched-left = Rising-append_left (entries left) (entry node ∷ entries right) rising

    -- and the right one
    pub searched-right : AreRising (entries right)
    searched-right = (Rising-append_right (entries left) (entry node ∷ entries right) rising).1

    -- the counters on the left are smaller than the node's
    pub searched-below : AllBelow node.counter (entries left)
    searched-below = Rising-below node.counter (held node) (entries left) (entries right) rising

    -- and those on the right larger
    pub searched-above : AllAbove node.counter (entries right)
    searched-above = Rising-above node.counter (held node) (entries left) (entries right) rising

    -- the entries have for the node's counter what the node holds
    pub found-here : entry_of node.counter (entries (fork left node right)) ≡ Some (held node)
    found-here = Rising-here node.counter (held node) (entries left) (entries right) rising

    -- for a smaller counter what the left side has
    pub found-left : (counter : ℕ) → counter < node.counter
        → entry_of counter (entries (fork left node right)) ≡ entry_of counter (entries left)
    found-left counter = Rising-left counter node.counter (held node) (entries left) (entries right) rising

    -- and for a larger one what the right side has
    pub found-right : (counter : ℕ) → node.counter < counter
        → entry_of counter (entries (fork left node right)) ≡ entry_of counter (entries right)
    found-right counter = Rising-right counter node.counter (held node) (entries left) (entries right) rising

    -- so a counter that is lacking is not the node's
    pub lacking-apart : (counter : ℕ) → entry_of counter (entries (fork left node right)) ≡ None → counter ≢ node.counter
    lacking-apart counter lacks same = let found = rw (← same) at found-here in cc

  module _ (counter : ℕ) (left : Tree V) (node : Sprig V) (right : Tree V) where
    -- the search ends at the counter's node
    pub sought-here : counter ≡ node.counter → sought counter (fork left node right) ≡ fork left node right
    sought-here same = rw (eq-eqb counter node.counter same)

    -- it goes left from a larger counter
    pub sought-left : counter < node.counter → sought counter (fork left node right) ≡ sought counter left
    sought-left less = let apart : counter ≢ node.counter = omega arith in
        rw (ne_eqb counter node.counter apart, lt-ltb counter node.counter less)

    -- and right from a smaller one
    pub sought-right : node.counter < counter → sought counter (fork left node right) ≡ sought counter right
    sought-right more = let apart : counter ≢ node.counter = omega arith in
        rw (ne_eqb counter node.counter apart, le-ltb counter node.counter (le_of_lt more))

  -- the search ends at what the entries have for the counter
  pub sought-entry : (counter : ℕ) (tree : Tree V) → AreRising (entries tree)
      → top_held (sought counter tree) ≡ entry_of counter (entries tree)
  sought-entry counter leaf rising = refl
  sought-entry counter (fork l n r) rising =
      by (sought-entry counter l (searched-left l n r rising)) (sought-entry counter r (searched-right l n r rising))
      (cases_order counter n.counter)
    where
      by : top_held (sought counter l) ≡ entry_of counter (entries l) → top_held (sought counter r) ≡ entry_of counter (entries r)
          → (counter ≡ n.counter) ⊎ ((counter < n.counter) ⊎ (n.counter < counter))
          → top_held (sought counter (fork l n r)) ≡ entry_of counter (entries (fork l n r))
      by down_left down_right (inl same) =
          ap top_held (sought-here counter l n r same) ∙ sym (rw same (found-here l n r rising))
      by down_left down_right (inr (inl less)) =
          ap top_held (sought-left counter l n r less) ∙ down_left ∙ sym (found-left l n r rising counter less)
      by down_left down_right (inr (inr more)) =
          ap top_held (sought-right counter l n r more) ∙ down_right ∙ sym (found-right l n r rising counter more)

  -- what the topmost node holds is its ticket and its value
  pub top_held-value : (tree : Tree V) → top_value tree ≡ option_map (λ pair. pair.1) (top_held tree)
  top_held-value leaf = refl
  top_held-value (fork _ _ _) = refl

  -- so the value there is that of the counter's entry
  pub sought-value : (counter : ℕ) (tree : Tree V) → AreRising (entries tree)
      → top_value (sought counter tree) ≡ option_map (λ pair. pair.1) (entry_of counter (entries tree))
  sought-value counter tree rising =
      top_held-value (sought counter tree) ∙ ap (option_map (λ pair. pair.1)) (sought-entry counter tree rising)
