-- How nodes that are linked by their keys in a slab make a tree. No public clause cites this.
use Rattle.std.specs.Prelude.{◌≡◌, ◌≢◌, ◌≤◌, ◌+◌, ◌++◌, ℕ, zero, suc, List, Option, Some, None}
use Rattle.std.specs.List.{AllByRecursion}
use Rattle.slab.specs.Slab.{Slab, get}
use Rattle.sema_root.specs.declared.nodes.Node.{Node}
use Rattle.sema_root.specs.Tree.{Sprig, Tree, leaf, fork, size, entries}
use Rattle.sema_root.specs.Entries.{AreRising}
use Rattle.sema_root.specs.Reshaping.{merged, split}

-- a node without its links
abbrev pub sprig : Node → Sprig ℕ
sprig node = record { counter = node.counter; ticket = node.ticket; value = node.list }

-- the tree of this node, where `below` has those of its links
abbrev pub grown_from : (Option ℕ → Tree ℕ) → Option Node → Tree ℕ
grown_from below None = leaf
grown_from below (Some node) = fork (below node.left) (sprig node) (below node.right)

-- the tree below a link, down to so many levels
abbrev pub grown : ℕ → Slab Node → Option ℕ → Tree ℕ
grown zero nodes link = leaf
grown (suc levels) nodes None = leaf
grown (suc levels) nodes (Some at) = grown_from (grown levels nodes) (get nodes at)

-- the tree below a link: no tree has more levels than nodes fit into the slab
unfoldable pub tree_at : Slab Node → Option ℕ → Tree ℕ
tree_at nodes link = grown nodes.capacity nodes link

-- this whole tree stands below a link
unfoldable pub Stands : Slab Node → Option ℕ → Tree ℕ → Type 0
Stands nodes link leaf = link ≡ None
Stands nodes link (fork left top right) =
    (at : ℕ) × (node : Node) × (link ≡ Some at) × (get nodes at ≡ Some node) × (sprig node ≡ top)
    × Stands nodes node.left left × Stands nodes node.right right

-- it stands there, and the slab has memory for all of it
pub record Holds (nodes : Slab Node) (link : Option ℕ) (tree : Tree ℕ) : Type 0 where
  pub stands : Stands nodes link tree
  pub fits : size tree ≤ nodes.capacity

-- no entry is this counter's
abbrev pub Lacks : ℕ → List (ℕ × (ℕ × ℕ)) → Type 0
Lacks counter = AllByRecursion (λ entry. entry.0 ≢ counter)

-- each node stays as it was, but for those of the counters of these entries
pub record Keeps (old new : Slab Node) (changed : List (ℕ × (ℕ × ℕ))) : Type 0 where
  pub others : (at : ℕ) (node : Node) → get old at ≡ Some node → Lacks node.counter changed
      → get new at ≡ Some node
  pub capacity : new.capacity ≡ old.capacity

-- two trees can become one in this slab: all counters of the first are below those of the second
pub record AreMergeable (nodes : Slab Node) (first second : Option ℕ) : Type 0 where
  pub first_holds : Holds nodes first (tree_at nodes first)
  pub second_holds : Holds nodes second (tree_at nodes second)
  pub fits : size (tree_at nodes first) + size (tree_at nodes second) ≤ nodes.capacity
  pub rising : AreRising (entries (tree_at nodes first) ++ entries (tree_at nodes second))

-- a search tree stands below the link
pub record IsSearchable (nodes : Slab Node) (link : Option ℕ) : Type 0 where
  pub holds : Holds nodes link (tree_at nodes link)
  pub rising : AreRising (entries (tree_at nodes link))

-- a tree was split at a counter
pub record Splits (old new : Slab Node) (tree : Tree ℕ) (counter : ℕ) (below above : Option ℕ) : Type 0 where
  pub below_holds : Holds new below (split counter tree).0
  pub above_holds : Holds new above (split counter tree).1
  pub keeps : Keeps old new (entries tree)

-- two trees became one
pub record Merges (old new : Slab Node) (first second : Tree ℕ) (result : Option ℕ) : Type 0 where
  pub holds : Holds new result (merged first second)
  pub keeps : Keeps old new (entries first ++ entries second)
