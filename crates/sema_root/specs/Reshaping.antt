-- How a treap takes a node in and gives one up. No public clause cites this.
use Rattle.std.specs.Prelude.{ℕ, ◌==◌, if◌then◌else◌}
use Rattle.std.specs.Prelude.{ltb}
use Rattle.sema_root.specs.Tree.{Sprig, Tree, leaf, fork}

module _ {V : Type 0} where
  -- the node with its left tree, `below` making its right tree, sinks along the left side of the right tree
  -- past each ticket that is no larger
  abbrev pub sunk : (Tree V → Tree V) → Tree V → Sprig V → Tree V → Tree V → Tree V
  sunk below left node right leaf = fork left node right
  sunk below left node right (fork next_left next next_right) =
      if ltb node.ticket next.ticket
      then fork left node (below (fork next_left next next_right))
      else fork (sunk below left node right next_left) next next_right

  -- two trees, all counters of the first below those of the second, as one: of the two topmost nodes the one
  -- with the smaller ticket comes up, as by rotations round a node that sinks between them
  abbrev pub merged : Tree V → Tree V → Tree V
  merged leaf second = second
  merged (fork left node right) second = sunk (merged right) left node right second

  -- the nodes below a counter, and those above it
  abbrev pub split : ℕ → Tree V → Tree V × Tree V
  split counter leaf = (leaf, leaf)
  split counter (fork left node right) =
      if ltb counter node.counter
      then (let sides = split counter left in (sides.0, fork sides.1 node right))
      else (let sides = split counter right in (fork left node sides.0, sides.1))

  -- a new node goes where the path of its counter meets the first larger ticket, and the tree there is split
  -- under it, as by rotations from a leaf upwards
  abbrev pub grafted : Sprig V → Tree V → Tree V
  grafted new leaf = fork leaf new leaf
  grafted new (fork left node right) =
      if ltb new.ticket node.ticket
      then (let sides = split new.counter (fork left node right) in fork sides.0 new sides.1)
      else (if ltb new.counter node.counter then fork (grafted new left) node right else fork left node
      (grafted new right))

  -- the node of a counter goes, and its two trees become one
  abbrev pub pruned : ℕ → Tree V → Tree V
  pruned counter leaf = leaf
  pruned counter (fork left node right) =
      if counter == node.counter
      then merged left right
      else (if ltb counter node.counter then fork (pruned counter left) node right else fork left node
      (pruned counter right))
