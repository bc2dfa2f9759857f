-- What a treap is: a search tree by counters that is a heap by tickets, whatever it holds for each counter.
use Rattle.std.specs.Prelude.{◌==◌, ◌≤◌, ◌+◌, ℕ, List, [], ◌∷◌, ◌++◌, Option, Some, None, ⊤, ltb}
use Rattle.std.specs.Prelude.{if◌then◌else◌}
use Rattle.sema_root.specs.declared.place.TreapPlace.{TreapPlace}
use Rattle.sema_root.specs.Entries.{AreRising}

-- a counter with its ticket, and what the tree holds for it
pub record Sprig (V : Type 0) : Type 0 where
  pub counter : ℕ
  pub ticket : ℕ
  pub value : V

pub data Tree (V : Type 0) : Type 0 where
  leaf : Tree V
  fork : Tree V → Sprig V → Tree V → Tree V

module _ {V : Type 0} where
  -- the entries from left to right: each counter with its ticket and its value
  abbrev pub entries : Tree V → List (ℕ × (ℕ × V))
  entries leaf = []
  entries (fork left node right) =
      entries left ++ (node.counter, (node.ticket, node.value)) ∷ entries right

  abbrev pub size : Tree V → ℕ
  size leaf = 0
  size (fork left _ right) = size left + 1 + size right

  -- the counter of the topmost node
  abbrev pub top_counter : Tree V → Option ℕ
  top_counter leaf = None
  top_counter (fork _ node _) = Some node.counter

  -- the subtree that has the counter's node on top, found down the side where the counter must be
  abbrev pub sought : ℕ → Tree V → Tree V
  sought counter leaf = leaf
  sought counter (fork left node right) =
      if counter == node.counter
      then fork left node right
      else (if ltb counter node.counter then sought counter left else sought counter right)

  -- what the tree holds at its top
  abbrev pub top_value : Tree V → Option V
  top_value leaf = None
  top_value (fork _ node _) = Some node.value

  -- where the topmost node stands: its ticket, and the two counters right below it
  abbrev pub top_place : Tree V → Option TreapPlace
  top_place leaf = None
  top_place (fork left node right) =
      Some (record { ticket = node.ticket; left = top_counter left; right = top_counter right })

  -- this ticket is at most that of the topmost node
  abbrev pub IsAtMost : ℕ → Tree V → Type 0
  IsAtMost ticket leaf = ⊤
  IsAtMost ticket (fork _ node _) = ticket ≤ node.ticket

  -- each node's ticket is at most its children's
  abbrev pub IsHeaped : Tree V → Type 0
  IsHeaped leaf = ⊤
  IsHeaped (fork left node right) =
      IsAtMost node.ticket left × IsAtMost node.ticket right × IsHeaped left × IsHeaped right

  -- the counters are in search order, each once, and the tickets those of a heap
  pub record IsTreap (tree : Tree V) : Type 0 where
    pub searched : AreRising (entries tree)
    pub heaped : IsHeaped tree

module _ {V W : Type 0} where
  -- the tree with what it holds for each counter changed by a function
  abbrev pub mapped : (V → W) → Tree V → Tree W
  mapped change leaf = leaf
  mapped change (fork left node right) =
      fork (mapped change left)
      (record { counter = node.counter; ticket = node.ticket; value = change node.value })
      (mapped change right)
