-- Where a tree of nodes hangs, and what a walk that ends at one link leaves of the nodes. No public clause
-- cites this.
use Rattle.std.specs.Prelude.{◌≡◌, ◌≢◌, ◌==◌, ◌⊎◌, ◌^◌, ◌≤◌, ◌<◌, ◌+◌, ℕ, Option, Some, None, true, false}
use Rattle.std.specs.Prelude.{length, ltb, if◌then◌else◌}
use Rattle.slab.specs.Slab.{get, ContainsKey, slab_len, Updates}
use Rattle.waiters.specs.Lists.{Lists, IsOpen, waits_at}
use Rattle.sema_root.specs.declared.nodes.Node.{Node}
use Rattle.sema_root.specs.declared.branches.Branches.{Branches}
use Rattle.sema_root.specs.declared.listed.Listed.{Listed}
use Rattle.sema_root.specs.declared.branches.Link.{Link}
use Rattle.sema_root.specs.declared.branches.Link.TheVariants.{Top, Left, Right}
use Rattle.sema_root.specs.Tree.{Sprig, Tree, leaf, fork, size, entries, sought, top_value, IsTreap}
use Rattle.sema_root.specs.Planted.{Opens}
use Rattle.sema_root.specs.Reshaping.{grafted, pruned}
use Rattle.sema_root.specs.Linked.{sprig, tree_at, Holds, Lacks, IsSearchable}

abbrev pub left_of : Option Node → Option ℕ
left_of None = None
left_of (Some node) = node.left

abbrev pub right_of : Option Node → Option ℕ
right_of None = None
right_of (Some node) = node.right

-- the topmost node of the tree that hangs at a link
abbrev pub held : Branches → Link → Option ℕ
held branches Top = branches.top
held branches (Left at) = left_of (get branches.nodes at)
held branches (Right at) = right_of (get branches.nodes at)

-- the node under this key, where another tree was hung at the link
abbrev pub relinked : Link → Option ℕ → ℕ → Node → Node
relinked Top tree key node = node
relinked (Left at) tree key node = if key == at then record node { left = tree } else node
relinked (Right at) tree key node = if key == at then record node { right = tree } else node

-- and the topmost node of all
abbrev pub topped : Link → Option ℕ → Option ℕ → Option ℕ
topped Top tree top = tree
topped (Left at) tree top = top
topped (Right at) tree top = top

-- the side of a node on which a counter must be, and what hangs there
abbrev pub toward : ℕ → ℕ → Node → Link × Option ℕ
toward counter key node = if ltb counter node.counter then (Left key, node.left) else (Right key, node.right)

-- the node of the link is there
abbrev pub IsThere : Branches → Link → Type 0
IsThere branches Top = Unit {0}
IsThere branches (Left at) = ContainsKey branches.nodes at
IsThere branches (Right at) = ContainsKey branches.nodes at

-- a tree was hung at the link
pub record Hangs (old new : Branches) (link : Link) (tree : Option ℕ) : Type 0 where
  pub nodes : (key : ℕ) (node : Node) → get old.nodes key ≡ Some node
      → get new.nodes key ≡ Some (relinked link tree key node)
  pub there : IsThere old link → held new link ≡ tree
  pub top : new.top ≡ topped link tree old.top
  pub capacity : new.nodes.capacity ≡ old.nodes.capacity
  pub len : slab_len new.nodes ≡ slab_len old.nodes

-- the tree at the link became this one, and no other counter's node changed, but for the link
pub record Regrows (old new : Branches) (link : Link) (was is : Tree ℕ) : Type 0 where
  pub holds : Holds new.nodes (held new link) is
  pub others : (key : ℕ) (node : Node) → get old.nodes key ≡ Some node → Lacks node.counter (entries was)
      → get new.nodes key ≡ Some (relinked link (held new link) key node)
  pub top : new.top ≡ topped link (held new link) old.top
  pub capacity : new.nodes.capacity ≡ old.nodes.capacity

-- the node above a link has this tree below it, and another counter than each in it and than this one
pub record IsAbove (node : Node) (tree : Tree ℕ) (counter : ℕ) : Type 0 where
  pub apart : node.counter ≢ counter
  pub lacks : Lacks node.counter (entries tree)

abbrev pub HangsAt : Branches → Link → Option ℕ → ℕ → Type 0
HangsAt branches Top at counter = branches.top ≡ at
HangsAt branches (Left above) at counter =
    (node : Node) × (get branches.nodes above ≡ Some node) × (node.left ≡ at)
    × IsAbove node (tree_at branches.nodes at) counter
HangsAt branches (Right above) at counter =
    (node : Node) × (get branches.nodes above ≡ Some node) × (node.right ≡ at)
    × IsAbove node (tree_at branches.nodes at) counter

-- a walk for the counter has come to this link, and what hangs there
pub record ComesTo (branches : Branches) (link : Link) (at : Option ℕ) (counter : ℕ) : Type 0 where
  pub searchable : IsSearchable branches.nodes at
  pub hangs : HangsAt branches link at counter

-- a new node was hung at the link, with these two trees below it
pub record HangsNew (old new : Branches) (link : Link) (left right : Option ℕ) (sprout : Sprig ℕ)
    : Type 0 where
  pub mid : Branches
  pub key : ℕ
  pub node : Node
  pub is : sprig node ≡ sprout
  pub on_left : node.left ≡ left
  pub on_right : node.right ≡ right
  pub vacant : get old.nodes key ≡ None
  pub updates : Updates old.nodes mid.nodes key (Some node)
  pub same_top : mid.top ≡ old.top
  pub same_capacity : mid.nodes.capacity ≡ old.nodes.capacity
  pub hangs : Hangs mid new link (Some key)
  pub len : slab_len new.nodes ≡ slab_len old.nodes + 1

-- a node with a new list was grafted on the tree
pub record Enters
    (old new : Branches) (tree : Tree ℕ) (counter ticket : ℕ) (old_lists new_lists : Lists)
    (listed : Listed) : Type 0 where
  pub is_new : listed.is_new ≡ true
  pub regrows : Regrows old new Top tree
      (grafted (record { counter = counter; ticket = ticket; value = listed.list }) tree)
  pub len : slab_len new.nodes ≡ slab_len old.nodes + 1
  pub opens : Opens old_lists new_lists listed.list

-- the list was found, and nothing changed
pub record IsFoundInBranches (old new : Branches) (old_lists new_lists : Lists) (listed : Listed) (key : ℕ)
    : Type 0 where
  pub is_old : listed.is_new ≡ false
  pub list : listed.list ≡ key
  pub same : new ≡ old
  pub same_lists : new_lists ≡ old_lists

-- the counter's node went
pub record Prunes (old new : Branches) (tree : Tree ℕ) (counter : ℕ) : Type 0 where
  pub regrows : Regrows old new Top tree (pruned counter tree)
  pub len : slab_len new.nodes + 1 ≡ slab_len old.nodes

-- the counter's node went if only one wait was left in this list, else nothing changed
pub record Leaves (old new : Branches) (tree : Tree ℕ) (counter : ℕ) (lists : Lists) (key : ℕ) : Type 0 where
  pub last : length (waits_at lists key) ≡ 1 → Prunes old new tree counter
  pub others : length (waits_at lists key) ≢ 1 → new ≡ old

-- a counter's list is open, if the tree has the counter
pub record IsListed (tree : Tree ℕ) (counter : ℕ) (lists : Lists) : Type 0 where
  pub open_at : (key : ℕ) → top_value (sought counter tree) ≡ Some key → IsOpen lists key

-- the treap of these branches can take as many nodes in all as were reserved
pub record IsPlanted (branches : Branches) (reserved : ℕ) : Type 0 where
  pub treap : IsTreap (tree_at branches.nodes branches.top)
  pub holds : Holds branches.nodes branches.top (tree_at branches.nodes branches.top)
  pub counted : size (tree_at branches.nodes branches.top) ≤ slab_len branches.nodes
  pub within : slab_len branches.nodes ≤ reserved
  pub fits : reserved ≤ branches.nodes.capacity

-- a walk from the top for the counter, past no ticket larger than this, comes to this link: what becomes of
-- the tree there by grafting or pruning becomes of the whole tree
pub record Seeks (branches : Branches) (counter ticket : ℕ) (link : Link) (at : Option ℕ) : Type 0 where
  pub comes : ComesTo branches link at counter
  pub same : sought counter (tree_at branches.nodes branches.top) ≡ sought counter (tree_at branches.nodes at)
  pub within : size (tree_at branches.nodes at) ≤ size (tree_at branches.nodes branches.top)
  pub grafts : (new : Branches) (list : ℕ)
      → size (tree_at branches.nodes branches.top) < branches.nodes.capacity
      → Regrows branches new link (tree_at branches.nodes at)
      (grafted (record { counter = counter; ticket = ticket; value = list }) (tree_at branches.nodes at))
      → Regrows branches new Top (tree_at branches.nodes branches.top)
      (grafted (record { counter = counter; ticket = ticket; value = list })
      (tree_at branches.nodes branches.top))
  pub prunes : (new : Branches)
      → Regrows branches new link (tree_at branches.nodes at) (pruned counter (tree_at branches.nodes at))
      → Regrows branches new Top (tree_at branches.nodes branches.top)
      (pruned counter (tree_at branches.nodes branches.top))

-- a walk ends at this node: it is the counter's, or has a larger ticket
abbrev pub IsEnd : ℕ → ℕ → Sprig ℕ → Type 0
IsEnd counter ticket node = (node.counter ≡ counter) ⊎ ((ticket < node.ticket) × (node.ticket < 2 ^ 32))

-- or at the empty tree
abbrev pub EndsAt : ℕ → ℕ → Tree ℕ → Type 0
EndsAt counter ticket leaf = Unit {0}
EndsAt counter ticket (fork left node right) = IsEnd counter ticket node

-- the walk ends where it came to
pub record SeeksTo (branches : Branches) (counter ticket : ℕ) (link : Link) (at : Option ℕ) : Type 0 where
  pub seeks : Seeks branches counter ticket link at
  pub ends : EndsAt counter ticket (tree_at branches.nodes at)
