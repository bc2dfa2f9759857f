-- A copy of a treap's nodes, with memory for as many, has the same tree.
use Rattle.std.proofs.Common.{◌≡◌, ℕ, ◌-◌, ◌≤◌, Option}
use Rattle.std.proofs.Common.{ap, ◌∙◌, arith}
use Rattle.slab.specs.Slab.{Slab, slab_len, HasRoomFor, SameValues}
use Rattle.waiters.proofs.CloneLemmas.{SameValues-grown}
use Rattle.waiters.proofs.SlotLemmas.{slab_len-same}
use Rattle.sema_root.specs.declared.nodes.Node.{Node}
use Rattle.sema_root.specs.Tree.{Tree, leaf, fork, size}
use Rattle.sema_root.specs.Linked.{tree_at, Stands, Holds}
use Rattle.sema_root.specs.Hanging.{IsPlanted}
use Rattle.sema_root.proofs.Planting.{seen}
use Rattle.sema_root.proofs.Standing.{tree_at-is, Holds-read}

module _ (nodes copy : Slab Node) (same : SameValues nodes copy) where
  Stands-copied : (link : Option ℕ) (tree : Tree ℕ) → Stands nodes link tree → Stands copy link tree
  unfolding Stands
  Stands-copied link leaf stands = stands
  Stands-copied link (fork left top right) (at, node, is, got, sprig, on_left, on_right) = (
    at,
    node,
    is,
    same at ∙ got,
    sprig,
    Stands-copied node.left left on_left,
    Stands-copied node.right right on_right,
  )

  module _ (top : Option ℕ) (reserved : ℕ) (planted : IsPlanted (record { nodes = nodes; top = top }) reserved) where
    same_len : slab_len copy ≡ slab_len nodes
    same_len = slab_len-same nodes copy same

    -- a copy with room for what the nodes left has memory for as many
    pub fits-copied : (room : ℕ) → room ≡ reserved - slab_len nodes → HasRoomFor copy room → reserved ≤ copy.capacity
    fits-copied room free has_room = omega (arith, has_room, free, same_len, planted.within)

    module _ (fits : reserved ≤ copy.capacity) where
      holds : Holds copy top (tree_at nodes top)
      holds = record {
        stands = Stands-copied top (tree_at nodes top) planted.holds.stands;
        fits = omega (arith, planted.counted, planted.within, fits);
      }

      same_tree : tree_at copy top ≡ tree_at nodes top
      same_tree = tree_at-is copy top (tree_at nodes top) holds

      -- so a contract sees no difference
      pub seen-copied : seen (record { nodes = copy; top = top }) reserved ≡ seen (record { nodes = nodes; top = top }) reserved
      seen-copied =
          ap (λ tree. record { tree = tree; room = reserved - slab_len copy }) same_tree
          ∙ ap (λ len. record { tree = tree_at nodes top; room = reserved - len }) same_len

      pub IsPlanted-copied : IsPlanted (record { nodes = copy; top = top }) reserved
      IsPlanted-copied = record {
        treap = rw same_tree planted.treap;
        holds = Holds-read copy top (tree_at nodes top) holds;
        counted = omega (arith, ap size same_tree, same_len, planted.counted);
        within = omega (arith, same_len, planted.within);
        fits = fits;
      }

-- nodes that got more memory have the same tree
module _ (nodes later : Slab Node) (top : Option ℕ) (reserved : ℕ) (planted : IsPlanted (record { nodes = nodes; top = top }) reserved)
    (kept : later ≡ record nodes { capacity = later.capacity }) (grown : nodes.capacity ≤ later.capacity) where
  fits : reserved ≤ later.capacity
  fits = omega (arith, planted.fits, grown)

  pub seen-grown : seen (record { nodes = later; top = top }) reserved ≡ seen (record { nodes = nodes; top = top }) reserved
  seen-grown = seen-copied nodes later (SameValues-grown nodes later kept) top reserved planted fits

  pub IsPlanted-grown : IsPlanted (record { nodes = later; top = top }) reserved
  IsPlanted-grown = IsPlanted-copied nodes later (SameValues-grown nodes later kept) top reserved planted fits
