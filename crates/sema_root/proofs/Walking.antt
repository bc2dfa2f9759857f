-- A walk from the top goes down toward a counter.
use Rattle.std.proofs.Common.{◌≡◌, ◌≢◌, ℕ, ◌≤◌, Option, Some, None}
use Rattle.std.proofs.Common.{sym, ◌∙◌, subst, arith, ne_eqb, lt-ltb, le-ltb}
use Rattle.slab.specs.Slab.{get}
use Rattle.sema_root.specs.declared.nodes.Node.{Node}
use Rattle.sema_root.specs.declared.branches.Branches.{Branches}
use Rattle.sema_root.specs.declared.branches.Link.{Link}
use Rattle.sema_root.specs.Tree.{Sprig, leaf}
use Rattle.sema_root.specs.Reshaping.{grafted, pruned}
use Rattle.sema_root.specs.Linked.{sprig, tree_at}
use Rattle.sema_root.specs.Hanging.{toward, IsEnd, EndsAt, Seeks, SeeksTo}
use Rattle.sema_root.proofs.Grafting.{grafted-size}
use Rattle.sema_root.proofs.Standing.{Opens, Opens-holds, Holds-nothing}
use Rattle.sema_root.proofs.Listing.{smaller_toward, ComesTo-toward, sought-toward, Regrows-toward}
use Rattle.sema_root.proofs.Taking.{pruned-fits}

module _ (branches : Branches) (counter ticket : ℕ) (link : Link) (at : Option ℕ) (seeks : Seeks branches counter ticket link at) where
  -- it ends below all nodes
  pub SeeksTo-nothing : at ≡ None → SeeksTo branches counter ticket link at
  SeeksTo-nothing none =
      let is : tree_at branches.nodes at ≡ leaf = Holds-nothing branches.nodes at (tree_at branches.nodes at) none seeks.comes.searchable.holds in
      record { seeks = seeks; ends = subst (EndsAt counter ticket) (sym is) tt }

  module _ (key : ℕ) (node : Node) (leads : at ≡ Some key) (got : get branches.nodes key ≡ Some node) where
    opens : Opens branches.nodes node (tree_at branches.nodes at)
    opens = Opens-holds branches.nodes at key node (tree_at branches.nodes at) leads got seeks.comes.searchable.holds

    -- or at a node
    pub SeeksTo-node : IsEnd counter ticket (sprig node) → SeeksTo branches counter ticket link at
    SeeksTo-node end = record { seeks = seeks; ends = subst (EndsAt counter ticket) (sym opens.is) end }

    -- else it goes on
    pub Seeks-toward : counter ≢ node.counter → node.ticket ≤ ticket
        → Seeks branches counter ticket (toward counter key node).0 (toward counter key node).1
    Seeks-toward apart most =
        let tree = tree_at branches.nodes at in
        let comes = seeks.comes in
        let smaller = smaller_toward branches link at key node counter comes leads got apart in
        record {
          comes = ComesTo-toward branches link at key node counter comes leads got apart;
          same = seeks.same ∙ sought-toward branches link at key node counter comes leads got apart;
          within = omega (arith, seeks.within);
          grafts = λ new list fits regrows.
              let new_node : Sprig ℕ = record { counter = counter; ticket = ticket; value = list } in
              seeks.grafts new list fits (Regrows-toward branches link at key node counter comes leads got apart new (grafted new_node)
              (λ less left right. rw (le-ltb ticket node.ticket most, lt-ltb counter node.counter less))
              (λ more left right. let no_less : node.counter ≤ counter = omega arith in
              rw (le-ltb ticket node.ticket most, le-ltb counter node.counter no_less))
              (omega (arith, grafted-size new_node tree, seeks.within))
              regrows);
          prunes = λ new regrows.
              seeks.prunes new (Regrows-toward branches link at key node counter comes leads got apart new (pruned counter)
              (λ less left right. rw (ne_eqb counter node.counter apart, lt-ltb counter node.counter less))
              (λ more left right. let no_less : node.counter ≤ counter = omega arith in
              rw (ne_eqb counter node.counter apart, le-ltb counter node.counter no_less))
              (omega (arith, pruned-fits counter tree, comes.searchable.holds.fits))
              regrows);
        }
