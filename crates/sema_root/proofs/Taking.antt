-- A walk finds a counter's list, and takes the counter's node out where one wait is left in the list.
use Rattle.std.proofs.Common.{◌≡◌, ◌≢◌, inl, inr, ℕ, ◌+◌, ◌≤◌, ◌^◌, [], ◌∷◌, ◌++◌, Option, Some, None}
use Rattle.std.proofs.Common.{refl, sym, ap, ◌∙◌, subst, arith, eq-eqb}
use Rattle.slab.specs.Slab.{Slab, get, Updates, slab_len}
use Rattle.sema_root.specs.declared.nodes.Node.{Node}
use Rattle.sema_root.specs.declared.branches.Branches.{Branches}
use Rattle.sema_root.specs.declared.branches.Link.{Link}
use Rattle.sema_root.specs.Entries.{AreRising}
use Rattle.sema_root.specs.Tree.{Tree, leaf, entries, size, sought, top_value}
use Rattle.sema_root.specs.Reshaping.{merged, pruned}
use Rattle.sema_root.specs.Linked.{sprig, tree_at, Holds, Lacks, Keeps, AreMergeable, Merges}
use Rattle.sema_root.specs.Hanging.{IsThere, Hangs, Regrows, ComesTo, Prunes, IsEnd, EndsAt, SeeksTo}
use Rattle.sema_root.proofs.Rising.{All-append, Rising-without}
use Rattle.sema_root.proofs.Seeking.{entry}
use Rattle.sema_root.proofs.Merging.{merged-entries, merged-size}
use Rattle.sema_root.proofs.Pruning.{pruned-by}
use Rattle.sema_root.proofs.Standing.{Opens, Opens-holds, Holds-nothing, Holds-read, tree_at-is, sought-open_here, top_value-some}
use Rattle.sema_root.proofs.Linking.{Keeps-both, Apart-one}
use Rattle.sema_root.proofs.Parting.{Lacks-around, Sides, Sides-open, Holds-kept}
use Rattle.sema_root.proofs.Hanging.{IsThere-kept, Regrows-hung}

-- a pruned tree is no larger
pub pruned-fits : (counter : ℕ) (tree : Tree ℕ) → size (pruned counter tree) ≤ size tree
pruned-fits counter = pruned-by counter (λ old tree. size tree ≤ size old)
    (omega arith) (λ left node right same. omega (arith, merged-size left right)) (λ left node right tree less is. omega arith)
    (λ left node right tree more is. omega arith)

-- the walk has ended at the link
module _ (old : Branches) (counter ticket : ℕ) (link : Link) (at : Option ℕ) (walked : SeeksTo old counter ticket link at) where
  -- at no node: the counter has no list
  pub missing_there : at ≡ None → None ≡ top_value (sought counter (tree_at old.nodes old.top))
  missing_there none =
      let is : tree_at old.nodes at ≡ leaf = Holds-nothing old.nodes at (tree_at old.nodes at) none walked.seeks.comes.searchable.holds in
      sym (ap top_value walked.seeks.same ∙ ap (λ (t : Tree ℕ). top_value (sought counter t)) is)

-- at a node, where no ticket is larger: it is the counter's
module _ (old : Branches) (counter ticket : ℕ) (link : Link) (at : Option ℕ) (walked : SeeksTo old counter ticket link at)
    (key : ℕ) (node : Node) (leads : at ≡ Some key) (got : get old.nodes key ≡ Some node) (most : 2 ^ 32 ≤ ticket + 1) where
  comes : ComesTo old link at counter
  comes = walked.seeks.comes

  opens : Opens old.nodes node (tree_at old.nodes at)
  opens = Opens-holds old.nodes at key node (tree_at old.nodes at) leads got comes.searchable.holds

  sides : Sides old.nodes node
  sides = Sides-open old.nodes at node opens comes.searchable

  same : counter ≡ node.counter
  same = by (subst (EndsAt counter ticket) opens.is walked.ends)
    where
      by : IsEnd counter ticket (sprig node) → counter ≡ node.counter
      by (inl is) = sym is
      by (inr larger) = absurd (omega arith)

  -- at the counter's node is its list
  pub list_here : Some node.list ≡ top_value (sought counter (tree_at old.nodes old.top))
  list_here = sym (ap top_value walked.seeks.same ∙ ap top_value (sought-open_here old.nodes node (tree_at old.nodes at) opens counter same)
      ∙ top_value-some old.nodes at key node (tree_at old.nodes at) leads got comes.searchable.holds)

  -- the node is taken out
  module _ (mid : Slab Node) (updates : Updates old.nodes mid key None) (capacity : mid.capacity ≡ old.nodes.capacity) where
    left : Tree ℕ
    left = tree_at old.nodes node.left

    right : Tree ℕ
    right = tree_at old.nodes node.right

    searched : AreRising (entries left ++ entry (sprig node) ∷ entries right)
    unfolding left right
    searched = subst (λ (t : Tree ℕ). AreRising (entries t)) opens.is comes.searchable.rising

    out : Keeps old.nodes mid (entry (sprig node) ∷ [])
    out = record {
      others = λ other found is lacks.
          let differs : other ≢ key = λ one. (
          let here : get old.nodes key ≡ Some found = ap (get old.nodes) (sym one) ∙ is in
          let equal : found ≡ node = cc in
          lacks.0 (sym (ap (λ n. n.counter) equal))) in
          updates.others other differs ∙ is;
      capacity = capacity;
    }

    left_holds : Holds mid node.left left
    unfolding left
    left_holds = Holds-kept old.nodes mid _ out node.left left (Apart-one (entry (sprig node)) (entries left) sides.around.before) sides.left.holds

    right_holds : Holds mid node.right right
    unfolding right
    right_holds = Holds-kept old.nodes mid _ out node.right right (Apart-one (entry (sprig node)) (entries right) sides.around.behind) sides.right.holds

    left_is : tree_at mid node.left ≡ left
    left_is = tree_at-is mid node.left left left_holds

    right_is : tree_at mid node.right ≡ right
    right_is = tree_at-is mid node.right right right_holds

    pub AreMergeable-out : AreMergeable mid node.left node.right
    unfolding left right
    AreMergeable-out = record {
      first_holds = Holds-read mid node.left left left_holds;
      second_holds = Holds-read mid node.right right right_holds;
      fits = rw (left_is, right_is) (omega (arith, ap size opens.is, comes.searchable.holds.fits, capacity));
      rising = rw (left_is, right_is) (Rising-without node.counter (node.ticket, node.list) (entries left) (entries right) searched);
    }

    module _ (after : Slab Node) (rest : Option ℕ) (merges : Merges mid after (tree_at mid node.left) (tree_at mid node.right) rest) where
      both : Keeps old.nodes after (entries (tree_at old.nodes at))
      unfolding left right
      both =
          let keeps : Keeps mid after (entries left ++ entries right) =
          subst (λ (t : Tree ℕ). Keeps mid after (entries t ++ entries right)) left_is
          (subst (λ (t : Tree ℕ). Keeps mid after (entries (tree_at mid node.left) ++ entries t)) right_is merges.keeps) in
          Keeps-both old.nodes mid after (entry (sprig node) ∷ []) (entries left ++ entries right) (entries (tree_at old.nodes at)) out keeps
          (λ c lacks.
          let parts = Lacks-around c (entries left) (entry (sprig node)) (entries right) (subst (λ (t : Tree ℕ). Lacks c (entries t)) opens.is lacks) in
          ((parts.1, tt), All-append _ (entries left) (entries right) parts.0 parts.2))

      pub IsThere-out : IsThere (record { nodes = after; top = old.top }) link
      IsThere-out = IsThere-kept old (record { nodes = after; top = old.top }) link at counter _ comes.hangs both (λ c lacks. lacks)

      -- the node went
      pub Prunes-there : (new : Branches) → slab_len mid + 1 ≡ slab_len old.nodes → slab_len after ≡ slab_len mid
          → Hangs (record { nodes = after; top = old.top }) new link rest
          → Prunes old new (tree_at old.nodes old.top) counter
      unfolding left right
      Prunes-there new len len_after hung = record {
        regrows = walked.seeks.prunes new (subst (Regrows old new link (tree_at old.nodes at)) (sym is) grown);
        len = omega (arith, hung.len, len, len_after);
      }
        where
          is : pruned counter (tree_at old.nodes at) ≡ merged left right
          is = ap (pruned counter) opens.is ∙ rw (eq-eqb counter node.counter same)

          holds : Holds after rest (merged left right)
          holds = subst (λ (t : Tree ℕ). Holds after rest (merged t right)) left_is
              (subst (λ (t : Tree ℕ). Holds after rest (merged (tree_at mid node.left) t)) right_is merges.holds)

          grown : Regrows old new link (tree_at old.nodes at) (merged left right)
          grown = Regrows-hung old (record { nodes = after; top = old.top }) new link at rest counter (merged left right) comes both refl holds
              (λ c differs lacks.
              let parts = Lacks-around c (entries left) (entry (sprig node)) (entries right) (subst (λ (t : Tree ℕ). Lacks c (entries t)) opens.is lacks) in
              subst (Lacks c) (sym (merged-entries left right)) (All-append _ (entries left) (entries right) parts.0 parts.2))
              hung
