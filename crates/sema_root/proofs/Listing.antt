-- A walk for a counter's list finds it or enters it.
use Rattle.std.proofs.Common.{◌≡◌, ◌≢◌, inl, inr, ℕ, suc, ◌+◌, ◌<◌, ◌≤◌, [], ◌∷◌, ◌++◌, Option, Some, None, MatchOption}
use Rattle.std.proofs.Common.{true}
use Rattle.std.proofs.Common.{refl, sym, ap, ◌∙◌, subst, arith, ltb, ltb-true, ltb-false}
use Rattle.std.proofs.lemmas.Bool.{cond_both}
use Rattle.slab.specs.Slab.{get, slab_len}
use Rattle.waiters.specs.Lists.{Lists}
use Rattle.sema_root.specs.declared.nodes.Node.{Node}
use Rattle.sema_root.specs.declared.branches.Branches.{Branches}
use Rattle.sema_root.specs.declared.listed.Listed.{Listed as Answer}
use Rattle.sema_root.specs.declared.branches.Link.{Link}
use Rattle.sema_root.specs.declared.branches.Link.TheVariants.{Left, Right}
use Rattle.sema_root.specs.Tree.{Sprig, Tree, leaf, fork, entries, size, sought, top_value, IsAtMost}
use Rattle.sema_root.specs.Reshaping.{split, grafted}
use Rattle.sema_root.specs.Linked.{sprig, tree_at, Stands, Holds, Lacks, Keeps, Splits}
use Rattle.sema_root.specs.Hanging.{toward, HangsNew, Regrows, ComesTo, Enters, IsFoundInBranches, EndsAt, SeeksTo}
use Rattle.sema_root.specs.Planted.{Opens as Opened}
use Rattle.sema_root.proofs.Rising.{All-append}
use Rattle.sema_root.proofs.Seeking.{entry, sought-here}
use Rattle.sema_root.proofs.Splitting.{split-entries, split-size}
use Rattle.sema_root.proofs.Grafting.{grafted-top}
use Rattle.sema_root.proofs.Parting.{Splits-leaf}
use Rattle.sema_root.proofs.Standing.{Holds-nothing, none_lacked, Opens, Opens-holds, Stands-kept, sought-open_left, sought-open_right, smaller_left}
use Rattle.sema_root.proofs.Standing.{smaller_right}
use Rattle.sema_root.proofs.Linking.{Lacks-parts, Keeps-both}
use Rattle.sema_root.proofs.Hanging.{ComesTo-left, ComesTo-right, Regrows-left, Regrows-right, Regrows-hung}

-- a match on an option of which the variant is known
pub MatchOption-none : {A : Type 0} (o : Option A) (P : Type 0) (Q : A → Type 0) → o ≡ None → P → MatchOption o P Q
MatchOption-none o P Q is holds = rw is holds

-- what holds down either side of a node holds down the one toward a counter
module _ (counter key : ℕ) (node : Node) (P : Link × Option ℕ → Type 0) where
  pub toward-by : (counter < node.counter → P (Left key, node.left)) → (node.counter ≤ counter → P (Right key, node.right))
      → P (toward counter key node)
  toward-by on_left on_right =
      cond_both {A = Link × Option ℕ} (ltb counter node.counter) _ _ P
      (λ less. on_left (ltb-true counter node.counter less)) (λ more. on_right (ltb-false counter node.counter more))

-- a walk for a counter goes on down a node that is not the counter's
module _ (old : Branches) (link : Link) (at : Option ℕ) (key : ℕ) (node : Node) (counter : ℕ) (comes : ComesTo old link at counter)
    (leads : at ≡ Some key) (got : get old.nodes key ≡ Some node) (apart : counter ≢ node.counter) where
  opens : Opens old.nodes node (tree_at old.nodes at)
  opens = Opens-holds old.nodes at key node (tree_at old.nodes at) leads got comes.searchable.holds

  -- to a smaller tree
  pub smaller_toward : size (tree_at old.nodes (toward counter key node).1) < size (tree_at old.nodes at)
  smaller_toward = toward-by counter key node (λ r. size (tree_at old.nodes r.1) < size (tree_at old.nodes at))
      (λ less. smaller_left old.nodes node (tree_at old.nodes at) opens counter) (λ more. smaller_right old.nodes node (tree_at old.nodes at) opens counter)

  pub ComesTo-toward : ComesTo old (toward counter key node).0 (toward counter key node).1 counter
  ComesTo-toward = toward-by counter key node (λ r. ComesTo old r.0 r.1 counter)
      (λ less. ComesTo-left old link at key node counter comes leads got (λ same. apart (sym same)))
      (λ more. ComesTo-right old link at key node counter comes leads got (λ same. apart (sym same)))

  -- where the counter is sought
  pub sought-toward : sought counter (tree_at old.nodes at) ≡ sought counter (tree_at old.nodes (toward counter key node).1)
  sought-toward = toward-by counter key node (λ r. sought counter (tree_at old.nodes at) ≡ sought counter (tree_at old.nodes r.1))
      (λ less. sought-open_left old.nodes node (tree_at old.nodes at) opens counter less)
      (λ more. sought-open_right old.nodes node (tree_at old.nodes at) opens counter (omega arith))

  -- and comes back up from there
  module _ (new : Branches) (f : Tree ℕ → Tree ℕ)
      (is_left : counter < node.counter → (left right : Tree ℕ) → f (fork left (sprig node) right) ≡ fork (f left) (sprig node) right)
      (is_right : node.counter < counter → (left right : Tree ℕ) → f (fork left (sprig node) right) ≡ fork left (sprig node) (f right))
      (fits : size (f (tree_at old.nodes at)) ≤ old.nodes.capacity) where
    pub Regrows-toward : Regrows old new (toward counter key node).0 (tree_at old.nodes (toward counter key node).1)
        (f (tree_at old.nodes (toward counter key node).1))
        → Regrows old new link (tree_at old.nodes at) (f (tree_at old.nodes at))
    Regrows-toward = toward-by counter key node
        (λ r. Regrows old new r.0 (tree_at old.nodes r.1) (f (tree_at old.nodes r.1))
        → Regrows old new link (tree_at old.nodes at) (f (tree_at old.nodes at)))
        (λ less below.
        let left = tree_at old.nodes node.left in
        let right = tree_at old.nodes node.right in
        let is : f (tree_at old.nodes at) ≡ fork (f left) (sprig node) right = ap f opens.is ∙ is_left less left right in
        rw is (Regrows-left old link at key node counter comes leads got new (f left) below (subst (λ (t : Tree ℕ). size t ≤ old.nodes.capacity) is fits)))
        (λ more below.
        let left = tree_at old.nodes node.left in
        let right = tree_at old.nodes node.right in
        let is : f (tree_at old.nodes at) ≡ fork left (sprig node) (f right) = ap f opens.is ∙ is_right (omega arith) left right in
        rw is (Regrows-right old link at key node counter comes leads got new (f right) below
        (subst (λ (t : Tree ℕ). size t ≤ old.nodes.capacity) is fits)))

-- a new node is hung at the link, over two trees that the tree there came apart into
pub Regrows-new : (old mid new : Branches) (link : Link) (at left right : Option ℕ) (sprout : Sprig ℕ) (on_left on_right : Tree ℕ)
    → ComesTo old link at sprout.counter
    → Keeps old.nodes mid.nodes (entries (tree_at old.nodes at)) → mid.top ≡ old.top
    → Holds mid.nodes left on_left → Holds mid.nodes right on_right
    → HangsNew mid new link left right sprout
    → entries on_left ++ entries on_right ≡ entries (tree_at old.nodes at)
    → size on_left + size on_right < old.nodes.capacity
    → Regrows old new link (tree_at old.nodes at) (fork on_left sprout on_right)
unfolding Stands
Regrows-new old mid new link at left right sprout on_left on_right comes keeps top left_holds right_holds hangs parts fits =
    let was = entries (tree_at old.nodes at) in
    let added : Keeps mid.nodes hangs.mid.nodes [] = record {
      others = λ key node got lacks.
          let other : key ≢ hangs.key = λ same.
          (let here : get mid.nodes hangs.key ≡ Some node = ap (get mid.nodes) (sym same) ∙ got in cc (hangs.vacant, here)) in
          hangs.updates.others key other ∙ got;
      capacity = hangs.same_capacity;
    } in
    let both : Keeps old.nodes hangs.mid.nodes was = Keeps-both old.nodes mid.nodes hangs.mid.nodes was [] was keeps added (λ c lacks. (lacks, tt)) in
    let whole : Holds hangs.mid.nodes (Some hangs.key) (fork on_left sprout on_right) = record {
      stands = (
        hangs.key,
        hangs.node,
        refl,
        hangs.updates.changed,
        hangs.is,
        Stands-kept mid.nodes hangs.mid.nodes [] added hangs.node.left on_left (none_lacked (entries on_left)) (rw hangs.on_left left_holds.stands),
        Stands-kept mid.nodes hangs.mid.nodes [] added hangs.node.right on_right (none_lacked (entries on_right)) (rw hangs.on_right right_holds.stands),
      );
      fits = omega (arith, hangs.same_capacity, keeps.capacity);
    } in
    Regrows-hung old hangs.mid new link at (Some hangs.key) sprout.counter (fork on_left sprout on_right) comes both (hangs.same_top ∙ top) whole
    (λ c differs lacks.
    let two = Lacks-parts c (entries on_left) (entries on_right) (subst (Lacks c) (sym parts) lacks) in
    All-append _ (entries on_left) (entry sprout ∷ entries on_right) two.0 ((λ same. differs (sym same)), two.1))
    hangs.hangs

-- the node with a new list, of the counter and its ticket
abbrev pub sprout : ℕ → ℕ → Answer → Sprig ℕ
sprout counter ticket answer = record { counter = counter; ticket = ticket; value = answer.list }

-- where the walk has ended and the counter is not found, all tickets are larger
larger_left : (counter ticket : ℕ) (tree : Tree ℕ) → EndsAt counter ticket tree
    → top_value (sought counter tree) ≡ None → IsAtMost (suc ticket) tree
larger_left counter ticket leaf ends none = tt
larger_left counter ticket (fork left node right) (inl same) none =
    let here : top_value (sought counter (fork left node right)) ≡ Some node.value = ap top_value (sought-here counter left node right (sym same)) in
    cc
larger_left counter ticket (fork left node right) (inr larger) none = larger.0

-- the walk has ended at the link
module _ (old : Branches) (counter ticket : ℕ) (link : Link) (at : Option ℕ) (walked : SeeksTo old counter ticket link at)
    (old_lists new_lists : Lists) (answer : Answer) where
  -- and found nothing: a node with a new list is hung there
  pub Enters-there : (mid new : Branches) (below above : Option ℕ) → size (tree_at old.nodes old.top) < old.nodes.capacity
      → None ≡ top_value (sought counter (tree_at old.nodes at))
      → Splits old.nodes mid.nodes (tree_at old.nodes at) counter below above → mid.top ≡ old.top → slab_len mid.nodes ≡ slab_len old.nodes
      → answer.is_new ≡ true → HangsNew mid new link below above (sprout counter ticket answer) → Opened old_lists new_lists answer.list
      → MatchOption (top_value (sought counter (tree_at old.nodes old.top)))
      (Enters old new (tree_at old.nodes old.top) counter ticket old_lists new_lists answer) (IsFoundInBranches old new old_lists new_lists answer)
  Enters-there mid new below above fits missing splits top len is_new hangs opened =
      let tree = tree_at old.nodes at in
      let new_node = sprout counter ticket answer in
      let larger : IsAtMost (suc ticket) tree = larger_left counter ticket tree walked.ends (sym missing) in
      let is : grafted new_node tree ≡ fork (split counter tree).0 new_node (split counter tree).1 = grafted-top new_node tree larger in
      let grown = Regrows-new old mid new link at below above new_node (split counter tree).0 (split counter tree).1
      walked.seeks.comes splits.keeps top splits.below_holds splits.above_holds hangs (split-entries counter tree)
      (omega (arith, split-size counter tree, walked.seeks.within)) in
      MatchOption-none _ _ _ (ap top_value walked.seeks.same ∙ sym missing) (record {
        is_new = is_new;
        regrows = walked.seeks.grafts new answer.list fits (subst (Regrows old new link tree) (sym is) grown);
        len = hangs.len ∙ ap (λ n. n + 1) len;
        opens = opened;
      })

  -- where it ended at nothing, no tree is split under the node
  pub Enters-end : (new : Branches) → at ≡ None → size (tree_at old.nodes old.top) < old.nodes.capacity
      → answer.is_new ≡ true → HangsNew old new link None None (sprout counter ticket answer) → Opened old_lists new_lists answer.list
      → MatchOption (top_value (sought counter (tree_at old.nodes old.top)))
      (Enters old new (tree_at old.nodes old.top) counter ticket old_lists new_lists answer) (IsFoundInBranches old new old_lists new_lists answer)
  Enters-end new none fits =
      let holds = walked.seeks.comes.searchable.holds in
      let is : tree_at old.nodes at ≡ leaf = Holds-nothing old.nodes at (tree_at old.nodes at) none holds in
      Enters-there old new None None fits (sym (ap (λ (t : Tree ℕ). top_value (sought counter t)) is))
      (Splits-leaf old.nodes at counter none holds) refl refl
