-- A walk goes down to one link, and what it changes there changes the trees above by that alone.
use Rattle.std.proofs.Common.{◌≡◌, ◌≢◌, ℕ, ◌≤◌, [], ◌∷◌, Option, Some}
use Rattle.std.proofs.Common.{refl, sym, ap, ◌∙◌, subst, eq-eqb, ne_eqb}
use Rattle.std.proofs.lemmas.Bool.{cases_eq}
use Rattle.std.proofs.Common.{inl, inr}
use Rattle.slab.specs.Slab.{get}
use Rattle.sema_root.specs.declared.nodes.Node.{Node}
use Rattle.sema_root.specs.declared.branches.Branches.{Branches}
use Rattle.sema_root.specs.declared.branches.Link.{Link}
use Rattle.sema_root.specs.declared.branches.Link.TheVariants.{Top, Left, Right}
use Rattle.sema_root.specs.Tree.{Tree, fork, entries, size}
use Rattle.sema_root.specs.Linked.{sprig, tree_at, Stands, Holds, Lacks, Keeps}
use Rattle.sema_root.specs.Hanging.{left_of, right_of, held, relinked, topped, IsThere, Hangs, Regrows, HangsAt, ComesTo}
use Rattle.sema_root.proofs.Seeking.{entry}
use Rattle.sema_root.proofs.Standing.{Listed, Apart, Apart-more, none_lacked, Opens, Opens-holds, Stands-kept}
use Rattle.sema_root.proofs.Linking.{Apart-one}
use Rattle.sema_root.proofs.Parting.{Lacks-around, Sides, Sides-open}

-- a node that its link already leads to the tree is as it was
relinked-same : (branches : Branches) (link : Link) (at : Option ℕ) (counter : ℕ) → HangsAt branches link at counter
    → (key : ℕ) (node : Node) → get branches.nodes key ≡ Some node → relinked link at key node ≡ node
relinked-same branches Top at counter hangs key node got = refl
relinked-same branches (Left above) at counter (top, found, is, apart) key node got =
    elim (cases_eq key above) [
      | inl same ↦
          let one : node ≡ top = (let here : get branches.nodes above ≡ Some node = ap (get branches.nodes) (sym same) ∙ got in cc) in
          rw (eq-eqb key above same) (ap (λ (l : Option ℕ). record node { left = l }) (sym is ∙ ap (λ n. n.left) (sym one)))
      | inr differs ↦ rw (ne_eqb key above differs)
    ]
relinked-same branches (Right above) at counter (top, found, is, apart) key node got =
    elim (cases_eq key above) [
      | inl same ↦
          let one : node ≡ top = (let here : get branches.nodes above ≡ Some node = ap (get branches.nodes) (sym same) ∙ got in cc) in
          rw (eq-eqb key above same) (ap (λ (l : Option ℕ). record node { right = l }) (sym is ∙ ap (λ n. n.right) (sym one)))
      | inr differs ↦ rw (ne_eqb key above differs)
    ]

-- and so is the top
topped-same : (branches : Branches) (link : Link) (at : Option ℕ) (counter : ℕ) → HangsAt branches link at counter
    → (to : Option ℕ) → to ≡ at → topped link to branches.top ≡ branches.top
topped-same branches Top at counter hangs to is = is ∙ sym hangs
topped-same branches (Left above) at counter hangs to is = refl
topped-same branches (Right above) at counter hangs to is = refl

-- what hangs at a link is still there where the node above it did not change
held-kept : (old new : Branches) (link : Link) (at : Option ℕ) (counter : ℕ) (changed : Listed) → HangsAt old link at counter
    → Keeps old.nodes new.nodes changed
    → ((c : ℕ) → Lacks c (entries (tree_at old.nodes at)) → Lacks c changed)
    → new.top ≡ old.top → held new link ≡ at
held-kept old new Top at counter changed hangs keeps covers top = top ∙ hangs
held-kept old new (Left above) at counter changed (node, got, is, apart) keeps covers top =
    ap left_of (keeps.others above node got (covers node.counter apart.lacks)) ∙ is
held-kept old new (Right above) at counter changed (node, got, is, apart) keeps covers top =
    ap right_of (keeps.others above node got (covers node.counter apart.lacks)) ∙ is

-- the node above a link is there
pub IsThere-kept : (old new : Branches) (link : Link) (at : Option ℕ) (counter : ℕ) (changed : Listed) → HangsAt old link at counter
    → Keeps old.nodes new.nodes changed
    → ((c : ℕ) → Lacks c (entries (tree_at old.nodes at)) → Lacks c changed)
    → IsThere new link
IsThere-kept old new Top at counter changed hangs keeps covers = tt
IsThere-kept old new (Left above) at counter changed (node, got, is, apart) keeps covers =
    let there : get new.nodes above ≡ Some node = keeps.others above node got (covers node.counter apart.lacks) in
    rw there refl
IsThere-kept old new (Right above) at counter changed (node, got, is, apart) keeps covers =
    let there : get new.nodes above ≡ Some node = keeps.others above node got (covers node.counter apart.lacks) in
    rw there refl

-- a tree that lacks the counter above a link stands after another was hung there
Stands-hung : (mid new : Branches) (link : Link) (to : Option ℕ) → Hangs mid new link to
    → (old : Branches) (at : Option ℕ) (counter : ℕ) (changed : Listed) → HangsAt old link at counter → Keeps old.nodes mid.nodes changed
    → ((c : ℕ) → Lacks c (entries (tree_at old.nodes at)) → Lacks c changed)
    → (start : Option ℕ) (tree : Tree ℕ) → ((c : ℕ) → c ≢ counter → Lacks c (entries (tree_at old.nodes at)) → Lacks c (entries tree))
    → Stands mid.nodes start tree → Stands new.nodes start tree
Stands-hung mid new Top to hung old at counter changed hangs keeps covers start tree lacks stands =
    Stands-kept mid.nodes new.nodes [] (record { others = λ key node got none. hung.nodes key node got; capacity = hung.capacity })
    start tree (none_lacked (entries tree)) stands
Stands-hung mid new (Left above) to hung old at counter changed (top, got, is, apart) keeps covers start tree lacks stands =
    Stands-kept mid.nodes new.nodes (entry (sprig top) ∷ []) (record {
      others = λ key node found differs.
          let there : get mid.nodes above ≡ Some top = keeps.others above top got (covers top.counter apart.lacks) in
          let other : key ≢ above = λ same. (
          let here : get mid.nodes above ≡ Some node = ap (get mid.nodes) (sym same) ∙ found in
          let one : node ≡ top = cc in
          differs.0 (sym (ap (λ n. n.counter) one))) in
          hung.nodes key node found ∙ rw (ne_eqb key above other);
      capacity = hung.capacity;
    })
    start tree (Apart-one (entry (sprig top)) (entries tree) (lacks top.counter apart.apart apart.lacks)) stands
Stands-hung mid new (Right above) to hung old at counter changed (top, got, is, apart) keeps covers start tree lacks stands =
    Stands-kept mid.nodes new.nodes (entry (sprig top) ∷ []) (record {
      others = λ key node found differs.
          let there : get mid.nodes above ≡ Some top = keeps.others above top got (covers top.counter apart.lacks) in
          let other : key ≢ above = λ same. (
          let here : get mid.nodes above ≡ Some node = ap (get mid.nodes) (sym same) ∙ found in
          let one : node ≡ top = cc in
          differs.0 (sym (ap (λ n. n.counter) one))) in
          hung.nodes key node found ∙ rw (ne_eqb key above other);
      capacity = hung.capacity;
    })
    start tree (Apart-one (entry (sprig top)) (entries tree) (lacks top.counter apart.apart apart.lacks)) stands

-- the walk ends: nodes of the tree at the link changed, and what became of it is hung there
pub Regrows-hung : (old mid new : Branches) (link : Link) (at to : Option ℕ) (counter : ℕ) (tree : Tree ℕ) → ComesTo old link at counter
    → Keeps old.nodes mid.nodes (entries (tree_at old.nodes at)) → mid.top ≡ old.top → Holds mid.nodes to tree
    → ((c : ℕ) → c ≢ counter → Lacks c (entries (tree_at old.nodes at)) → Lacks c (entries tree))
    → Hangs mid new link to → Regrows old new link (tree_at old.nodes at) tree
Regrows-hung old mid new link at to counter tree comes keeps top holds lacks hung =
    let was = entries (tree_at old.nodes at) in
    let there = IsThere-kept old mid link at counter was comes.hangs keeps (λ c missing. missing) in
    let is = hung.there there in
    record {
      holds = rw is (record {
        stands = Stands-hung mid new link to hung old at counter was comes.hangs keeps (λ c missing. missing) to tree lacks holds.stands;
        fits = rw hung.capacity holds.fits;
      });
      others = λ key node got missing. rw is (hung.nodes key node (keeps.others key node got missing));
      top = rw is (hung.top ∙ ap (topped link to) top);
      capacity = hung.capacity ∙ keeps.capacity;
    }

-- a walk goes on down one side of a node
module _ (old : Branches) (link : Link) (at : Option ℕ) (key : ℕ) (node : Node) (counter : ℕ) (comes : ComesTo old link at counter)
    (leads : at ≡ Some key) (got : get old.nodes key ≡ Some node) where
  opens : Opens old.nodes node (tree_at old.nodes at)
  opens = Opens-holds old.nodes at key node (tree_at old.nodes at) leads got comes.searchable.holds

  sides : Sides old.nodes node
  sides = Sides-open old.nodes at node opens comes.searchable

  pub ComesTo-left : node.counter ≢ counter → ComesTo old (Left key) node.left counter
  ComesTo-left apart = record {
    searchable = sides.left;
    hangs = (node, got, refl, record { apart = apart; lacks = sides.around.before });
  }

  pub ComesTo-right : node.counter ≢ counter → ComesTo old (Right key) node.right counter
  ComesTo-right apart = record {
    searchable = sides.right;
    hangs = (node, got, refl, record { apart = apart; lacks = sides.around.behind });
  }

  -- a counter that the tree lacks is on neither side, nor the node's
  lacks_parts : (c : ℕ) → Lacks c (entries (tree_at old.nodes at))
      → Lacks c (entries (tree_at old.nodes node.left)) × (node.counter ≢ c) × Lacks c (entries (tree_at old.nodes node.right))
  lacks_parts c lacks =
      Lacks-around c (entries (tree_at old.nodes node.left)) (entry (sprig node)) (entries (tree_at old.nodes node.right))
      (subst (λ (t : Tree ℕ). Lacks c (entries t)) opens.is lacks)

  -- and back up from there
  module _ (new : Branches) (grown : Tree ℕ) where
    pub Regrows-left : Regrows old new (Left key) (tree_at old.nodes node.left) grown
        → size (fork grown (sprig node) (tree_at old.nodes node.right)) ≤ old.nodes.capacity
        → Regrows old new link (tree_at old.nodes at) (fork grown (sprig node) (tree_at old.nodes node.right))
    unfolding Stands
    Regrows-left below fits =
        let left = entries (tree_at old.nodes node.left) in
        let right = tree_at old.nodes node.right in
        let changed : Listed = entry (sprig node) ∷ left in
        let keeps : Keeps old.nodes new.nodes changed = record {
          others = λ other found is lacks.
              let differs : other ≢ key = λ same. (
              let here : get old.nodes key ≡ Some found = ap (get old.nodes) (sym same) ∙ is in
              let one : found ≡ node = cc in
              lacks.0 (sym (ap (λ n. n.counter) one))) in
              below.others other found is lacks.1 ∙ rw (ne_eqb other key differs);
          capacity = below.capacity;
        } in
        let covers : (c : ℕ) → Lacks c (entries (tree_at old.nodes at)) → Lacks c changed =
        λ c lacks. (let parts = lacks_parts c lacks in (parts.1, parts.0)) in
        let still : held new link ≡ at = held-kept old new link at counter changed comes.hangs keeps covers below.top in
        let here : get new.nodes key ≡ Some (record node { left = held new (Left key) }) =
        below.others key node got sides.around.before ∙ rw (eq-eqb key key refl) in
        let apart : Apart (entries right) changed = Apart-more (entry (sprig node)) left (entries right) sides.around.behind sides.around.apart_back in
        record {
          holds = rw (still, leads) (record {
            stands = (
              key,
              record node { left = held new (Left key) },
              refl,
              here,
              refl,
              below.holds.stands,
              Stands-kept old.nodes new.nodes changed keeps node.right right apart sides.right.holds.stands,
            );
            fits = rw below.capacity fits;
          });
          others = λ other found is lacks.
              rw (still, relinked-same old link at counter comes.hangs other found is) (keeps.others other found is (covers found.counter lacks));
          top = below.top ∙ sym (topped-same old link at counter comes.hangs (held new link) still);
          capacity = below.capacity;
        }

    pub Regrows-right : Regrows old new (Right key) (tree_at old.nodes node.right) grown
        → size (fork (tree_at old.nodes node.left) (sprig node) grown) ≤ old.nodes.capacity
        → Regrows old new link (tree_at old.nodes at) (fork (tree_at old.nodes node.left) (sprig node) grown)
    unfolding Stands
    Regrows-right below fits =
        let left = tree_at old.nodes node.left in
        let right = entries (tree_at old.nodes node.right) in
        let changed : Listed = entry (sprig node) ∷ right in
        let keeps : Keeps old.nodes new.nodes changed = record {
          others = λ other found is lacks.
              let differs : other ≢ key = λ same. (
              let here : get old.nodes key ≡ Some found = ap (get old.nodes) (sym same) ∙ is in
              let one : found ≡ node = cc in
              lacks.0 (sym (ap (λ n. n.counter) one))) in
              below.others other found is lacks.1 ∙ rw (ne_eqb other key differs);
          capacity = below.capacity;
        } in
        let covers : (c : ℕ) → Lacks c (entries (tree_at old.nodes at)) → Lacks c changed =
        λ c lacks. (let parts = lacks_parts c lacks in (parts.1, parts.2)) in
        let still : held new link ≡ at = held-kept old new link at counter changed comes.hangs keeps covers below.top in
        let here : get new.nodes key ≡ Some (record node { right = held new (Right key) }) =
        below.others key node got sides.around.behind ∙ rw (eq-eqb key key refl) in
        let apart : Apart (entries left) changed = Apart-more (entry (sprig node)) right (entries left) sides.around.before sides.around.apart in
        record {
          holds = rw (still, leads) (record {
            stands = (
              key,
              record node { right = held new (Right key) },
              refl,
              here,
              refl,
              Stands-kept old.nodes new.nodes changed keeps node.left left apart sides.left.holds.stands,
              below.holds.stands,
            );
            fits = rw below.capacity fits;
          });
          others = λ other found is lacks.
              rw (still, relinked-same old link at counter comes.hangs other found is) (keeps.others other found is (covers found.counter lacks));
          top = below.top ∙ sym (topped-same old link at counter comes.hangs (held new link) still);
          capacity = below.capacity;
        }
