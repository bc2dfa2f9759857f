-- A tree of nodes is split, and two become one.
use Rattle.std.proofs.Common.{◌≡◌, ◌≢◌, ℕ, ◌<◌, ◌≤◌, [], ◌∷◌, ◌++◌, Option, Some, None, IsSome}
use Rattle.std.proofs.Common.{refl, sym, ap, ◌∙◌, subst, arith, append_assoc, lt-ltb, le-ltb}
use Rattle.slab.specs.Slab.{Slab, get, Updates}
use Rattle.sema_root.specs.declared.nodes.Node.{Node}
use Rattle.sema_root.specs.Entries.{AreRising}
use Rattle.sema_root.specs.Tree.{Sprig, Tree, leaf, fork, entries, size}
use Rattle.sema_root.specs.Reshaping.{merged, split}
use Rattle.sema_root.specs.Linked.{sprig, tree_at, Stands, Holds, Lacks, Keeps, AreMergeable, IsSearchable, Splits, Merges}
use Rattle.sema_root.proofs.Rising.{Rising-append_left, Rising-append_right}
use Rattle.sema_root.proofs.Seeking.{entry, searched-left, searched-right}
use Rattle.sema_root.proofs.Merging.{merged-leaf_right, merged-entries, merged-size}
use Rattle.sema_root.proofs.Splitting.{split-entries, split-size}
use Rattle.sema_root.proofs.Standing.{Listed, Apart, Opens, Stands-kept, Holds-nothing}
use Rattle.sema_root.proofs.Linking.{Around, Around-rising, Lacks-parts, Rehangs-left, Rehangs-right, Apart-one}

-- nothing changes
pub Keeps-same : (nodes : Slab Node) (changed : Listed) → Keeps nodes nodes changed
Keeps-same nodes changed = record { others = λ at node got lacks. got; capacity = refl }

-- below no link stands the empty tree
pub Holds-leaf : (nodes : Slab Node) → Holds nodes None leaf
unfolding Stands
Holds-leaf nodes = record { stands = refl; fits = omega arith }

-- the subtrees of a search tree can be searched, and lack the counter between them
pub record Sides (nodes : Slab Node) (node : Node) : Type 0 where
  pub left : IsSearchable nodes node.left
  pub right : IsSearchable nodes node.right
  pub around : Around node.counter (entries (tree_at nodes node.left)) (entries (tree_at nodes node.right))

pub Sides-open : (nodes : Slab Node) (link : Option ℕ) (node : Node) → Opens nodes node (tree_at nodes link)
    → IsSearchable nodes link → Sides nodes node
Sides-open nodes link node opens searchable =
    let left = tree_at nodes node.left in
    let right = tree_at nodes node.right in
    let rising = subst (λ (t : Tree ℕ). AreRising (entries t)) opens.is searchable.rising in
    record {
      left = record { holds = opens.left; rising = searched-left left (sprig node) right rising };
      right = record { holds = opens.right; rising = searched-right left (sprig node) right rising };
      around = Around-rising (entry (sprig node)) (entries left) (entries right) rising;
    }

-- the node above is still there
pub Keeps-occupied : (old mid : Slab Node) (changed : Listed) (at : ℕ) (node : Node) → Keeps old mid changed → get old at ≡ Some node
    → Lacks node.counter changed → IsSome (get mid at)
Keeps-occupied old mid changed at node keeps got lacks =
    let there : get mid at ≡ Some node = keeps.others at node got lacks in
    rw there refl

-- what a list with an entry in its middle lacks
pub Lacks-around : (c : ℕ) (xs : Listed) (e : ℕ × (ℕ × ℕ)) (ys : Listed) → Lacks c (xs ++ e ∷ ys) → Lacks c xs × (e.0 ≢ c) × Lacks c ys
Lacks-around c xs e ys lacks = let parts = Lacks-parts c xs (e ∷ ys) lacks in (parts.0, parts.1.0, parts.1.1)

module _ (counter : ℕ) (left : Tree ℕ) (node : Sprig ℕ) (right : Tree ℕ) where
  split-left : counter < node.counter → split counter (fork left node right) ≡ ((split counter left).0, fork (split counter left).1 node right)
  split-left less = rw (lt-ltb counter node.counter less)

  split-right : node.counter ≤ counter → split counter (fork left node right) ≡ (fork left node (split counter right).0, (split counter right).1)
  split-right more = rw (le-ltb counter node.counter more)

-- what stands goes on standing
pub Holds-kept : (old new : Slab Node) (changed : Listed) → Keeps old new changed → (link : Option ℕ) (tree : Tree ℕ)
    → Apart (entries tree) changed → Holds old link tree → Holds new link tree
Holds-kept old new changed keeps link tree apart holds = record {
  stands = Stands-kept old new changed keeps link tree apart holds.stands;
  fits = rw keeps.capacity holds.fits;
}

module _ (old mid new : Slab Node) (link : Option ℕ) (at : ℕ) (node : Node) (counter : ℕ) (below above : Option ℕ)
    (got : get old at ≡ Some node) (capacity : new.capacity ≡ mid.capacity)
    (tree : Tree ℕ) (opens : Opens old node tree) (holds : Holds old link tree) (rising : AreRising (entries tree)) where
  pub Splits-left : counter < node.counter → Splits old mid (tree_at old node.left) counter below above
      → ((found : Node) → get mid at ≡ Some found → Updates mid new at (Some (record found { left = above })))
      → Splits old new tree counter below (Some at)
  Splits-left less done updates =
      let left = tree_at old node.left in
      let right = tree_at old node.right in
      let sides = split counter left in
      let whole = fork left (sprig node) right in
      let searched : AreRising (entries whole) = subst (λ (t : Tree ℕ). AreRising (entries t)) opens.is rising in
      let around = Around-rising (entry (sprig node)) (entries left) (entries right) searched in
      let parted = Lacks-parts node.counter (entries sides.0) (entries sides.1) (subst (Lacks node.counter) (sym (split-entries counter left)) around.before) in
      let rehung = Rehangs-left old mid new at node above (entries whole) got capacity (entries left) sides.1 right searched done.keeps
      done.above_holds.stands parted.1 opens.right.stands updates
      (λ c lacks. let parts = Lacks-around c (entries left) (entry (sprig node)) (entries right) lacks in (parts.0, parts.1)) in
      let is : split counter tree ≡ (sides.0, fork sides.1 (sprig node) right) = ap (split counter) opens.is
      ∙ split-left counter left (sprig node) right less in
      let fits : size tree ≤ old.capacity = holds.fits in
      record {
        below_holds = rw is (Holds-kept mid new _ rehung.later below sides.0 (Apart-one (entry (sprig node)) (entries sides.0) parted.0) done.below_holds);
        above_holds = rw is (record { stands = rehung.stands; fits = omega (arith, split-size counter left, ap size opens.is, rehung.keeps.capacity) });
        keeps = rw opens.is rehung.keeps;
      }

  pub Splits-right : node.counter ≤ counter → Splits old mid (tree_at old node.right) counter below above
      → ((found : Node) → get mid at ≡ Some found → Updates mid new at (Some (record found { right = below })))
      → Splits old new tree counter (Some at) above
  Splits-right more done updates =
      let left = tree_at old node.left in
      let right = tree_at old node.right in
      let sides = split counter right in
      let whole = fork left (sprig node) right in
      let searched : AreRising (entries whole) = subst (λ (t : Tree ℕ). AreRising (entries t)) opens.is rising in
      let around = Around-rising (entry (sprig node)) (entries left) (entries right) searched in
      let parted = Lacks-parts node.counter (entries sides.0) (entries sides.1)
      (subst (Lacks node.counter) (sym (split-entries counter right)) around.behind) in
      let rehung = Rehangs-right old mid new at node below (entries whole) got capacity (entries right) sides.0 left searched done.keeps
      done.below_holds.stands parted.0 opens.left.stands updates
      (λ c lacks. let parts = Lacks-around c (entries left) (entry (sprig node)) (entries right) lacks in (parts.2, parts.1)) in
      let is : split counter tree ≡ (fork left (sprig node) sides.0, sides.1) = ap (split counter) opens.is
      ∙ split-right counter left (sprig node) right more in
      let fits : size tree ≤ old.capacity = holds.fits in
      record {
        below_holds = rw is (record { stands = rehung.stands; fits = omega (arith, split-size counter right, ap size opens.is, rehung.keeps.capacity) });
        above_holds = rw is (Holds-kept mid new _ rehung.later above sides.1 (Apart-one (entry (sprig node)) (entries sides.1) parted.1) done.above_holds);
        keeps = rw opens.is rehung.keeps;
      }

-- an empty tree is split into two
pub Splits-leaf : (nodes : Slab Node) (link : Option ℕ) (counter : ℕ) → link ≡ None → Holds nodes link (tree_at nodes link)
    → Splits nodes nodes (tree_at nodes link) counter None None
Splits-leaf nodes link counter none holds =
    let is : tree_at nodes link ≡ leaf = Holds-nothing nodes link (tree_at nodes link) none holds in
    rw is (record { below_holds = Holds-leaf nodes; above_holds = Holds-leaf nodes; keeps = Keeps-same nodes [] })

-- what merges with nothing stays
pub Merges-no_first : (nodes : Slab Node) (first second : Option ℕ) → first ≡ None → AreMergeable nodes first second
    → Merges nodes nodes (tree_at nodes first) (tree_at nodes second) second
Merges-no_first nodes first second none can =
    let is : tree_at nodes first ≡ leaf = Holds-nothing nodes first (tree_at nodes first) none can.first_holds in
    rw is (record { holds = can.second_holds; keeps = Keeps-same nodes (entries (tree_at nodes second)) })

pub Merges-no_second : (nodes : Slab Node) (first second : Option ℕ) → second ≡ None → AreMergeable nodes first second
    → Merges nodes nodes (tree_at nodes first) (tree_at nodes second) first
Merges-no_second nodes first second none can =
    let is : tree_at nodes second ≡ leaf = Holds-nothing nodes second (tree_at nodes second) none can.second_holds in
    let into : merged (tree_at nodes first) (tree_at nodes second) ≡ tree_at nodes first =
    ap (merged (tree_at nodes first)) is ∙ merged-leaf_right (tree_at nodes first) in
    record {
      holds = subst (Holds nodes first) (sym into) can.first_holds;
      keeps = Keeps-same nodes (entries (tree_at nodes first) ++ entries (tree_at nodes second));
    }

-- where the first tree's top comes up, its right side merges with the second tree
module _ (old : Slab Node) (first second : Option ℕ) (node : Node) (can : AreMergeable old first second)
    (opens : Opens old node (tree_at old first)) where
  first_rising : AreRising (entries (tree_at old node.left) ++ entry (sprig node) ∷ (entries (tree_at old node.right) ++ entries (tree_at old second)))
  first_rising =
      let whole = subst (λ (t : Tree ℕ). AreRising (entries t ++ entries (tree_at old second))) opens.is can.rising in
      rw append_assoc at whole

  pub first_around : Around node.counter (entries (tree_at old node.left)) (entries (tree_at old node.right) ++ entries (tree_at old second))
  first_around = Around-rising (entry (sprig node)) (entries (tree_at old node.left)) _ first_rising

  pub AreMergeable-first : AreMergeable old node.right second
  AreMergeable-first = record {
    first_holds = opens.right;
    second_holds = can.second_holds;
    fits = omega (arith, can.fits, ap size opens.is);
    rising = (Rising-append_right (entries (tree_at old node.left)) _ first_rising).1;
  }

  pub Merges-first : (mid new : Slab Node) (at : ℕ) (below : Option ℕ) (lower : Node) → Opens old lower (tree_at old second) → get old at ≡ Some node
      → new.capacity ≡ mid.capacity → node.ticket < lower.ticket → Merges old mid (tree_at old node.right) (tree_at old second) below
      → ((found : Node) → get mid at ≡ Some found → Updates mid new at (Some (record found { right = below })))
      → Merges old new (tree_at old first) (tree_at old second) (Some at)
  Merges-first mid new at below lower lower_opens got capacity less done updates =
      let left = tree_at old node.left in
      let right = tree_at old node.right in
      let other = tree_at old second in
      let whole = entries (tree_at old first) ++ entries other in
      let both = entries right ++ entries other in
      let into = merged right other in
      let rehung = Rehangs-right old mid new at node below whole got capacity both into left first_rising done.keeps
      done.holds.stands (subst (Lacks node.counter) (sym (merged-entries right other)) first_around.behind) opens.left.stands updates
      (λ c lacks.
      let parts = Lacks-around c (entries left) (entry (sprig node)) both
      (subst (Lacks c) (ap (λ (t : Tree ℕ). entries t ++ entries other) opens.is ∙ append_assoc (entries left)
      (entry (sprig node) ∷ entries right) (entries other)) lacks) in
      (parts.2, parts.1)) in
      let is : merged (tree_at old first) other ≡ fork left (sprig node) into =
      ap (λ (t : Tree ℕ). merged t other) opens.is ∙ ap (merged (fork left (sprig node) right)) lower_opens.is
      ∙ rw (lt-ltb node.ticket lower.ticket less) (ap (λ (t : Tree ℕ). fork left (sprig node) (merged right t)) (sym lower_opens.is)) in
      record {
        holds = rw is (record { stands = rehung.stands; fits = omega (arith, merged-size right other, can.fits, ap size opens.is, rehung.keeps.capacity) });
        keeps = rehung.keeps;
      }

-- where the second tree's top comes up, the first tree merges with its left side
module _ (old : Slab Node) (first second : Option ℕ) (node : Node) (can : AreMergeable old first second)
    (opens : Opens old node (tree_at old second)) where
  second_rising : AreRising ((entries (tree_at old first) ++ entries (tree_at old node.left)) ++ entry (sprig node) ∷ entries (tree_at old node.right))
  second_rising =
      let whole = subst (λ (t : Tree ℕ). AreRising (entries (tree_at old first) ++ entries t)) opens.is can.rising in
      rw append_assoc whole

  pub second_around : Around node.counter (entries (tree_at old first) ++ entries (tree_at old node.left)) (entries (tree_at old node.right))
  second_around = Around-rising (entry (sprig node)) _ (entries (tree_at old node.right)) second_rising

  pub AreMergeable-second : AreMergeable old first node.left
  AreMergeable-second = record {
    first_holds = can.first_holds;
    second_holds = opens.left;
    fits = omega (arith, can.fits, ap size opens.is);
    rising = Rising-append_left (entries (tree_at old first) ++ entries (tree_at old node.left)) _ second_rising;
  }

  pub Merges-second : (mid new : Slab Node) (at : ℕ) (below : Option ℕ) (upper : Node) → Opens old upper (tree_at old first) → get old at ≡ Some node
      → new.capacity ≡ mid.capacity → node.ticket ≤ upper.ticket → Merges old mid (tree_at old first) (tree_at old node.left) below
      → ((found : Node) → get mid at ≡ Some found → Updates mid new at (Some (record found { left = below })))
      → Merges old new (tree_at old first) (tree_at old second) (Some at)
  Merges-second mid new at below upper upper_opens got capacity most done updates =
      let left = tree_at old node.left in
      let right = tree_at old node.right in
      let other = tree_at old first in
      let whole = entries other ++ entries (tree_at old second) in
      let both = entries other ++ entries left in
      let into = merged other left in
      let rehung = Rehangs-left old mid new at node below whole got capacity both into right second_rising done.keeps
      done.holds.stands (subst (Lacks node.counter) (sym (merged-entries other left)) second_around.before) opens.right.stands updates
      (λ c lacks.
      let parts = Lacks-around c both (entry (sprig node)) (entries right)
      (subst (Lacks c) (ap (λ (t : Tree ℕ). entries other ++ entries t) opens.is
      ∙ sym (append_assoc (entries other) (entries left) (entry (sprig node) ∷ entries right))) lacks) in
      (parts.0, parts.1)) in
      let is : merged other (tree_at old second) ≡ fork into (sprig node) right =
      ap (merged other) opens.is ∙ ap (λ (t : Tree ℕ). merged t (fork left (sprig node) right)) upper_opens.is
      ∙ rw (le-ltb upper.ticket node.ticket most) (ap (λ (t : Tree ℕ). fork (merged t left) (sprig node) right) (sym upper_opens.is)) in
      record {
        holds = rw is (record { stands = rehung.stands; fits = omega (arith, merged-size other left, can.fits, ap size opens.is, rehung.keeps.capacity) });
        keeps = rehung.keeps;
      }
