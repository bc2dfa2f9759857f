-- A tree of nodes stands below its link, and goes on standing there while other counters' nodes change.
use Rattle.std.proofs.Common.{◌≡◌, ◌↔◌, ℕ, zero, suc, ◌<◌, ◌≤◌, List, [], ◌∷◌, ◌++◌, Option, Some, None, IsSome, IsTrue}
use Rattle.std.proofs.Common.{is_some}
use Rattle.std.proofs.Common.{refl, sym, ap, ◌∙◌, subst, arith}
use Rattle.std.specs.List.{AllByRecursion}
use Rattle.std.proofs.Common.{Bool, true, false, not, eqb, nat_cmp, is_lt}
use Rattle.std.proofs.lemmas.Bool.Decides.{nat_tests}
use Rattle.slab.specs.Slab.{Slab, get}
use Rattle.sema_root.specs.declared.nodes.Node.{Node}
use Rattle.sema_root.specs.Entries.{AllBelow, AllAbove, AreRising}
use Rattle.sema_root.specs.Tree.{Tree, leaf, fork, entries, size, sought, top_value}
use Rattle.sema_root.specs.Linked.{sprig, grown_from, grown, tree_at, Stands, Holds, Lacks, Keeps}
use Rattle.sema_root.proofs.Rising.{All-append_left, All-append_right, All-weaken}
use Rattle.sema_root.proofs.Seeking.{sought-here, sought-left, sought-right}

-- a list of entries: counters, each with its ticket and its list
abbrev pub Listed : Type 0
Listed = List (ℕ × (ℕ × ℕ))

-- no counter has an entry in both lists
abbrev pub Apart : Listed → Listed → Type 0
Apart xs ys = AllByRecursion (λ entry. Lacks entry.0 ys) xs

pub Lacks-above : (c : ℕ) (xs : Listed) → AllAbove c xs → Lacks c xs
Lacks-above c = All-weaken _ _ (λ x above same. omega arith)

pub Lacks-below : (c : ℕ) (xs : Listed) → AllBelow c xs → Lacks c xs
Lacks-below c = All-weaken _ _ (λ x below same. omega arith)

-- of a rising list, what stands before lacks each counter that stands behind
pub Apart-rising : (xs ys : Listed) → AreRising (xs ++ ys) → Apart xs ys
Apart-rising [] ys rising = tt
Apart-rising (x ∷ xs) ys rising = (Lacks-above x.0 ys (All-append_right _ xs ys rising.0), Apart-rising xs ys rising.1)

pub none_lacked : (xs : Listed) → Apart xs []
none_lacked [] = tt
none_lacked (x ∷ xs) = (tt, none_lacked xs)

pub Apart-more : (y : ℕ × (ℕ × ℕ)) (ys xs : Listed) → Lacks y.0 xs → Apart xs ys → Apart xs (y ∷ ys)
Apart-more y ys [] lacks apart = tt
Apart-more y ys (x ∷ xs) lacks apart = ((λ same. lacks.0 (sym same), apart.0), Apart-more y ys xs lacks.1 apart.1)

pub Apart-sym : (xs ys : Listed) → Apart xs ys → Apart ys xs
Apart-sym [] ys apart = none_lacked ys
Apart-sym (x ∷ xs) ys apart = Apart-more x xs ys apart.0 (Apart-sym xs ys apart.1)

-- a tree stays where none of its counters' nodes change
pub Stands-kept : (old new : Slab Node) (changed : Listed) → Keeps old new changed → (link : Option ℕ) (tree : Tree ℕ)
    → Apart (entries tree) changed → Stands old link tree → Stands new link tree
unfolding Stands
Stands-kept old new changed keeps link leaf apart stands = stands
Stands-kept old new changed keeps link (fork left top right) apart (at, node, is, got, same, on_left, on_right) =
    let behind = All-append_right _ (entries left) _ apart in (
      at,
      node,
      is,
      keeps.others at node got (subst (λ (c : ℕ). Lacks c changed) (sym (ap (λ s. s.counter) same)) behind.0),
      same,
      Stands-kept old new changed keeps node.left left (All-append_left _ (entries left) _ apart) on_left,
      Stands-kept old new changed keeps node.right right behind.1 on_right,
    )

-- with enough levels the tree that stands there grows
grown-is : (nodes : Slab Node) (levels : ℕ) (link : Option ℕ) (tree : Tree ℕ) → Stands nodes link tree → size tree ≤ levels
    → grown levels nodes link ≡ tree
unfolding Stands
grown-is nodes zero link leaf stands fits = refl
grown-is nodes (suc levels) link leaf stands fits = ap (grown (suc levels) nodes) stands
grown-is nodes zero link (fork left top right) stands fits = absurd (omega arith)
grown-is nodes (suc levels) link (fork left top right) (at, node, is, got, same, on_left, on_right) fits =
    let by_left = grown-is nodes levels node.left left on_left (omega arith) in
    let by_right = grown-is nodes levels node.right right on_right (omega arith) in
    ap (grown (suc levels) nodes) is ∙ ap (grown_from (grown levels nodes)) got ∙ cc

-- the tree that a slab holds below a link is the one that is read there
pub tree_at-is : (nodes : Slab Node) (link : Option ℕ) (tree : Tree ℕ) → Holds nodes link tree → tree_at nodes link ≡ tree
unfolding tree_at
tree_at-is nodes link tree holds = grown-is nodes nodes.capacity link tree holds.stands holds.fits

pub Holds-read : (nodes : Slab Node) (link : Option ℕ) (tree : Tree ℕ) → Holds nodes link tree → Holds nodes link (tree_at nodes link)
Holds-read nodes link tree holds = subst (Holds nodes link) (sym (tree_at-is nodes link tree holds)) holds

-- the node at a link that stands is the top of its tree
pub record Opens (nodes : Slab Node) (node : Node) (tree : Tree ℕ) : Type 0 where
  pub is : tree ≡ fork (tree_at nodes node.left) (sprig node) (tree_at nodes node.right)
  pub left : Holds nodes node.left (tree_at nodes node.left)
  pub right : Holds nodes node.right (tree_at nodes node.right)

pub Opens-holds : (nodes : Slab Node) (link : Option ℕ) (at : ℕ) (node : Node) (tree : Tree ℕ) → link ≡ Some at
    → get nodes at ≡ Some node → Holds nodes link tree → Opens nodes node tree
unfolding Stands
Opens-holds nodes link at node tree leads got holds = by tree holds.stands holds.fits
  where
    by : (tree : Tree ℕ) → Stands nodes link tree → size tree ≤ nodes.capacity → Opens nodes node tree
    by leaf stands fits = cc
    by (fork left top right) (there, other, is, found, same, on_left, on_right) fits =
        let one : node ≡ other = cc in
        let left_link : node.left ≡ other.left = ap (λ n. n.left) one in
        let right_link : node.right ≡ other.right = ap (λ n. n.right) one in
        let left_holds : Holds nodes node.left left = record { stands = rw left_link on_left; fits = omega arith } in
        let right_holds : Holds nodes node.right right = record { stands = rw right_link on_right; fits = omega arith } in
        let left_is = tree_at-is nodes node.left left left_holds in
        let right_is = tree_at-is nodes node.right right right_holds in
        record {
          is = cc;
          left = Holds-read nodes node.left left left_holds;
          right = Holds-read nodes node.right right right_holds;
        }

-- a link that stands leads to a node
pub Holds-occupied : (nodes : Slab Node) (link : Option ℕ) (at : ℕ) (tree : Tree ℕ) → link ≡ Some at → Holds nodes link tree
    → IsSome (get nodes at)
unfolding Stands
Holds-occupied nodes link at tree leads holds = by tree holds.stands
  where
    by : (tree : Tree ℕ) → Stands nodes link tree → IsSome (get nodes at)
    by leaf stands = cc
    by (fork left top right) (there, other, is, found, same, on_left, on_right) =
        let here : get nodes at ≡ Some other = cc in
        rw here refl

-- below no link stands no tree
pub Holds-nothing : (nodes : Slab Node) (link : Option ℕ) (tree : Tree ℕ) → link ≡ None → Holds nodes link tree → tree ≡ leaf
unfolding Stands
Holds-nothing nodes link tree none holds = by tree holds.stands
  where
    by : (tree : Tree ℕ) → Stands nodes link tree → tree ≡ leaf
    by leaf stands = refl
    by (fork left top right) (there, other, is, found, same, on_left, on_right) = cc

-- and below a link stands some tree
pub Holds-nothing_iff : (nodes : Slab Node) (link : Option ℕ) (none : Bool) (tree : Tree ℕ) → is_some link ≡ not none
    → Holds nodes link tree → IsTrue none ↔ (tree ≡ leaf)
unfolding Stands
Holds-nothing_iff nodes None true tree is holds = (λ none. Holds-nothing nodes None tree refl holds, λ empty. refl)
Holds-nothing_iff nodes None false tree is holds = absurd (cc)
Holds-nothing_iff nodes (Some at) true tree is holds = absurd (cc)
Holds-nothing_iff nodes (Some at) false tree is holds =
    (λ none. absurd (cc), λ empty. let wrong : Some at ≡ None = subst (Stands nodes (Some at)) empty holds.stands in absurd (cc))

-- what the topmost node holds
pub top_value-none : (nodes : Slab Node) (link : Option ℕ) (tree : Tree ℕ) → link ≡ None → Holds nodes link tree → top_value tree ≡ None
top_value-none nodes link tree none holds = ap top_value (Holds-nothing nodes link tree none holds)

pub top_value-some : (nodes : Slab Node) (link : Option ℕ) (at : ℕ) (node : Node) (tree : Tree ℕ) → link ≡ Some at
    → get nodes at ≡ Some node → Holds nodes link tree → top_value tree ≡ Some node.list
top_value-some nodes link at node tree leads got holds = ap top_value (Opens-holds nodes link at node tree leads got holds).is

-- a search from a node that stands goes on below it
module _ (nodes : Slab Node) (node : Node) (tree : Tree ℕ) (opens : Opens nodes node tree) (counter : ℕ) where
  pub sought-open_here : counter ≡ node.counter → sought counter tree ≡ tree
  sought-open_here same = rw opens.is (sought-here counter _ (sprig node) _ same)

  pub sought-open_left : counter < node.counter → sought counter tree ≡ sought counter (tree_at nodes node.left)
  sought-open_left less = rw opens.is (sought-left counter _ (sprig node) _ less)

  pub sought-open_right : node.counter < counter → sought counter tree ≡ sought counter (tree_at nodes node.right)
  sought-open_right more = rw opens.is (sought-right counter _ (sprig node) _ more)

  -- the trees below it are smaller
  pub smaller_left : size (tree_at nodes node.left) < size tree
  smaller_left = rw opens.is (omega arith)

  pub smaller_right : size (tree_at nodes node.right) < size tree
  smaller_right = rw opens.is (omega arith)

-- what the tests of two counters say
pub below_tested : (x y : ℕ) → true ≡ is_lt (nat_cmp x y) → x < y
below_tested x y test = grind (arith, nat_tests)

pub above_tested : (x y : ℕ) → false ≡ eqb x y → false ≡ is_lt (nat_cmp x y) → y < x
above_tested x y differs test = grind (arith, nat_tests)

pub reached_tested : (x y : ℕ) → false ≡ is_lt (nat_cmp x y) → y ≤ x
reached_tested x y test = grind (arith, nat_tests)

pub same_tested : (x y : ℕ) → true ≡ eqb x y → x ≡ y
same_tested x y test = grind (arith, nat_tests)
