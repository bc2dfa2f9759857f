-- A tree's code, as a `Model` needs one: the nodes from the root down, left before right, with a mark for
-- each leaf.
use mathlib.Core.Path.{refl, sym, ap, ◌∙◌}
use mathlib.Core.List.{append_assoc, append-nil}
use Rattle.std.specs.Prelude.{◌≡◌, ℕ, List, [], ◌∷◌, ◌++◌, Option, Some, None}
use Rattle.std.specs.Coded.{Coded, code_by, coded_list, coded_option, coded×, coded_ℕ}
use Rattle.sema_root.specs.Tree.{Tree, leaf, fork}

module _ {V : Type 0} where
  -- a tree as a list
  abbrev pub flat : Tree V → List (Option (ℕ × (ℕ × V)))
  flat leaf = None ∷ []
  flat (fork left node right) = Some (node.counter, (node.ticket, node.value)) ∷ flat left ++ flat right

  -- a node on the first two trees
  abbrev pub forked : ℕ × (ℕ × V) → List (Tree V) → List (Tree V)
  forked node (left ∷ right ∷ trees) =
      fork left (record { counter = node.0; ticket = node.1.0; value = node.1.1 }) right ∷ trees
  forked node _ = []

  -- the trees that a list says, one behind the other, made from its end
  abbrev pub planted : List (Option (ℕ × (ℕ × V))) → List (Tree V)
  planted [] = []
  planted (None ∷ rest) = leaf ∷ planted rest
  planted (Some node ∷ rest) = forked node (planted rest)

  abbrev pub first_tree : List (Tree V) → Tree V
  first_tree [] = leaf
  first_tree (tree ∷ _) = tree

  -- the tree that a list says
  abbrev pub grown : List (Option (ℕ × (ℕ × V))) → Tree V
  grown list = first_tree (planted list)

  -- a tree's list says that tree, and what stands behind it the next ones
  pub planted-flat : (tree : Tree V) (rest : List (Option (ℕ × (ℕ × V))))
      → planted (flat tree ++ rest) ≡ tree ∷ planted rest
  planted-flat leaf rest = refl
  planted-flat (fork left node right) rest =
      ap (λ list. forked (node.counter, (node.ticket, node.value)) (planted list))
      (append_assoc (flat left) (flat right) rest)
      ∙ ap (forked (node.counter, (node.ticket, node.value)))
      (planted-flat left (flat right ++ rest) ∙ ap (λ trees. left ∷ trees) (planted-flat right rest))

  -- a tree is what its list says
  pub grown-flat : (tree : Tree V) → grown (flat tree) ≡ tree
  grown-flat tree = ap first_tree (ap planted (sym (append-nil (flat tree))) ∙ planted-flat tree [])

  -- the code of a tree, from the code of what it holds
  abbrev pub tree_code : Coded V → Coded (Tree V)
  tree_code code =
      code_by (List (Option (ℕ × (ℕ × V))))
      (coded_list (coded_option (coded× coded_ℕ (coded× coded_ℕ code)))) flat grown grown-flat
