-- Two heaps merge into one heap with the entries of both.
use Rattle.std.proofs.Common.{◌≡◌, ℕ, ◌+◌, ◌<◌, ◌≤◌, ltb, ◌∷◌, ◌++◌}
use Rattle.std.proofs.Common.{refl, sym, ap, ◌∙◌, arith, append_assoc, append-nil, le_of_lt, le_trans, ltb-true, ltb-false}
use Rattle.std.proofs.lemmas.Bool.{cond_both}
use Rattle.sema_root.specs.Tree.{Sprig, Tree, leaf, fork, entries, size, IsAtMost, IsHeaped}
use Rattle.sema_root.specs.Reshaping.{merged}
use Rattle.sema_root.proofs.Seeking.{entry}

module _ {V : Type 0} where
  -- nor on its right
  pub merged-leaf_right : (tree : Tree V) → merged tree leaf ≡ tree
  merged-leaf_right leaf = refl
  merged-leaf_right (fork left node right) = refl

  -- what holds of two trees and what they merge into is shown in the order in which they merge
  module _ (P : (first second whole : Tree V) → Type 0)
      (no_first : (second : Tree V) → P leaf second second)
      (no_second : (a : Tree V) (x : Sprig V) (b : Tree V) → P (fork a x b) leaf (fork a x b))
      (first_up : (a : Tree V) (x : Sprig V) (b c : Tree V) (y : Sprig V) (d whole : Tree V) → x.ticket < y.ticket
      → P b (fork c y d) whole → P (fork a x b) (fork c y d) (fork a x whole))
      (second_up : (a : Tree V) (x : Sprig V) (b c : Tree V) (y : Sprig V) (d whole : Tree V) → y.ticket ≤ x.ticket
      → P (fork a x b) c whole → P (fork a x b) (fork c y d) (fork whole y d)) where
    sunk-by : (a : Tree V) (x : Sprig V) (b : Tree V) → ((second : Tree V) → P b second (merged b second))
        → (second : Tree V) → P (fork a x b) second (merged (fork a x b) second)
    sunk-by a x b below leaf = no_second a x b
    sunk-by a x b below (fork c y d) =
        cond_both (ltb x.ticket y.ticket) _ _ (P (fork a x b) (fork c y d))
        (λ less. first_up a x b c y d _ (ltb-true x.ticket y.ticket less) (below (fork c y d)))
        (λ more. second_up a x b c y d _ (ltb-false x.ticket y.ticket more) (sunk-by a x b below c))

    pub merged-by : (first second : Tree V) → P first second (merged first second)
    merged-by leaf second = no_first second
    merged-by (fork a x b) second = sunk-by a x b (merged-by b) second

  -- the merged tree has the entries of the first and then those of the second
  pub merged-entries : (first second : Tree V) → entries (merged first second) ≡ entries first ++ entries second
  merged-entries = merged-by (λ first second whole. entries whole ≡ entries first ++ entries second)
      (λ second. refl)
      (λ a x b. sym (append-nil (entries (fork a x b))))
      (λ a x b c y d whole less is.
      ap (λ l. entries a ++ entry x ∷ l) is ∙ sym (append_assoc (entries a) (entry x ∷ entries b) (entries (fork c y d))))
      (λ a x b c y d whole more is.
      ap (λ l. l ++ entry y ∷ entries d) is ∙ append_assoc (entries (fork a x b)) (entries c) (entry y ∷ entries d))

  -- and as many nodes as both
  pub merged-size : (first second : Tree V) → size (merged first second) ≡ size first + size second
  merged-size = merged-by (λ first second whole. size whole ≡ size first + size second)
      (λ second. omega arith) (λ a x b. omega arith) (λ a x b c y d whole less is. omega arith) (λ a x b c y d whole more is. omega arith)

  -- a ticket that is at most that of a heap's topmost node is at most those below it
  pub IsAtMost-lower : (low high : ℕ) → low ≤ high → (tree : Tree V) → IsAtMost high tree → IsAtMost low tree
  IsAtMost-lower low high less leaf most = tt
  IsAtMost-lower low high less (fork left node right) most = le_trans less most

  abbrev IsMergedHeap : (first second whole : Tree V) → Type 0
  IsMergedHeap first second whole =
      ((ticket : ℕ) → IsAtMost ticket first → IsAtMost ticket second → IsAtMost ticket whole)
      × (IsHeaped first → IsHeaped second → IsHeaped whole)

  is_merged_heap : (first second : Tree V) → IsMergedHeap first second (merged first second)
  is_merged_heap = merged-by IsMergedHeap
      (λ second. (λ ticket on_first on_second. on_second, λ heaped_first heaped_second. heaped_second))
      (λ a x b. (λ ticket on_first on_second. on_first, λ heaped_first heaped_second. heaped_first))
      (λ a x b c y d whole less is. (
        λ ticket on_first on_second. on_first,
        λ first second. (first.0, is.0 x.ticket first.1 (le_of_lt less), first.2, is.1 first.3 second),
      ))
      (λ a x b c y d whole more is. (
        λ ticket on_first on_second. on_second,
        λ first second. (is.0 y.ticket more second.0, second.1, is.1 first second.2, second.3),
      ))

  -- a ticket that is at most both topmost ones is at most the merged tree's
  pub merged-at_most : (ticket : ℕ) (first second : Tree V) → IsAtMost ticket first → IsAtMost ticket second
      → IsAtMost ticket (merged first second)
  merged-at_most ticket first second = (is_merged_heap first second).0 ticket

  -- two heaps merge into a heap
  pub merged-heaped : (first second : Tree V) → IsHeaped first → IsHeaped second → IsHeaped (merged first second)
  merged-heaped first second = (is_merged_heap first second).1
