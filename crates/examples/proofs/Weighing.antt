-- Each move keeps the rule of the ring.
use Rattle.std.proofs.Common.{◌≡◌, ◌≢◌, ℕ, zero, suc, ◌+◌, ◌-◌, ◌<◌, ◌≤◌, List, [], ◌∷◌, ◌++◌, length, set, refl, sym}
use Rattle.std.proofs.Common.{ap, ◌∙◌, subst, ⊎_elim, arith}
use mathlib.Core.Option.{some, some-injective, some-ne-none}
use lib.ListN.{get_elem?}
use Rattle.crossbeam_queue.specs.Fifo.{Pushes, Pops, Forks, Merges, Learns, Held}
use Rattle.crossbeam_queue.proofs.Lists.{at_set, at_snoc}
use Rattle.sync_parts.specs.Counting.{on}
use Rattle.examples.specs.Parts.{QueueModel, TallyModel}
use Rattle.examples.specs.Queue.{AreLeftOf}
use Rattle.examples.specs.declared.moves.Moves.{Moves}
use Rattle.examples.specs.Moves.{moves, with_put, with_taken, together, all_parts, weigh, sum_of, IdleIsEmpty, Balanced, AreLeft}

weigh_append : (h : ℕ → ℕ) (a b : List ℕ) → weigh h (a ++ b) ≡ weigh h a + weigh h b
weigh_append h [] b = omega arith
weigh_append h (x ∷ a) b = let rest = weigh_append h a b in omega arith

-- the sum after a change of one pass, and with a pass more
sum_set : (f : Moves → ℕ) (views : List Moves) (k : ℕ) (v w : Moves) → get_elem? views k ≡ some v
    → sum_of f (set views k w) + f v ≡ sum_of f views + f w
sum_set f [] k v w at = absurd (some-ne-none v (sym at))
sum_set f (u ∷ views) zero v w at = let same : f u ≡ f v = ap f (some-injective u v at) in omega arith
sum_set f (u ∷ views) (suc k) v w at = let rest = sum_set f views k v w at in omega arith

sum_snoc : (f : Moves → ℕ) (views : List Moves) (w : Moves) → sum_of f (views ++ w ∷ []) ≡ sum_of f views + f w
sum_snoc f [] w = omega arith
sum_snoc f (u ∷ views) w = let rest = sum_snoc f views w in omega arith

idle_set : (views : List Moves) (k : ℕ) (w : Moves) → (w.parts ≡ 0 → (w.put ≡ []) × (w.taken ≡ [])) → IdleIsEmpty views
    → IdleIsEmpty (set views k w)
idle_set views k w mine others j u at none =
    ⊎_elim (λ (x : (j ≡ k) × (w ≡ u)). subst (λ (y : Moves). y.parts ≡ 0 → (y.put ≡ []) × (y.taken ≡ [])) x.1 mine none)
    (λ (x : (j ≢ k) × (get_elem? views j ≡ some u)). others j u x.1 none) (at_set views k j w u at)

idle_snoc : (views : List Moves) → IdleIsEmpty views → IdleIsEmpty (views ++ moves 1 [] [] ∷ [])
idle_snoc views idle j u at none =
    ⊎_elim (λ (there : get_elem? views j ≡ some u). idle j u there none)
    (λ (new : moves 1 [] [] ≡ u). let part : 1 ≡ u.parts = ap (λ (y : Moves). y.parts) new in absurd (omega arith))
    (at_snoc views (moves 1 [] []) u j at)

pub puts : (n k : ℕ) (v : Moves) (x : ℕ) → 0 < v.parts → Pushes Balanced n k v x (λ w. w ≡ with_put v x)
puts n k v x some_part items views room b at =
    let w : Moves = with_put v x in (
      w,
      (
        (let s = sum_set (λ u. u.parts) views k v w at in let p = b.0 in omega arith),
        (λ h.
            let s = sum_set (λ u. weigh h u.put) views k v w at in
            let t = sum_set (λ u. weigh h u.taken) views k v w at in
            let p = b.1 h in
            omega (arith, weigh_append h v.put (x ∷ []), weigh_append h items (x ∷ []))),
        idle_set views k w (λ none. absurd (omega arith)) b.2,
      ),
      refl,
    )

pub takes : (k : ℕ) (v : Moves) → 0 < v.parts → Pops Balanced k v (λ x w. w ≡ with_taken v x)
takes k v some_part x items views b at =
    let w : Moves = with_taken v x in (
      w,
      (
        (let s = sum_set (λ u. u.parts) views k v w at in let p = b.0 in omega arith),
        (λ h.
            let s = sum_set (λ u. weigh h u.put) views k v w at in
            let t = sum_set (λ u. weigh h u.taken) views k v w at in
            let p = b.1 h in
            omega (arith, weigh_append h v.taken (x ∷ []))),
        idle_set views k w (λ none. absurd (omega arith)) b.2,
      ),
      refl,
    )

pub forks : (k : ℕ) (v : Moves) → 1 < v.parts → Forks Balanced k v (moves (v.parts - 1) v.put v.taken) (moves 1 [] [])
forks k v some_parts items views b at =
    let l : Moves = moves (v.parts - 1) v.put v.taken in let r : Moves = moves 1 [] [] in (
      (let s = sum_set (λ u. u.parts) views k v l at in let m = sum_snoc (λ u. u.parts) (set views k l) r in let p = b.0 in omega arith),
      (λ h.
          let s = sum_set (λ u. weigh h u.put) views k v l at in let m = sum_snoc (λ u. weigh h u.put) (set views k l) r in
          let t = sum_set (λ u. weigh h u.taken) views k v l at in let o = sum_snoc (λ u. weigh h u.taken) (set views k l) r in
          let p = b.1 h in omega arith),
      idle_snoc (set views k l) (idle_set views k l (λ none. absurd (omega arith)) b.2),
    )

pub merges : (k : ℕ) (v : Moves) (o : ℕ) (u : Moves) → 0 < v.parts → Merges Balanced k v o u (together v u) (moves 0 [] [])
merges k v o u some_part items views b at two at_other =
    let both : Moves = together v u in let gone : Moves = moves 0 [] [] in (
      (let s = sum_set (λ x. x.parts) views k v both at in
          let m = sum_set (λ x. x.parts) (set views k both) o u gone at_other in let p = b.0 in omega arith),
      (λ h.
          let s = sum_set (λ x. weigh h x.put) views k v both at in
          let m = sum_set (λ x. weigh h x.put) (set views k both) o u gone at_other in
          let t = sum_set (λ x. weigh h x.taken) views k v both at in
          let n = sum_set (λ x. weigh h x.taken) (set views k both) o u gone at_other in
          let p = b.1 h in omega (arith, weigh_append h v.put u.put, weigh_append h v.taken u.taken)),
      idle_set (set views k both) o gone (λ none. (refl, refl)) (idle_set views k both (λ none. absurd (omega arith)) b.2),
    )

-- where one pass has all parts, a sum to which a pass without a part adds nothing is its alone
none_of : (f : Moves → ℕ) (views : List Moves) → ((j : ℕ) (u : Moves) → get_elem? views j ≡ some u → u.parts ≡ 0 → f u ≡ 0)
    → sum_of (λ u. u.parts) views ≡ 0 → sum_of f views ≡ 0
none_of f [] idle none = refl
none_of f (u ∷ views) idle none =
    let first = idle 0 u refl (omega arith) in
    let rest = none_of f views (λ j w at. idle (suc j) w at) (omega arith) in omega arith

part_of : (views : List Moves) (k : ℕ) (v : Moves) → get_elem? views k ≡ some v → v.parts ≤ sum_of (λ u. u.parts) views
part_of [] k v at = absurd (some-ne-none v (sym at))
part_of (u ∷ views) zero v at = let parts : u.parts ≡ v.parts = ap (λ (y : Moves). y.parts) (some-injective u v at) in omega arith
part_of (u ∷ views) (suc k) v at = let rest = part_of views k v at in omega arith

its_alone : (f : Moves → ℕ) (views : List Moves) (k : ℕ) (v : Moves) → get_elem? views k ≡ some v → ((j : ℕ) (u : Moves)
    → get_elem? views j ≡ some u → u.parts ≡ 0 → f u ≡ 0)
    → sum_of (λ u. u.parts) views ≡ v.parts → sum_of f views ≡ f v
its_alone f [] k v at idle all = absurd (some-ne-none v (sym at))
its_alone f (u ∷ views) zero v at idle all =
    let same : f u ≡ f v = ap f (some-injective u v at) in
    let parts : u.parts ≡ v.parts = ap (λ (y : Moves). y.parts) (some-injective u v at) in
    let rest = none_of f views (λ j w at. idle (suc j) w at) (omega arith) in omega arith
its_alone f (u ∷ views) (suc k) v at idle all =
    let more = part_of views k v at in
    let first = idle 0 u refl (omega arith) in
    let rest = its_alone f views k v at (λ j w at. idle (suc j) w at) (omega arith) in omega arith

pub learns : (k : ℕ) (v : Moves) → v.parts ≡ all_parts → Learns Balanced k v (AreLeft v)
learns k v all items views b at h =
    let parts : sum_of (λ u. u.parts) views ≡ v.parts = b.0 ∙ sym all in
    let put = its_alone (λ u. weigh h u.put) views k v at (λ j u is none. ap (weigh h) (b.2 j u is none).0) parts in
    let taken = its_alone (λ u. weigh h u.taken) views k v at (λ j u is none. ap (weigh h) (b.2 j u is none).1) parts in
    let p = b.1 h in omega arith

weigh_one : (l : List ℕ) → weigh (λ y. 1) l ≡ length l
weigh_one [] = refl
weigh_one (x ∷ l) = let rest = weigh_one l in omega arith

-- what is left, by how often each item is, and all together
pub left_of : (q : QueueModel) (t : TallyModel) (n : ℕ) → n ≤ q.places → Held n (AreLeft t.moves) → AreLeftOf q t n
left_of q t n few held = record {
  left = held.0;
  count = held.1;
  few = few;
  each = λ x. held.2 (λ y. on x y 1);
  sum = let all = held.2 (λ y. 1) in
      let count = held.1 in omega (arith, weigh_one t.moves.put, weigh_one t.moves.taken, weigh_one held.0);
}
