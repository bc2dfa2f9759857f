-- Each move keeps the pool's rule.
use Rattle.std.proofs.Common.{◌≡◌, ◌≢◌, ◌⊎◌, ℕ, zero, suc, ◌+◌, Option, Some, None, List, [], ◌∷◌, ◌++◌, length, set}
use Rattle.std.proofs.Common.{refl, sym, ap, ◌∙◌, subst, ⊎_elim, inl, inr, rules, arith, length-append}
use Rattle.std.proofs.lemmas.List.Elements.{All-push, All-nil, All-head, All-tail}
use mathlib.Core.Option.{some, some-injective, some-ne-none}
use lib.ListN.{get_elem?}
use Rattle.crossbeam_queue.specs.Fifo.{Pushes, Pops, Forks, Merges, Learns}
use Rattle.crossbeam_queue.proofs.Lists.{at_set, at_snoc}
use Rattle.seat_pool.specs.declared.loans.Loans.{Loans}
use Rattle.seat_pool.specs.declared.loans.Loans.TheVariants.{Unfilled, Lent, Joined}
use Rattle.step_table.specs.Counting.{on, among}
use Rattle.step_table.proofs.Sums.{on_here}
use Rattle.seat_pool.specs.Rule.{numbers_below, home_of, lent_to, AreApart}
use Rattle.seat_pool.specs.Rule.{without_loans, together, first_loan, other_loans, HasRoom, HasTaken, AreLent, AreEachOnce}
use Rattle.seat_pool.proofs.Sums.{among_append, among_pushed, length_below, once_up_to, sum_set, sum_snoc, at_most_sum}

module _ {H : Type 0} where
  abbrev home_or : H → Option H → H
  home_or h None = h
  home_or h (Some g) = g

  pub same_home : (g h : H) → Some g ≡ Some h → g ≡ h
  same_home g h e = ap (home_or g) e

  abbrev is_unfilled : Loans H → ℕ
  is_unfilled Unfilled = 1
  is_unfilled (Lent h l) = 0
  is_unfilled Joined = 2

  -- the pass knows h, or was joined
  abbrev IsKnown : H → Loans H → Type 0
  IsKnown h v = (home_of v ≡ Some h) ⊎ (v ≡ Joined)

  is_not_one : (v : Loans H) → v ≡ Unfilled → is_unfilled v ≢ 1 → ⊥
  is_not_one v e ne = ne (ap is_unfilled e)

  unfilled_unknown : (h : H) → IsKnown h Unfilled → ⊥
  unfilled_unknown h (inl e) = search rules
  unfilled_unknown h (inr e) = is_not_one Joined (sym e) (omega arith)

  known_home : (h g : H) (l : List ℕ) → IsKnown h (Lent g l) → g ≡ h
  known_home h g l (inl e) = same_home g h e
  known_home h g l (inr e) = let n : is_unfilled (Lent g l) ≡ is_unfilled Joined = ap is_unfilled e in absurd (omega arith)

  known_set : (h : H) (views : List (Loans H)) (k : ℕ) (w : Loans H) → IsKnown h w
      → ((j : ℕ) (v : Loans H) → get_elem? views j ≡ some v → IsKnown h v)
      → (j : ℕ) (v : Loans H) → get_elem? (set views k w) j ≡ some v → IsKnown h v
  known_set h views k w new known j v at =
      ⊎_elim (λ (x : (j ≡ k) × (w ≡ v)). subst (IsKnown h) x.1 new)
      (λ (x : (j ≢ k) × (get_elem? views j ≡ some v)). known j v x.1) (at_set views k j w v at)

  known_snoc : (h : H) (views : List (Loans H)) (w : Loans H) → IsKnown h w
      → ((j : ℕ) (v : Loans H) → get_elem? views j ≡ some v → IsKnown h v)
      → (j : ℕ) (v : Loans H) → get_elem? (views ++ w ∷ []) j ≡ some v → IsKnown h v
  known_snoc h views w new known j v at =
      ⊎_elim (λ (there : get_elem? views j ≡ some v). known j v there)
      (λ (last : w ≡ v). subst (IsKnown h) last new) (at_snoc views w v j at)

  -- of one pass there is no other
  alone : (v : Loans H) (k : ℕ) → get_elem? (Unfilled ∷ []) k ≡ some v → (k ≡ 0) × (v ≡ Unfilled)
  alone v zero at = (refl, sym (some-injective Unfilled v at))
  alone v (suc k) at = absurd (some-ne-none v (sym at))

  only_known : (h : H) (w : Loans H) → IsKnown h w → (j : ℕ) (v : Loans H) → get_elem? (w ∷ []) j ≡ some v → IsKnown h v
  only_known h w new zero v at = subst (IsKnown h) (some-injective w v at) new
  only_known h w new (suc j) v at = absurd (some-ne-none v (sym at))

  same_known : (h g : H) (v : Loans H) → home_of v ≡ Some g → IsKnown h v → g ≡ h
  same_known h g v its (inl e) = same_home g h (sym its ∙ e)
  same_known h g v its (inr e) = search rules

module _ {T H : Type 0} (home : T → H) (number : T → ℕ) (rests : T → Type 0) (count : H → ℕ) where
  -- it is of h, and rests
  abbrev IsFree : H → T → Type 0
  IsFree h x = (home x ≡ h) × rests x

  abbrev pub Rule : List T → List (Loans H) → Type 0
  Rule = AreEachOnce home number rests count

  -- who knows h knows that seats were put in
  lent : (items : List T) (views : List (Loans H)) (k : ℕ) (h : H) (l : List ℕ) → Rule items views
      → get_elem? views k ≡ some (Lent h l) → AreLent home number rests count h items views
  lent items views k h l (inl none) at =
      let only = alone (Lent h l) k (subst (λ (x : List (Loans H)). get_elem? x k ≡ some (Lent h l)) none.1 at) in
      absurd (is_not_one (Lent h l) only.1 (omega arith))
  lent items views k h l (inr (g, all)) at =
      subst (λ (x : H). AreLent home number rests count x items views) (sym (known_home g h l (all.known k (Lent h l) at))) all

  -- a seat comes: its number was lent to the pass
  come : (h : H) (items : List T) (views : List (Loans H)) (k : ℕ) (l m : List ℕ) (x : T)
      → AreLent home number rests count h items views → get_elem? views k ≡ some (Lent h l)
      → home x ≡ h → rests x → ((j : ℕ) → among j l ≡ among j m + on j (number x) 1) → length l ≡ length m + 1
      → AreLent home number rests count h (items ++ x ∷ []) (set views k (Lent h m))
  come h items views k l m x all at its rest numbers one = record {
    free = All-push (IsFree h) items x all.free (its, rest);
    known = known_set h views k (Lent h m) (inl refl) all.known;
    once = λ j.
        let s = sum_set (λ u. among j (lent_to u)) views k (Lent h l) (Lent h m) at in
        let p = all.once j in let n = numbers j in omega (arith, among_pushed number j items x);
    all = let s = sum_set (λ u. length (lent_to u)) views k (Lent h l) (Lent h m) at in
        let p = all.all in omega (arith, length-append items (x ∷ []));
  }

  -- a seat goes: its number is lent to the pass
  go : (h : H) (items : List T) (views : List (Loans H)) (k : ℕ) (l : List ℕ) (x : T)
      → AreLent home number rests count h (x ∷ items) views → get_elem? views k ≡ some (Lent h l)
      → AreLent home number rests count h items (set views k (Lent h (number x ∷ l)))
  go h items views k l x all at = record {
    free = All-tail (IsFree h) x items all.free;
    known = known_set h views k (Lent h (number x ∷ l)) (inl refl) all.known;
    once = λ j. let s = sum_set (λ u. among j (lent_to u)) views k (Lent h l) (Lent h (number x ∷ l)) at in let p = all.once j in omega arith;
    all = let s = sum_set (λ u. length (lent_to u)) views k (Lent h l) (Lent h (number x ∷ l)) at in let p = all.all in omega arith;
  }

  -- what was lent to one pass is lent to two
  share : (h : H) (items : List T) (views : List (Loans H)) (k : ℕ) (v w u : Loans H)
      → AreLent home number rests count h items views → get_elem? views k ≡ some v
      → IsKnown h w → IsKnown h u → ((j : ℕ) → among j (lent_to v) ≡ among j (lent_to w) + among j (lent_to u))
      → length (lent_to v) ≡ length (lent_to w) + length (lent_to u)
      → AreLent home number rests count h items (set views k w ++ u ∷ [])
  share h items views k v w u all at knows too numbers many = record {
    free = all.free;
    known = known_snoc h (set views k w) u too (known_set h views k w knows all.known);
    once = λ j.
        let s = sum_set (λ x. among j (lent_to x)) views k v w at in let t = sum_snoc (λ x. among j (lent_to x)) (set views k w) u in
        let p = all.once j in let n = numbers j in omega arith;
    all = let s = sum_set (λ x. length (lent_to x)) views k v w at in let t = sum_snoc (λ x. length (lent_to x)) (set views k w) u in
        let p = all.all in omega arith;
  }

  -- what was lent to two passes is lent to one
  join : (h : H) (items : List T) (views : List (Loans H)) (k o : ℕ) (v w : Loans H) (l : List ℕ)
      → AreLent home number rests count h items views → get_elem? views k ≡ some v → get_elem? (set views k (Lent h l)) o ≡ some w
      → ((j : ℕ) → among j l ≡ among j (lent_to v) + among j (lent_to w)) → length l ≡ length (lent_to v) + length (lent_to w)
      → AreLent home number rests count h items (set (set views k (Lent h l)) o Joined)
  join h items views k o v w l all at there numbers many = let both : Loans H = Lent h l in record {
    free = all.free;
    known = known_set h (set views k both) o Joined (inr refl) (known_set h views k both (inl refl) all.known);
    once = λ j.
        let s = sum_set (λ x. among j (lent_to x)) views k v both at in
        let t = sum_set (λ x. among j (lent_to x)) (set views k both) o w Joined there in
        let p = all.once j in let n = numbers j in omega arith;
    all = let s = sum_set (λ x. length (lent_to x)) views k v both at in
        let t = sum_set (λ x. length (lent_to x)) (set views k both) o w Joined there in
        let p = all.all in omega arith;
  }

  -- the first seat that is put in, which has the highest number
  pub fills_first : (n k : ℕ) (x : T) → rests x → number x + 1 ≡ count (home x)
      → Pushes Rule n k Unfilled x (λ w. w ≡ Lent (home x) (numbers_below (number x)))
  fills_first n k x rest last items views room (inr (h, all)) at = absurd (unfilled_unknown h (all.known k Unfilled at))
  fills_first n k x rest last items views room (inl none) at =
      let w : Loans H = Lent (home x) (numbers_below (number x)) in
      let first : AreLent home number rests count (home x) (x ∷ []) (w ∷ []) = record {
        free = All-push (IsFree (home x)) [] x (All-nil (IsFree (home x))) (refl, rest);
        known = only_known (home x) w (inl refl);
        once = λ j. let all = once_up_to j (number x) in omega arith;
        all = omega (arith, length_below (number x));
      } in
      let is = alone Unfilled k (subst (λ (v : List (Loans H)). get_elem? v k ≡ some Unfilled) none.1 at) in (
        w,
        inr (
          home x,
          subst (λ (y : List T × List (Loans H) × ℕ). AreLent home number rests count (home x) (y.0 ++ x ∷ []) (set y.1 y.2 w))
              (λ i. (sym none.0 i, sym none.1 i, sym is.0 i)) first,
        ),
        refl,
      )

  pub fills_next : (n k : ℕ) (v : Loans H) (h : H) (x : T) → v ≡ Lent h (numbers_below (suc (number x))) → rests x → home x ≡ h
      → Pushes Rule n k v x (λ w. w ≡ Lent (home x) (numbers_below (number x)))
  fills_next n k v h x is rest its items views room rule at =
      let m : ℕ = number x in let here = at ∙ ap some is in
      let all = come h items views k (numbers_below (suc m)) (numbers_below m) x (lent items views k h (numbers_below (suc m)) rule here) here its rest
      (λ j. omega (arith, among_append j (numbers_below m) (m ∷ []))) (omega (arith, length-append (numbers_below m) (m ∷ []))) in
      (Lent h (numbers_below m), inr (h, all), ap (λ (g : H). Lent g (numbers_below m)) (sym its))

  pub gives : (n k : ℕ) (v : Loans H) (h : H) (x : T) → v ≡ Lent h (number x ∷ []) → rests x → home x ≡ h
      → Pushes Rule n k v x (λ w. w ≡ Lent (home x) [])
  gives n k v h x is rest its items views room rule at =
      let here = at ∙ ap some is in
      let all = come h items views k (number x ∷ []) [] x (lent items views k h (number x ∷ []) rule here) here its rest
      (λ j. omega arith) (omega arith) in
      (Lent h [], inr (h, all), ap (λ (g : H). Lent g []) (sym its))

  pub takes : (k : ℕ) (v : Loans H) (h : H) (l : List ℕ) → v ≡ Lent h l → Pops Rule k v (HasTaken home number rests v)
  takes k v h l is x items views rule at =
      let here = at ∙ ap some is in
      let all = lent (x ∷ items) views k h l rule here in let first = All-head (IsFree h) x items all.free in let its = first.0 in (
        Lent h (number x ∷ l),
        inr (h, go h items views k l x all here),
        (
          (λ i. Lent (sym its i) (number x ∷ lent_to (sym is i))),
          ap home_of is ∙ ap Some (sym its),
          first.1,
        ),
      )

  pub forks : (k : ℕ) (v : Loans H) (h : H) (l : List ℕ) → v ≡ Lent h l → Forks Rule k v v (without_loans v)
  forks k v h l is = subst (λ (u : Loans H). Forks Rule k u u (without_loans u)) (sym is) (λ items views rule at.
      inr (
        h,
        share h items views k (Lent h l) (Lent h l) (Lent h []) (lent items views k h l rule at) at (inl refl) (inl refl)
            (λ j. omega arith) (omega arith),
      ))

  pub parts : (k : ℕ) (v : Loans H) (h : H) (n : ℕ) (l : List ℕ) → v ≡ Lent h (n ∷ l) → Forks Rule k v (first_loan v) (other_loans v)
  parts k v h n l is = subst (λ (u : Loans H). Forks Rule k u (first_loan u) (other_loans u)) (sym is) (λ items views rule at.
      inr (
        h,
        share h items views k (Lent h (n ∷ l)) (Lent h (n ∷ [])) (Lent h l) (lent items views k h (n ∷ l) rule at) at
            (inl refl) (inl refl) (λ j. omega arith) (omega arith),
      ))

  pub merges : (k o : ℕ) (v w : Loans H) (h g : H) (l m : List ℕ) → v ≡ Lent h l → w ≡ Lent g m
      → Merges Rule k v o w (together v w) Joined
  merges k o v w h g l m is too = subst (λ (x : Loans H × Loans H). Merges Rule k x.0 o x.1 (together x.0 x.1) Joined)
      (λ i. (sym is i, sym too i)) (λ items views rule at two there.
      inr (
        h,
        join h items views k o (Lent h l) (Lent g m) (l ++ m) (lent items views k h l rule at) at there
            (λ j. among_append j l m) (length-append l m),
      ))

  pub has_room : (k : ℕ) (v : Loans H) → Learns Rule k v (HasRoom count v)
  has_room k v items views (inl none) at =
      let only = alone v k (subst (λ (x : List (Loans H)). get_elem? x k ≡ some v) none.1 at) in
      (λ is. none.0, λ h its. absurd (unfilled_unknown h (inl (ap home_of (sym only.1) ∙ its))))
  has_room k v items views (inr (h, all)) at = (
    (λ is. absurd (unfilled_unknown h (subst (IsKnown h) is (all.known k v at)))),
    (λ g its.
        let same = same_known h g v its (all.known k v at) in let c : count g ≡ count h = ap count same in
        let own = at_most_sum (λ u. length (lent_to u)) views k v at in let p = all.all in omega arith),
  )

  pub are_apart : (k : ℕ) (v : Loans H) → Learns Rule k v (λ items. AreApart v)
  are_apart k v items views (inl none) at m n lent_are same =
      let only = alone v k (subst (λ (x : List (Loans H)). get_elem? x k ≡ some v) none.1 at) in
      let l : length (lent_to v) ≡ length (m ∷ n ∷ []) = ap length lent_are in
      let none : length (lent_to v) ≡ 0 = ap (λ x. length (lent_to x)) only.1 in absurd (omega arith)
  are_apart k v items views (inr (h, all)) at m n lent_are same =
      let own = at_most_sum (λ u. among m (lent_to u)) views k v at in
      let two : among m (lent_to v) ≡ on m m 1 + (on m n 1 + 0) = ap (among m) lent_are in
      let one = on_here m 1 in let other : on m n 1 ≡ on m m 1 = ap (λ k. on m k 1) (sym same) in
      let p = all.once m in absurd (omega arith)
