-- A pool is filled, the seat with the highest number first.
use Rattle.std.proofs.Common.{◌≡◌, ◌⊎◌, ℕ, suc, ◌+◌, ◌<◌, Some, List, [], ◌∷◌, ◌++◌, length, length-append, All, inl, inr}
use Rattle.std.proofs.Common.{refl, sym, ap, ◌∙◌, subst, arith}
use Rattle.std.proofs.lemmas.List.Elements.{All-pop}
use mathlib.Core.Option.{some}
use lib.ListN.{get_elem?}
use Rattle.atomic_table.proofs.Lists.{at_last, at_longer}
use Rattle.crossbeam_queue.specs.Fifo.{Pushes, Held}
use Rattle.seat_pool.specs.declared.loans.Loans.{Loans}
use Rattle.seat_pool.specs.declared.loans.Loans.TheVariants.{Unfilled, Lent}
use Rattle.seat_pool.specs.Rule.{numbers_below, home_of, lent_to, HasRoom}
use Rattle.seat_pool.proofs.Sums.{length_below}
use Rattle.seat_pool.proofs.Keeping.{Rule, fills_first, fills_next}

module _ {T H : Type 0} (home : T → H) (number : T → ℕ) (rests : T → Type 0) (count : H → ℕ) where
  -- the seats that are left are the first of all, and the maker's pass has seen those that were put in
  pub record IsFilling (all left : List T) (places : ℕ) (v : Loans H) : Type 0 where
    pub h : H
    pub each : All (λ x. home x ≡ h) all
    pub own : All (λ x. (home x ≡ h) × rests x) left
    pub in_order : (k : ℕ) (x : T) → get_elem? left k ≡ some x → number x ≡ k
    pub places_are : places ≡ count h
    pub some_are : 0 < count h
    pub seen : ((v ≡ Unfilled) × (length left ≡ count h)) ⊎ (v ≡ Lent h (numbers_below (length left)))

  module _ (all left rest : List T) (places : ℕ) (v : Loans H) (x : T) (now : IsFilling all left places v)
      (popped : left ≡ rest ++ x ∷ []) where
    its : (home x ≡ now.h) × rests x
    its = (All-pop (λ y. (home y ≡ now.h) × rests y) left rest (Some x) popped now.own).1

    longer : length left ≡ length rest + 1
    longer = ap length popped ∙ length-append rest (x ∷ [])

    last : number x ≡ length rest
    last = now.in_order (length rest) x
        (subst (λ l. get_elem? l (length rest) ≡ some x) (sym popped) (at_last rest x (length rest) refl))

    pub fills : (n k : ℕ) → Pushes (Rule home number rests count) n k v x (λ w. w ≡ Lent (home x) (numbers_below (number x)))
    fills n k = by now.seen
      where
        by : ((v ≡ Unfilled) × (length left ≡ count now.h)) ⊎ (v ≡ Lent now.h (numbers_below (length left)))
            → Pushes (Rule home number rests count) n k v x (λ w. w ≡ Lent (home x) (numbers_below (number x)))
        by (inl first) =
            let most : count (home x) ≡ count now.h = ap count its.0 in
            subst (λ u. Pushes (Rule home number rests count) n k u x (λ w. w ≡ Lent (home x) (numbers_below (number x)))) (sym first.0)
            (fills_first home number rests count n k x its.1 (omega (arith, longer, last, first.1)))
        by (inr next) =
            let more : length left ≡ suc (number x) = omega (arith, longer, last) in
            fills_next home number rests count n k v now.h x (next ∙ ap (λ m. Lent now.h (numbers_below m)) more) its.1 its.0

    pub filled : (w : Loans H) → w ≡ Lent (home x) (numbers_below (number x)) → IsFilling all rest places w
    filled w is = record {
      h = now.h;
      each = now.each;
      own = (All-pop (λ y. (home y ≡ now.h) × rests y) left rest (Some x) popped now.own).0;
      in_order = λ k y at. now.in_order k y (subst (λ l. get_elem? l k ≡ some y) (sym popped) (at_longer rest (x ∷ []) k y at));
      places_are = now.places_are;
      some_are = now.some_are;
      seen = inr (is ∙ (λ i. Lent (its.0 i) (numbers_below (last i))));
    }

    pub has_place : Held {T = T} places (HasRoom count v) → ⊥
    has_place held = by now.seen
      where
        by : ((v ≡ Unfilled) × (length left ≡ count now.h)) ⊎ (v ≡ Lent now.h (numbers_below (length left))) → ⊥
        by (inl first) =
            let none : length held.0 ≡ 0 = ap length (held.2.0 first.0) in let full = held.1 in
            let places_are = now.places_are in let some_are = now.some_are in omega arith
        by (inr next) =
            let room = held.2.1 now.h (ap home_of next) in let full = held.1 in let places_are = now.places_are in
            let many : length (lent_to v) ≡ length left = ap (λ u. length (lent_to u)) next ∙ length_below (length left) in
            omega (arith, longer)

  -- once all are put in, the maker's pass has borrowed nothing
  pub all_filled : (all left : List T) (places : ℕ) (v : Loans H) (now : IsFilling all left places v) → length left ≡ 0 → v ≡ Lent now.h []
  all_filled all left places v now none = by now.seen
    where
      by : ((v ≡ Unfilled) × (length left ≡ count now.h)) ⊎ (v ≡ Lent now.h (numbers_below (length left))) → v ≡ Lent now.h []
      by (inl first) = let full = first.1 in let some_are = now.some_are in absurd (omega arith)
      by (inr next) = next ∙ ap (λ m. Lent now.h (numbers_below m)) none
