-- The rule holds of words as they are made, and is kept where the seat 0 makes another.
use Rattle.std.proofs.Common.{◌≡◌, ◌≢◌, ℕ, zero, suc, ◌+◌, ◌<◌, List, [], ◌∷◌, ◌++◌, length, map, set, sym, refl, ap, ◌∙◌}
use Rattle.std.proofs.Common.{subst, ⊎_elim, inl, inr, ◌⊎◌, arith}
use mathlib.Core.Option.{some, some-injective, some-ne-none}
use lib.ListN.{get_elem?}
use Rattle.atomic_table.specs.Table.{State, opening, Splits}
use mathlib.Core.Logic.{dite}
use native.Mathlib.Decide.{ℕ_discrete}
use Rattle.atomic_table.proofs.Lists.{at_set, at_last}
use Rattle.step_table.specs.World.{put}
use Rattle.step_table.proofs.Sums.{put_here, put_else}
use Rattle.running_rows.specs.declared.view.View.{View}
use Rattle.running_rows.specs.declared.view.Seated.{Seated}
use Rattle.running_rows.specs.declared.parking.Parking.{Parking}
use Rattle.running_rows.specs.Futex.{Futex, AreWithin, fresh_parking}
use Rattle.running_rows.proofs.Dealing.{splits_hold}
use Rattle.running_rows.specs.Family.{Family}
use Rattle.running_rows.proofs.Places.{replaced, longer}
use Rattle.running_rows.proofs.History.{strides_none}
use Rattle.running_rows.specs.Rule.{IsSomeones, IsSeated, fresh_seat, first_view, making, made_by, Sits, HasSeats, IsKept, Holds, Opens}

pub at_end : {A : Type 0} (l : List A) (a b : A) (j : ℕ) → get_elem? (l ++ a ∷ []) j ≡ some b
    → (get_elem? l j ≡ some b) ⊎ ((j ≡ length l) × (a ≡ b))
at_end [] a b zero e = inr (refl, some-injective a b e)
at_end [] a b (suc j) e = absurd (some-ne-none b (sym e))
at_end (x ∷ xs) a b zero e = inl e
at_end (x ∷ xs) a b (suc j) e = ⊎_elim (λ t. inl t) (λ t. inr (ap suc t.0, t.1)) (at_end xs a b j e)

module _ {S V T K : Type 0} (f : Family S V T K) where
  opens_kept : (k : f.Key) (words : List ℕ) (slots : List S) → Opens f k words (map some slots) → IsKept f k (opening words slots (first_view f k))
  opens_kept k words slots o = record {
    world = o.world;
    shows = o.shows;
    history = [];
    writes = o.unwritten;
    by_seats = λ m h. absurd h;
    spot = λ n. 0;
    made = 1;
    views = λ j v e h. one j v e;
    seated = λ n low. (first_view f k, refl, some_first, inl (let h = low in omega arith));
    unmade = λ n le low. o.unmade n low;
    maker = alone;
    fits = let h = o.some_seats in omega arith;
  }
    where
      some_first : IsSomeones f (first_view f k)
      some_first = let a = ap f.seats (f.fresh_is k) in let b = o.some_seats in omega arith

      alone : (j : ℕ) (v : View V T) → get_elem? (first_view f k ∷ []) j ≡ some v → IsSomeones f v → 0 < v.made
          → (v.own.number ≡ 0) × (v.made ≡ 1)
      alone zero v e h some_made =
          let is = sym (some-injective (first_view f k) v e) in (ap (λ (u : View V T). u.own.number) is, ap (λ (u : View V T). u.made) is)
      alone (suc j) v e h some_made = absurd (some-ne-none v (sym e))

      one : (j : ℕ) (v : View V T) → get_elem? (first_view f k ∷ []) j ≡ some v → HasSeats f k o.world [] (λ n. 0) 1 j v
      one zero v e = subst (HasSeats f k o.world [] (λ n. 0) 1 0) (some-injective (first_view f k) v e) (record {
        own = record { place_is = refl; is_made = omega arith; of_is = f.fresh_is k; knows = o.unmade 0 o.some_seats; went = refl };
        guests = λ g h. absurd h;
        others = λ g h. absurd h;
        apart = tt;
      })
      one (suc j) v e = absurd (some-ne-none v (sym e))

  pub opens : (k : f.Key) (words : List ℕ) (slots : List S) → Opens f k words (map some slots) → Holds f k (opening words slots (first_view f k))
  opens k words slots o = record {
    kept = opens_kept k words slots o;
    served = λ x is none. record {
      counted = o.none_sleep x is;
      taken = omega arith;
      stored = λ j v e. nothing_stored x (suc 0) j v e;
      called = λ left j v e. nothing_stored x 0 j v e;
    };
    futexes = o.futexes;
  }
    where
      nothing_stored : (x : Futex) (n j : ℕ) (v : Parking) → get_elem? (fresh_parking ∷ []) j ≡ some v → AreWithin x.word n v.stored
      nothing_stored x n zero v e = subst (λ (u : Parking). AreWithin x.word n u.stored) (some-injective fresh_parking v e) tt
      nothing_stored x n (suc j) v e = absurd (some-ne-none v (sym e))

  -- the seat 0 makes the next one
  module _ (k : f.Key) (id : ℕ) (v : View V T) (some_made : 0 < v.made) (room : v.made < f.seats (f.of v.own.knows)) (s : State S (View V T))
      (r : IsKept f k s) (at : get_elem? s.views id ≡ some v) where
    abbrev before : List (View V T)
    before = set s.views id (making v)

    someones : IsSomeones f v
    someones = omega arith

    mine : HasSeats f k r.world r.history r.spot r.made id v
    mine = r.views id v at someones

    maker : (v.own.number ≡ 0) × (v.made ≡ r.made)
    maker = r.maker id v at someones some_made

    abbrev spots : ℕ → ℕ
    spots = put r.spot r.made (length before)

    sits_yet : (j : ℕ) (u : Seated V T) → Sits f k r.world r.history r.spot r.made j u → Sits f k r.world r.history spots (r.made + 1) j u
    sits_yet j u o = record {
      place_is = put_else r.spot r.made (length before) u.number (λ q. let a = o.is_made in absurd (omega arith)) ∙ o.place_is;
      is_made = let a = o.is_made in omega arith;
      of_is = o.of_is;
      knows = o.knows;
      went = o.went;
    }

    seats_yet : (j : ℕ) (u : View V T) → HasSeats f k r.world r.history r.spot r.made j u → HasSeats f k r.world r.history spots (r.made + 1) j u
    seats_yet j u o = record { own = sits_yet j u.own o.own; guests = λ g h. sits_yet j g (o.guests g h); others = o.others; apart = o.apart }

    seats_making : HasSeats f k r.world r.history spots (r.made + 1) id (making v)
    seats_making = let o = seats_yet id v mine in record { own = o.own; guests = o.guests; others = o.others; apart = o.apart }

    idle : f.Knows k (fresh_seat f (f.of v.own.knows) v.made) r.world
    idle = subst (λ q. f.Knows k (fresh_seat f q v.made) r.world) (sym mine.own.of_is)
        (r.unmade v.made (let m = maker.1 in omega arith) (let l = ap f.seats mine.own.of_is in omega arith))

    seats_made : HasSeats f k r.world r.history spots (r.made + 1) (length before) (made_by f v)
    seats_made = record {
      own = record {
        place_is = ap spots maker.1 ∙ put_here r.spot r.made (length before);
        is_made = let m = maker.1 in omega arith;
        of_is = f.fresh_is (f.of v.own.knows) ∙ mine.own.of_is;
        knows = idle;
        went = strides_none v.made r.history (λ m h. let a = r.by_seats m h in let b = maker.1 in λ q. absurd (omega arith));
      };
      guests = λ g h. absurd h;
      others = λ g h. absurd h;
      apart = tt;
    }

    some_made_by : IsSomeones f (made_by f v)
    some_made_by = let a = ap f.seats (f.fresh_is (f.of v.own.knows)) in omega (arith, someones)

    made_one : IsKept f k (record { words = s.words; homes = s.homes; views = set s.views id (making v) ++ made_by f v ∷ [] })
    made_one = record {
      world = r.world;
      shows = r.shows;
      history = r.history;
      writes = r.writes;
      by_seats = λ m h. let a = r.by_seats m h in omega arith;
      spot = spots;
      made = r.made + 1;
      views = λ j u e h. ⊎_elim
          (λ (was : get_elem? before j ≡ some u). ⊎_elim
          (λ (t : (j ≡ id) × (making v ≡ u)). subst (λ (y : ℕ × View V T). HasSeats f k r.world r.history spots (r.made + 1) y.0 y.1)
          (λ i. (sym t.0 i, t.1 i)) seats_making)
          (λ (t : (j ≢ id) × (get_elem? s.views j ≡ some u)). seats_yet j u (r.views j u t.1 h))
          (at_set s.views id j (making v) u was))
          (λ (t : (j ≡ length before) × (made_by f v ≡ u)). subst
          (λ (y : ℕ × View V T). HasSeats f k r.world r.history spots (r.made + 1) y.0 y.1) (λ i. (sym t.0 i, t.1 i)) seats_made)
          (at_end before (made_by f v) u j e);
      seated = λ n low. dite (ℕ_discrete n r.made)
          (λ e. subst (λ q. IsSeated f (before ++ made_by f v ∷ []) (spots q) q) (sym e)
          (subst (λ j. IsSeated f (before ++ made_by f v ∷ []) j r.made) (sym (put_here r.spot r.made (length before)))
          (made_by f v, at_last before (made_by f v) (length before) refl, some_made_by, inl maker.1)))
          (λ ne. subst (λ j. IsSeated f (before ++ made_by f v ∷ []) j n) (sym (put_else r.spot r.made (length before) n ne))
          (longer f before (made_by f v) (r.spot n) n (replaced f s.views id v (making v) at someones (r.spot n) n (λ e h. h) (r.seated n (omega arith)))));
      unmade = λ n le low. r.unmade n (omega arith) low;
      maker = λ j u e h made. ⊎_elim
          (λ (was : get_elem? before j ≡ some u). ⊎_elim
          (λ (t : (j ≡ id) × (making v ≡ u)).
          (ap (λ (y : View V T). y.own.number) (sym t.1) ∙ maker.0, ap (λ (y : View V T). y.made) (sym t.1) ∙ ap (λ (n : ℕ). n + 1) maker.1))
          (λ (t : (j ≢ id) × (get_elem? s.views j ≡ some u)). let o = r.views j u t.1 h in
          absurd (t.0 (sym o.own.place_is ∙ ap r.spot ((r.maker j u t.1 h made).0 ∙ sym maker.0) ∙ mine.own.place_is)))
          (at_set s.views id j (making v) u was))
          (λ (t : (j ≡ length before) × (made_by f v ≡ u)). let none_made : 0 ≡ u.made = ap (λ (y : View V T). y.made) t.1 in absurd (omega arith))
          (at_end before (made_by f v) u j e);
      fits = let m = maker.1 in let l = ap f.seats mine.own.of_is in omega arith;
    }

  pub splits : (k : f.Key) (id : ℕ) (v : View V T) → 0 < v.made → v.made < f.seats (f.of v.own.knows)
      → Splits (Holds f k) id v (making v) (made_by f v)
  splits k id v some_made room =
      splits_hold f k id v (making v) (made_by f v) refl refl (λ s r at. made_one k id v some_made room s r at)
