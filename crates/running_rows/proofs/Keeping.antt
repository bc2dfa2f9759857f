-- A step that leads on keeps the rule, and so does a store of which the world knows nothing.
use Rattle.std.proofs.Common.{◌≡◌, ◌≢◌, ℕ, ◌<◌, ◌^◌, slice_index, sym, ap, ◌∙◌, subst, ⊎_elim, inl, inr, arith}
use mathlib.Core.Option.{some}
use lib.ListN.{get_elem?}
use Rattle.atomic_table.specs.Table.{State, Me, stepped}
use Rattle.atomic_table.proofs.Lists.{at_set}
use Rattle.running_rows.specs.declared.view.View.{View}
use Rattle.running_rows.specs.declared.view.Seated.{Seated}
use Rattle.running_rows.specs.declared.parking.Parking.{Parking}
use Rattle.running_rows.specs.Family.{Family}
use Rattle.running_rows.specs.Rule.{In, IsSomeones, fresh_seat, Sits, HasSeats, IsKept}
use Rattle.running_rows.specs.History.{strides_of}
use Rattle.running_rows.proofs.Places.{replaced}
use Rattle.running_rows.proofs.History.{HasGoneOn, gone_on}
use Rattle.running_rows.specs.Owing.{Stands, Leads}

module _ {S V T K : Type 0} (f : Family S V T K) (k : f.Key) (s : State S (View V T)) (r : IsKept f k s) (id : ℕ) (m : Me S (View V T))
    (at : get_elem? s.views id ≡ some m.0) (someones : IsSomeones f m.0) where
  seated : HasSeats f k r.world r.history r.spot r.made id m.0
  seated = r.views id m.0 at someones

  there : m.0.own.number < f.seats k
  there = let a = seated.own.is_made in let b = r.fits in omega arith

  -- the seat stands in a world that it may meet
  pub stands : (i : ℕ) → slice_index s.words i < 2 ^ 64 → Stands f k m.0.own r.world s.words s.homes i
  stands i below = record { shows = r.shows; of_is = seated.own.of_is; there = there; knows = seated.own.knows; below = below }

  module _ (i x : ℕ) (then : Me S (View V T) → Type 0) (l : Leads f k m r.world s.words s.homes i x then) (q : Parking) where
    abbrev after : View V T
    after = record m.0 { own = l.own; parking = q }

    moves : HasGoneOn f k l.next r.history m.0.own l.own
    moves = gone_on f k r.world l.next r.history m.0.own l.own l.on r.writes

    -- another seat sits where it sat
    sits_else : (j : ℕ) (u : Seated V T) → u.number ≢ l.own.number → Sits f k r.world r.history r.spot r.made j u
        → Sits f k l.next moves.now r.spot r.made j u
    sits_else j u ne o = record {
      place_is = o.place_is;
      is_made = o.is_made;
      of_is = o.of_is;
      knows = l.others u ne (let a = o.is_made in let c = r.fits in omega arith) o.knows;
      went = moves.others u.number (λ q. ne (q ∙ sym l.same)) ∙ o.went;
    }

    -- at another place sits none but other seats
    apart : (j : ℕ) (u : Seated V T) → j ≢ id → Sits f k r.world r.history r.spot r.made j u → u.number ≢ l.own.number
    apart j u ne o q = ne (sym o.place_is ∙ ap r.spot (q ∙ l.same) ∙ seated.own.place_is)

    seats_else : (j : ℕ) (v : View V T) → j ≢ id → HasSeats f k r.world r.history r.spot r.made j v → HasSeats f k l.next moves.now r.spot r.made j v
    seats_else j v ne o = record {
      own = sits_else j v.own (apart j v.own ne o.own) o.own;
      guests = λ g h. sits_else j g (apart j g ne (o.guests g h)) (o.guests g h);
      others = o.others;
      apart = o.apart;
    }

    guest_else : (g : Seated V T) → In g m.0.guests → g.number ≢ l.own.number
    guest_else g h q = seated.others g h (q ∙ l.same)

    seats_here : HasSeats f k l.next moves.now r.spot r.made id after
    seats_here = record {
      own = record {
        place_is = ap r.spot l.same ∙ seated.own.place_is;
        is_made = let a = seated.own.is_made in let b = l.same in omega arith;
        of_is = l.of_is;
        knows = l.knows;
        went = ap (λ (n : ℕ). strides_of n moves.now) l.same ∙ moves.here seated.own.went;
      };
      guests = λ g h. sits_else id g (guest_else g h) (seated.guests g h);
      others = guest_else;
      apart = seated.apart;
    }

    someones_after : IsSomeones f after
    someones_after = let a = ap f.seats l.of_is in let b = ap f.seats seated.own.of_is in omega arith

    pub kept : IsKept f k (stepped s i x id m.1 after l.act)
    kept = record {
      world = l.next;
      shows = l.shows;
      history = moves.now;
      writes = moves.writes;
      by_seats = λ q h. ⊎_elim (λ was. r.by_seats q was) (λ e. let a = seated.own.is_made in omega (arith, e)) (moves.seats q h);
      spot = r.spot;
      made = r.made;
      views = λ j u e h. ⊎_elim
          (λ (q : (j ≡ id) × (after ≡ u)). subst
          (λ (y : ℕ × View V T). HasSeats f k l.next moves.now r.spot r.made y.0 y.1) (λ i. (sym q.0 i, q.1 i)) seats_here)
          (λ (q : (j ≢ id) × (get_elem? s.views j ≡ some u)). seats_else j u q.0 (r.views j u q.1 h))
          (at_set s.views id j after u e);
      seated =
          λ n low. replaced f s.views id m.0 after at someones_after (r.spot n) n (λ e. ⊎_elim (λ q. inl (l.same ∙ q)) (λ g. inr g)) (r.seated n low);
      unmade = λ n le low. l.others (fresh_seat f k n)
          (λ q. let a = seated.own.is_made in let b = l.same in absurd (omega arith)) low (r.unmade n le low);
      maker = λ j u e h some_made. ⊎_elim
          (λ (q : (j ≡ id) × (after ≡ u)). subst (λ (y : View V T). 0 < y.made → (y.own.number ≡ 0) × (y.made ≡ r.made)) q.1
          (λ made. let o = r.maker id m.0 at someones made in (l.same ∙ o.0, o.1)) some_made)
          (λ (q : (j ≢ id) × (get_elem? s.views j ≡ some u)). r.maker j u q.1 h some_made)
          (at_set s.views id j after u e);
      fits = r.fits;
    }
