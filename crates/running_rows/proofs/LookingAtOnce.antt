-- The rule is kept where a seat and its first guest look at one moment.
use Rattle.std.proofs.Common.{◌≡◌, ◌≢◌, ℕ, ◌<◌, ◌^◌, List, [], ◌∷◌, set, slice_index, sym, refl, ap, ◌∙◌, subst, ⊎_elim}
use Rattle.std.proofs.Common.{inl, inr, arith}
use Rattle.std.proofs.lemmas.List.{set-get_or}
use mathlib.Core.Option.{some}
use lib.ListN.{get_elem?}
use Rattle.atomic_table.specs.Table.{State, Me, Allows, keeps}
use Rattle.atomic_table.proofs.Lists.{at_set}
use Rattle.running_rows.specs.declared.view.View.{View}
use Rattle.running_rows.specs.declared.view.Seated.{Seated}
use Rattle.running_rows.specs.Family.{Family}
use Rattle.running_rows.specs.Rule.{IsSomeones, HasSeat, In, AreApart, Sits, HasSeats, IsKept, AreServed, Holds}
use Rattle.running_rows.specs.Owing.{Stands, Sees, IsSeen}
use Rattle.running_rows.specs.Sitting.{other_guests, Met, MetAt}
use Rattle.running_rows.specs.History.{strides_of}
use Rattle.running_rows.proofs.History.{HasGoneOn, gone_on, looked_on}
use Rattle.running_rows.specs.Futex.{IsServedYet}
use Rattle.running_rows.proofs.Places.{replaced}
use Rattle.running_rows.proofs.Dealing.{parkings_kept}

module _ {S V T K : Type 0} (f : Family S V T K) (k : f.Key) where
  -- a seat and its first guest look at one moment
  module _ (i : ℕ) (m : Me S (View V T)) (g : Seated V T) (gs : List (Seated V T)) (with_it : m.0.guests ≡ g ∷ gs)
      (some_v : IsSomeones f m.0) (seen : IsSeen f k i)
      (s : State S (View V T)) (r : IsKept f k s) (id : ℕ) (at : get_elem? s.views id ≡ some m.0) (below : slice_index s.words i < 2 ^ 64) where
    both : HasSeats f k r.world r.history r.spot r.made id m.0
    both = r.views id m.0 at some_v

    in_both : (h : Seated V T) → In h (g ∷ gs) → In h m.0.guests
    in_both h = subst (In h) (sym with_it)

    both_apart : AreApart (g ∷ gs)
    both_apart = subst AreApart with_it both.apart

    guest : Sits f k r.world r.history r.spot r.made id g
    guest = both.guests g (in_both g (inl refl))

    stands : (u : Seated V T) → Sits f k r.world r.history r.spot r.made id u → Stands f k u r.world s.words s.homes i
    stands u o = record { shows = r.shows; of_is = o.of_is; there = let a = o.is_made in let b = r.fits in omega arith; knows = o.knows; below = below }

    one : Sees f k m.0.own r.world i (slice_index s.words i)
    one = seen r.world s.words s.homes m.0.own (stands m.0.own both.own)

    other : Sees f k g r.world i (slice_index s.words i)
    other = seen r.world s.words s.homes g (stands g guest)

    -- the history with both looks
    first : HasGoneOn f k r.world r.history m.0.own one.now
    first = gone_on f k r.world r.world r.history m.0.own one.now (looked_on f k r.world m.0.own i (slice_index s.words i) both.own.of_is one) r.writes

    second : HasGoneOn f k r.world first.now g other.now
    second = gone_on f k r.world r.world first.now g other.now (looked_on f k r.world g i (slice_index s.words i) guest.of_is other) first.writes

    two : g.number ≢ m.0.own.number
    two = both.others g (in_both g (inl refl))

    -- a seat that looked sits where it sat
    sits_now : (u : Seated V T) (o : Sees f k u r.world i (slice_index s.words i)) → Sits f k r.world r.history r.spot r.made id u
        → strides_of u.number second.now ≡ o.now.gone → Sits f k r.world second.now r.spot r.made id o.now
    sits_now u o sat went = record {
      place_is = ap r.spot o.went.same.0 ∙ sat.place_is;
      is_made = let a = sat.is_made in let b = o.went.same.0 in omega arith;
      of_is = o.went.same.1 ∙ sat.of_is;
      knows = o.knows;
      went = ap (λ (n : ℕ). strides_of n second.now) o.went.same.0 ∙ went;
    }

    -- and so does any other
    still : (j : ℕ) (u : Seated V T) → u.number ≢ m.0.own.number → u.number ≢ g.number → Sits f k r.world r.history r.spot r.made j u
        → Sits f k r.world second.now r.spot r.made j u
    still j u no_own no_guest o = record {
      place_is = o.place_is;
      is_made = o.is_made;
      of_is = o.of_is;
      knows = o.knows;
      went = second.others u.number no_guest ∙ first.others u.number no_own ∙ o.went;
    }

    still_there : (j : ℕ) (u : Seated V T) → j ≢ id → Sits f k r.world r.history r.spot r.made j u → Sits f k r.world second.now r.spot r.made j u
    still_there j u ne o = still j u
        (λ q. ne (sym o.place_is ∙ ap r.spot q ∙ both.own.place_is))
        (λ q. ne (sym o.place_is ∙ ap r.spot q ∙ guest.place_is)) o

    abbrev now : View V T
    now = record m.0 { own = one.now; guests = other.now ∷ gs }

    guests_now : (h : Seated V T) → In h (other.now ∷ gs) → Sits f k r.world second.now r.spot r.made id h
    guests_now h (inl e) = subst (Sits f k r.world second.now r.spot r.made id) e
        (sits_now g other guest (second.here (first.others g.number two ∙ guest.went)))
    guests_now h (inr e) = still id h (both.others h (in_both h (inr e))) (both_apart.0 h e) (both.guests h (in_both h (inr e)))

    others_now : (h : Seated V T) → In h (other.now ∷ gs) → h.number ≢ one.now.number
    others_now h (inl e) = λ q. two (sym other.went.same.0 ∙ ap (λ (y : Seated V T). y.number) e ∙ q ∙ one.went.same.0)
    others_now h (inr e) = λ q. both.others h (in_both h (inr e)) (q ∙ one.went.same.0)

    seats_now : HasSeats f k r.world second.now r.spot r.made id now
    seats_now = record {
      own = sits_now m.0.own one both.own (second.others m.0.own.number (λ q. two (sym q)) ∙ first.here both.own.went);
      guests = guests_now;
      others = others_now;
      apart = ((λ h e q. both_apart.0 h e (q ∙ other.went.same.0)), both_apart.1);
    }

    some_now : IsSomeones f now
    some_now = let a = ap f.seats one.went.same.1 in omega (arith, some_v)

    same_seats : (n j : ℕ) → j ≡ id → HasSeat n m.0 → HasSeat n now
    same_seats n j e = ⊎_elim (λ q. inl (one.went.same.0 ∙ q)) (λ h. ⊎_elim
        (λ q. inr (other.now, inl refl, other.went.same.0 ∙ ap (λ (y : Seated V T). y.number) q ∙ h.2))
        (λ q. inr (h.0, inr q, h.2))
        (subst (In h.0) with_it h.1))

    kept : IsKept f k (record { words = set s.words i (slice_index s.words i); homes = s.homes; views = set s.views id now })
    kept = subst (λ (ws : List ℕ). IsKept f k (record { words = ws; homes = s.homes; views = set s.views id now })) (sym (set-get_or s.words i 0)) record {
      world = r.world;
      shows = r.shows;
      history = second.now;
      writes = second.writes;
      made = r.made;
      by_seats = λ q h. ⊎_elim
          (λ before. ⊎_elim (λ was. r.by_seats q was) (λ e. let a = both.own.is_made in omega (arith, e)) (first.seats q before))
          (λ e. let a = guest.is_made in omega (arith, e)) (second.seats q h);
      spot = r.spot;
      views = λ j u e h. ⊎_elim
          (λ (q : (j ≡ id) × (now ≡ u)). subst
          (λ (y : ℕ × View V T). HasSeats f k r.world second.now r.spot r.made y.0 y.1) (λ n. (sym q.0 n, q.1 n)) seats_now)
          (λ (q : (j ≢ id) × (get_elem? s.views j ≡ some u)). let o = r.views j u q.1 h in
          record { own = still_there j u.own q.0 o.own; guests = λ y at_it. still_there j y q.0 (o.guests y at_it); others = o.others; apart = o.apart })
          (at_set s.views id j now u e);
      seated = λ n low. replaced f s.views id m.0 now at some_now (r.spot n) n (same_seats n (r.spot n)) (r.seated n low);
      unmade = r.unmade;
      maker = λ j u e h some_made. ⊎_elim
          (λ (q : (j ≡ id) × (now ≡ u)). subst (λ (y : View V T). 0 < y.made → (y.own.number ≡ 0) × (y.made ≡ r.made)) q.1
          (λ made. let o = r.maker id m.0 at some_v made in (one.went.same.0 ∙ o.0, o.1)) some_made)
          (λ (q : (j ≢ id) × (get_elem? s.views j ≡ some u)). r.maker j u q.1 h some_made)
          (at_set s.views id j now u e);
      fits = r.fits;
    }

    met : Met f (f.word_at (f.of m.0.own.knows) i) m.0.own g (slice_index s.words i) one.now other.now
    met = subst (λ q. Met f (f.word_at q i) m.0.own g (slice_index s.words i) one.now other.now) (sym both.own.of_is) (record {
      one = one.went;
      other = other.went;
      together = one.world_is ∙ sym other.world_is;
      two = λ q. two (sym q);
    })

  first_is : (g h : Seated V T) (gs hs : List (Seated V T)) → g ∷ gs ≡ h ∷ hs → (g ≡ h) × (gs ≡ hs)
  first_is g h gs hs e = (ap head e, ap other_guests e)
    where
      head : List (Seated V T) → Seated V T
      head [] = g
      head (x ∷ xs) = x

  pub meets_kept : (slots id i : ℕ) (m : Me S (View V T)) (g : Seated V T) (gs : List (Seated V T))
      → m.0.guests ≡ g ∷ gs → IsSomeones f m.0 → IsSeen f k i
      → Allows (Holds f k) slots id m i (λ n. n) (λ n t. MetAt f i m n t)
  meets_kept slots id i m g gs with_it some_v seen s r sized at below = (
    now i m g gs with_it some_v seen s r.kept id at below,
    keeps,
    tt,
    record {
      kept = kept i m g gs with_it some_v seen s r.kept id at below;
      served = subst (λ (ws : List ℕ). AreServed f k ws (set s.views id (now i m g gs with_it some_v seen s r.kept id at below))) (sym (set-get_or s.words i 0))
          (λ x is. subst (IsServedYet x s.words)
          (sym (parkings_kept s.views id m.0 (now i m g gs with_it some_v seen s r.kept id at below) at refl)) (r.served x is));
      futexes = r.futexes;
    },
    (λ h hs is. let e = first_is g h gs hs (sym with_it ∙ is) in (
      (other i m g gs with_it some_v seen s r.kept id at below).now,
      subst (λ (y : Seated V T). Met f (f.word_at (f.of m.0.own.knows) i) m.0.own y (slice_index s.words i)
          (one i m g gs with_it some_v seen s r.kept id at below).now (other i m g gs with_it some_v seen s r.kept id at below).now) e.0
          (met i m g gs with_it some_v seen s r.kept id at below),
      (λ n. (
        record m.0 {
          own = (one i m g gs with_it some_v seen s r.kept id at below).now;
          guests = (other i m g gs with_it some_v seen s r.kept id at below).now ∷ e.1 n;
        },
        m.1,
      )),
    )),
  )
