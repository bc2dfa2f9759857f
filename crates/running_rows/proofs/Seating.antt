-- The rule is kept where seats come to sit in one view, and where all guests leave together.
use Rattle.std.proofs.Common.{◌≡◌, ◌≢◌, ℕ, ◌<◌, List, [], ◌∷◌, ◌++◌, length, set, sym, refl, ap, ◌∙◌, subst, ⊎_elim, inl}
use Rattle.std.proofs.Common.{inr, arith}
use mathlib.Core.Option.{some}
use lib.ListN.{get_elem?}
use Rattle.atomic_table.specs.Table.{State, Splits, Joins}
use mathlib.Core.Logic.{dite}
use native.Mathlib.Decide.{ℕ_discrete}
use Rattle.atomic_table.proofs.Lists.{at_set, at_last, set_here, set_again, set_else}
use Rattle.step_table.specs.World.{put}
use Rattle.step_table.proofs.Sums.{put_here, put_else}
use Rattle.running_rows.specs.declared.view.View.{View}
use Rattle.running_rows.specs.declared.view.Seated.{Seated}
use Rattle.running_rows.specs.Family.{Family}
use Rattle.running_rows.specs.Rule.{IsSomeones, IsSeated, HasSeat, In, AreApart, nobody, Sits, HasSeats, IsKept, Holds}
use Rattle.running_rows.specs.Sitting.{alone, leaving, guests_apart, staying, vacant, sitting}
use Rattle.running_rows.specs.History.{SeatStride}
use Rattle.running_rows.specs.Futex.{fresh_parking}
use Rattle.running_rows.proofs.Opening.{at_end}
use Rattle.running_rows.proofs.Dealing.{splits_hold, joins_hold}
use Rattle.running_rows.proofs.Places.{at_low, same_at, replaced, longer, moved, moved_in, moved_else}

module _ {S V T K : Type 0} (f : Family S V T K) (k : f.Key) where
  -- what a view is under the rule
  abbrev pub Is : f.World → List (SeatStride T) → (ℕ → ℕ) → ℕ → ℕ → View V T → Type 0
  Is world history spot made j v = HasSeats f k world history spot made j v × (0 < v.made → (v.own.number ≡ 0) × (v.made ≡ made))

  pub is_at : (world : f.World) (history : List (SeatStride T)) (spot : ℕ → ℕ) (made i j : ℕ) (v w : View V T) → j ≡ i → v ≡ w
      → Is world history spot made i v → Is world history spot made j w
  is_at world history spot made i j v w there same = subst (λ (y : ℕ × View V T). Is world history spot made y.0 y.1) (λ n. (sym there n, same n))

  -- the tokens have changed, and nothing else
  pub respotted : (s : State S (View V T)) (r : IsKept f k s) (spot : ℕ → ℕ) (views : List (View V T))
      → ((j : ℕ) (v : View V T) → get_elem? views j ≡ some v → IsSomeones f v → Is r.world r.history spot r.made j v)
      → ((n : ℕ) → n < r.made → IsSeated f views (spot n) n) → IsKept f k (record { words = s.words; homes = s.homes; views = views })
  respotted s r spot views ok seated = record {
    world = r.world;
    shows = r.shows;
    history = r.history;
    writes = r.writes;
    by_seats = r.by_seats;
    spot = spot;
    made = r.made;
    views = λ j v e h. (ok j v e h).0;
    seated = seated;
    unmade = r.unmade;
    maker = λ j v e h. (ok j v e h).1;
    fits = r.fits;
  }

  nobody_not : (v : View V T) → nobody f ≡ v → IsSomeones f v → ⊥
  nobody_not v e h = let l = ap (λ (u : View V T). f.seats (f.of u.own.knows)) e in let n = f.nobody_is in omega arith

  was_so : (s : State S (View V T)) (r : IsKept f k s) (j : ℕ) (v : View V T) → get_elem? s.views j ≡ some v → IsSomeones f v
      → Is r.world r.history r.spot r.made j v
  was_so s r j v e h = (r.views j v e h, r.maker j v e h)

  -- a token of no seat may be made
  spares : (id : ℕ) (v : View V T) → Splits (IsKept f k) id v (staying v) (vacant f v)
  spares id v s r at = respotted s r r.spot (set s.views id v ++ nobody f ∷ []) (λ j u e h. ⊎_elim
      (λ (was : get_elem? (set s.views id v) j ≡ some u). was_so s r j u
      (ap (λ (l : List (View V T)). get_elem? l j) (sym (set_again s.views id v at)) ∙ was) h)
      (λ (t : (j ≡ length (set s.views id v)) × (nobody f ≡ u)). absurd (nobody_not u t.1 h))
      (at_end (set s.views id v) (nobody f) u j e))
      (λ n low. longer f (set s.views id v) (nobody f) (r.spot n) n
      (subst (λ (l : List (View V T)). IsSeated f l (r.spot n) n) (sym (set_again s.views id v at)) (r.seated n low)))

  pub spares_kept : (id : ℕ) (v : View V T) → Splits (Holds f k) id v (staying v) (vacant f v)
  spares_kept id v = splits_hold f k id v (staying v) (vacant f v) refl refl (spares id v)

  -- the seats of a view sit at another place
  pub sits_at : (world : f.World) (history : List (SeatStride T)) (spot goes : ℕ → ℕ) (made j i : ℕ) (u : Seated V T)
      → Sits f k world history spot made j u → goes u.number ≡ i
      → Sits f k world history goes made i u
  sits_at world history spot goes made j i u o is = record { place_is = is; is_made = o.is_made; of_is = o.of_is; knows = o.knows; went = o.went }

  -- all guests may leave together
  module _ (id : ℕ) (v : View V T) (some_v : IsSomeones f v) (s : State S (View V T)) (r : IsKept f k s) (at : get_elem? s.views id ≡ some v) where
    abbrev without : List (View V T)
    without = set s.views id (alone v)

    stay : HasSeats f k r.world r.history r.spot r.made id v
    stay = r.views id v at some_v

    abbrev away : ℕ → ℕ
    away = moved r.spot v.guests (length without)

    -- a seat that is no guest sits where it sat
    no_guest : (j : ℕ) (u : Seated V T) → ((g : Seated V T) → In g v.guests → g.number ≢ u.number) → Sits f k r.world r.history r.spot r.made j u
        → Sits f k r.world r.history away r.made j u
    no_guest j u none o = sits_at r.world r.history r.spot away r.made j j u o (moved_else r.spot v.guests (length without) u.number none ∙ o.place_is)

    -- who sits at another place is none
    not_there : (j : ℕ) (u : Seated V T) → j ≢ id → Sits f k r.world r.history r.spot r.made j u → (g : Seated V T)
        → In g v.guests → g.number ≢ u.number
    not_there j u ne o g h e = ne (sym o.place_is ∙ ap r.spot (sym e) ∙ (stay.guests g h).place_is)

    left_alone : HasSeats f k r.world r.history away r.made id (alone v)
    left_alone = record { own = no_guest id v.own stay.others stay.own; guests = λ g h. absurd h; others = λ g h. absurd h; apart = tt }

    gone_away : (u : View V T) → leaving f v ≡ u → IsSomeones f u → Is r.world r.history away r.made (length without) u
    gone_away u e h = by v.guests refl
      where
        by : (gs : List (Seated V T)) → v.guests ≡ gs → Is r.world r.history away r.made (length without) u
        by [] none = absurd (nobody_not u (sym (ap (guests_apart f) none) ∙ e) h)
        by (x ∷ xs) is = is_at r.world r.history away r.made (length without) (length without) (record { own = x; guests = xs; made = 0; parking = fresh_parking })
            u refl (sym (ap (guests_apart f) is) ∙ e) (
              record {
                own = leaves x (inl refl);
                guests = λ g i. leaves g (inr i);
                others = all.0;
                apart = all.1;
              },
              (λ made. absurd (omega arith)),
            )
          where
            all : AreApart (x ∷ xs)
            all = subst AreApart is stay.apart

            leaves : (g : Seated V T) → In g (x ∷ xs) → Sits f k r.world r.history away r.made (length without) g
            leaves g i = let here = subst (In g) (sym is) i in
                sits_at r.world r.history r.spot away r.made id (length without) g (stay.guests g here) (moved_in r.spot v.guests (length without) g here)

    -- each seat sits somewhere
    seated_apart : (n : ℕ) → n < r.made → IsSeated f (without ++ leaving f v ∷ []) (away n) n
    seated_apart n low = dite (ℕ_discrete (r.spot n) id) here_it elsewhere_it
      where
        o : IsSeated f s.views (r.spot n) n
        o = r.seated n low

        elsewhere_it : r.spot n ≢ id → IsSeated f (without ++ leaving f v ∷ []) (away n) n
        elsewhere_it ne = subst (λ j. IsSeated f (without ++ leaving f v ∷ []) j n)
            (sym (moved_else r.spot v.guests (length without) n (λ g h e. ne (ap r.spot (sym e) ∙ (stay.guests g h).place_is))))
            (longer f without (leaving f v) (r.spot n) n (replaced f s.views id v (alone v) at some_v (r.spot n) n (λ e. absurd (ne e)) o))

        stays : v.own.number ≡ n → IsSeated f (without ++ leaving f v ∷ []) (away n) n
        stays e = subst (λ j. IsSeated f (without ++ leaving f v ∷ []) j n)
            (sym (moved_else r.spot v.guests (length without) n (λ g h q. stay.others g h (q ∙ sym e)) ∙ ap r.spot (sym e) ∙ stay.own.place_is))
            (longer f without (leaving f v) id n (alone v, set_here s.views id (alone v) (at_low s.views id v at), some_v, inl e))

        goes : ((g : Seated V T) × In g v.guests × (g.number ≡ n)) → IsSeated f (without ++ leaving f v ∷ []) (away n) n
        goes g = subst (λ q. IsSeated f (without ++ leaving f v ∷ []) (away q) q) g.2
            (subst (λ j. IsSeated f (without ++ leaving f v ∷ []) j g.0.number) (sym (moved_in r.spot v.guests (length without) g.0 g.1))
            (leaving f v, at_last without (leaving f v) (length without) refl, some_leaving v.guests refl g.0 g.1, has_leaving v.guests g.0 g.1))
          where
            has_leaving : (gs : List (Seated V T)) (h : Seated V T) → In h gs → HasSeat h.number (guests_apart f gs)
            has_leaving [] h i = absurd i
            has_leaving (x ∷ xs) h (inl e) = inl (ap (λ (y : Seated V T). y.number) e)
            has_leaving (x ∷ xs) h (inr i) = inr (h, i, refl)

            some_leaving : (gs : List (Seated V T)) → v.guests ≡ gs → (h : Seated V T) → In h gs → IsSomeones f (guests_apart f gs)
            some_leaving [] is h i = absurd i
            some_leaving (x ∷ xs) is h i =
                let a = ap f.seats (stay.guests x (subst (In x) (sym is) (inl refl))).of_is in let b = ap f.seats stay.own.of_is in omega (arith, some_v)

        here_it : r.spot n ≡ id → IsSeated f (without ++ leaving f v ∷ []) (away n) n
        here_it e = ⊎_elim stays goes (subst (HasSeat n) (same_at s.views (r.spot n) id o.0 v e o.1 at) o.3)

    apart_kept : IsKept f k (record { words = s.words; homes = s.homes; views = without ++ leaving f v ∷ [] })
    apart_kept = respotted s r away (without ++ leaving f v ∷ []) (λ j u e h. ⊎_elim
        (λ (was : get_elem? without j ≡ some u). ⊎_elim
        (λ (q : (j ≡ id) × (alone v ≡ u)). is_at r.world r.history away r.made id j (alone v) u q.0 q.1 (left_alone, r.maker id v at some_v))
        (λ (q : (j ≢ id) × (get_elem? s.views j ≡ some u)). let o = r.views j u q.1 h in (
          record {
            own = no_guest j u.own (not_there j u.own q.0 o.own) o.own;
            guests = λ g i. no_guest j g (not_there j g q.0 (o.guests g i)) (o.guests g i);
            others = o.others;
            apart = o.apart;
          },
          r.maker j u q.1 h,
        ))
        (at_set s.views id j (alone v) u was))
        (λ (t : (j ≡ length without) × (leaving f v ≡ u)). subst (λ i. Is r.world r.history away r.made i u) (sym t.0) (gone_away u t.1 h))
        (at_end without (leaving f v) u j e))
        seated_apart

  apart_fresh : (gs : List (Seated V T)) → (guests_apart f gs).parking ≡ fresh_parking
  apart_fresh [] = refl
  apart_fresh (g ∷ gs) = refl

  pub forgets_kept : (id : ℕ) (v : View V T) → IsSomeones f v → Splits (Holds f k) id v (alone v) (leaving f v)
  forgets_kept id v some_v = splits_hold f k id v (alone v) (leaving f v) refl (apart_fresh v.guests) (λ s r at. apart_kept id v some_v s r at)

  -- a seat comes to sit with another
  module _ (id : ℕ) (v : View V T) (other : ℕ) (w : View V T) (some_v : IsSomeones f v) (some_w : IsSomeones f w) (s : State S (View V T))
      (r : IsKept f k s) (at : get_elem? s.views id ≡ some v) (lone_w : w.guests ≡ []) (apart : ¬ (other ≡ id))
      (theirs : get_elem? (set s.views id (sitting v w)) other ≡ some w) where
    mine : HasSeats f k r.world r.history r.spot r.made id v
    mine = r.views id v at some_v

    their : HasSeats f k r.world r.history r.spot r.made other w
    their = r.views other w (sym (set_else s.views id other (sitting v w) apart) ∙ theirs) some_w

    abbrev spot : ℕ → ℕ
    spot = put r.spot w.own.number id

    -- who sits elsewhere isn't the seat that moves
    stays_there : (j : ℕ) (u : Seated V T) → j ≢ other → Sits f k r.world r.history r.spot r.made j u → Sits f k r.world r.history spot r.made j u
    stays_there j u ne o =
        sits_at r.world r.history r.spot spot r.made j j u o
        (put_else r.spot w.own.number id u.number (λ q. ne (sym o.place_is ∙ ap r.spot q ∙ their.own.place_is)) ∙ o.place_is)

    differs : (u : Seated V T) → Sits f k r.world r.history r.spot r.made id u → u.number ≢ w.own.number
    differs u o q = apart (sym their.own.place_is ∙ ap r.spot (sym q) ∙ o.place_is)

    comes : Sits f k r.world r.history spot r.made id w.own
    comes = sits_at r.world r.history r.spot spot r.made other id w.own their.own (put_here r.spot w.own.number id)

    guests_are : (g : Seated V T) → In g (w.own ∷ v.guests) → Sits f k r.world r.history spot r.made id g
    guests_are g (inl e) = subst (Sits f k r.world r.history spot r.made id) e comes
    guests_are g (inr e) = stays_there id g (λ q. apart (sym q)) (mine.guests g e)

    others_are : (g : Seated V T) → In g (w.own ∷ v.guests) → g.number ≢ v.own.number
    others_are g (inl e) = λ q. differs v.own mine.own (sym q ∙ ap (λ (h : Seated V T). h.number) (sym e))
    others_are g (inr e) = mine.others g e

    seats_both : HasSeats f k r.world r.history spot r.made id (sitting v w)
    seats_both = record {
      own = stays_there id v.own (λ q. apart (sym q)) mine.own;
      guests = guests_are;
      others = others_are;
      apart = ((λ h e. differs h (mine.guests h e)), mine.apart);
    }

    seats_stay : (j : ℕ) (u : View V T) → j ≢ other → HasSeats f k r.world r.history r.spot r.made j u
        → HasSeats f k r.world r.history spot r.made j u
    seats_stay j u ne o = record { own = stays_there j u.own ne o.own; guests = λ g h. stays_there j g ne (o.guests g h); others = o.others; apart = o.apart }

    -- each seat sits somewhere
    seated_both : (n : ℕ) → n < r.made → IsSeated f (set (set s.views id (sitting v w)) other (nobody f)) (spot n) n
    seated_both n low = dite (ℕ_discrete n w.own.number) comes_it stays_it
      where
        comes_it : n ≡ w.own.number → IsSeated f (set (set s.views id (sitting v w)) other (nobody f)) (spot n) n
        comes_it e = subst (λ q. IsSeated f (set (set s.views id (sitting v w)) other (nobody f)) (spot q) q) (sym e)
            (subst (λ j. IsSeated f (set (set s.views id (sitting v w)) other (nobody f)) j w.own.number) (sym (put_here r.spot w.own.number id)) (
              sitting v w,
              set_else (set s.views id (sitting v w)) other id (nobody f) (λ q. apart (sym q)) ∙ set_here s.views id (sitting v w) (at_low s.views id v at),
              some_v,
              inr (w.own, inl refl, refl),
            ))

        more : (j : ℕ) → j ≡ id → HasSeat n v → HasSeat n (sitting v w)
        more j e = ⊎_elim (λ q. inl q) (λ g. inr (g.0, inr g.1, g.2))

        stays_it : n ≢ w.own.number → IsSeated f (set (set s.views id (sitting v w)) other (nobody f)) (spot n) n
        stays_it ne = let o = r.seated n low in let moved_there = replaced f s.views id v (sitting v w) at some_v (r.spot n) n (more (r.spot n)) o in
            subst (λ j. IsSeated f (set (set s.views id (sitting v w)) other (nobody f)) j n) (sym (put_else r.spot w.own.number id n ne))
            (moved_there.0, set_else (set s.views id (sitting v w)) other (r.spot n) (nobody f) (not_other o) ∙ moved_there.1, moved_there.2, moved_there.3)
          where
            not_other : IsSeated f s.views (r.spot n) n → r.spot n ≢ other
            not_other o e = ⊎_elim
                (λ q. ne (sym q))
                (λ g. absurd (subst (λ (l : List (Seated V T)). In g.0 l) lone_w g.1))
                (subst (HasSeat n) (same_at s.views (r.spot n) other o.0 w e o.1 (sym (set_else s.views id other (sitting v w) apart) ∙ theirs)) o.3)

    joined : IsKept f k (record { words = s.words; homes = s.homes; views = set (set s.views id (sitting v w)) other (nobody f) })
    joined = respotted s r spot (set (set s.views id (sitting v w)) other (nobody f)) (λ j u e h. ⊎_elim
        (λ (t : (j ≡ other) × (nobody f ≡ u)). absurd (nobody_not u t.1 h))
        (λ (t : (j ≢ other) × (get_elem? (set s.views id (sitting v w)) j ≡ some u)). ⊎_elim
        (λ (q : (j ≡ id) × (sitting v w ≡ u)). is_at r.world r.history spot r.made id j (sitting v w) u q.0 q.1 (seats_both, r.maker id v at some_v))
        (λ (q : (j ≢ id) × (get_elem? s.views j ≡ some u)). (seats_stay j u t.0 (r.views j u q.1 h), r.maker j u q.1 h))
        (at_set s.views id j (sitting v w) u t.1))
        (at_set (set s.views id (sitting v w)) other j (nobody f) u e))
        seated_both

  pub sits_kept : (id : ℕ) (v : View V T) (other : ℕ) (w : View V T) → IsSomeones f v → IsSomeones f w → w.guests ≡ []
      → Joins (Holds f k) id v other w (sitting v w) (nobody f)
  sits_kept id v other w some_v some_w lone_w = joins_hold f k id v other w (sitting v w) (nobody f) refl refl
      (λ s r at apart theirs. joined id v other w some_v some_w s r at lone_w apart theirs)
