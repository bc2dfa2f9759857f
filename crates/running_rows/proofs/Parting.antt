-- The rule is kept where the first guest leaves a view.
use Rattle.std.proofs.Common.{◌≡◌, ◌≢◌, ℕ, ◌<◌, List, [], ◌∷◌, ◌++◌, length, set, sym, refl, ap, ◌∙◌, subst, ⊎_elim, inl}
use Rattle.std.proofs.Common.{inr, arith}
use mathlib.Core.Option.{some}
use lib.ListN.{get_elem?}
use Rattle.atomic_table.specs.Table.{State, Splits}
use mathlib.Core.Logic.{dite}
use native.Mathlib.Decide.{ℕ_discrete}
use Rattle.atomic_table.proofs.Lists.{at_set, at_last}
use Rattle.step_table.specs.World.{put}
use Rattle.step_table.proofs.Sums.{put_here, put_else}
use Rattle.running_rows.specs.declared.view.View.{View}
use Rattle.running_rows.specs.declared.view.Seated.{Seated}
use Rattle.running_rows.specs.Family.{Family}
use Rattle.running_rows.specs.Rule.{IsSomeones, IsSeated, HasSeat, In, AreApart, Sits, HasSeats, IsKept, Holds}
use Rattle.running_rows.specs.Sitting.{lone, other_guests, first_guest, parting, parted}
use Rattle.running_rows.specs.Futex.{fresh_parking}
use Rattle.running_rows.proofs.Opening.{at_end}
use Rattle.running_rows.proofs.Dealing.{splits_hold}
use Rattle.running_rows.proofs.Places.{replaced, longer}
use Rattle.running_rows.proofs.Seating.{is_at, respotted, sits_at}

module _ {S V T K : Type 0} (f : Family S V T K) (k : f.Key) where
  -- the first guest leaves
  module _ (id : ℕ) (v : View V T) (g : Seated V T) (gs : List (Seated V T)) (with_it : v.guests ≡ g ∷ gs) (some_v : IsSomeones f v)
      (s : State S (View V T)) (r : IsKept f k s) (at : get_elem? s.views id ≡ some v) where
    abbrev left : View V T
    left = record v { guests = gs }

    abbrev before : List (View V T)
    before = set s.views id left

    all : HasSeats f k r.world r.history r.spot r.made id v
    all = r.views id v at some_v

    in_all : (h : Seated V T) → In h (g ∷ gs) → In h v.guests
    in_all h = subst (In h) (sym with_it)

    all_apart : AreApart (g ∷ gs)
    all_apart = subst AreApart with_it all.apart

    abbrev goes : ℕ → ℕ
    goes = put r.spot g.number (length before)

    remains : (j : ℕ) (u : Seated V T) → u.number ≢ g.number → Sits f k r.world r.history r.spot r.made j u
        → Sits f k r.world r.history goes r.made j u
    remains j u ne o = sits_at f k r.world r.history r.spot goes r.made j j u o (put_else r.spot g.number (length before) u.number ne ∙ o.place_is)

    leaver : Sits f k r.world r.history r.spot r.made id g
    leaver = all.guests g (in_all g (inl refl))

    elsewhere : (j : ℕ) (u : Seated V T) → j ≢ id → Sits f k r.world r.history r.spot r.made j u → Sits f k r.world r.history goes r.made j u
    elsewhere j u ne o = remains j u (λ q. ne (sym o.place_is ∙ ap r.spot q ∙ leaver.place_is)) o

    seats_left : HasSeats f k r.world r.history goes r.made id left
    seats_left = record {
      own = remains id v.own (λ q. all.others g (in_all g (inl refl)) (sym q)) all.own;
      guests = λ h e. remains id h (all_apart.0 h e) (all.guests h (in_all h (inr e)));
      others = λ h e. all.others h (in_all h (inr e));
      apart = all_apart.1;
    }

    seats_right : HasSeats f k r.world r.history goes r.made (length before) (lone g)
    seats_right = record {
      own = sits_at f k r.world r.history r.spot goes r.made id (length before) g leaver (put_here r.spot g.number (length before));
      guests = λ h e. absurd e;
      others = λ h e. absurd e;
      apart = tt;
    }

    -- each seat sits somewhere
    seated_parted : (n : ℕ) → n < r.made → IsSeated f (before ++ lone g ∷ []) (goes n) n
    seated_parted n low = dite (ℕ_discrete n g.number)
        (λ e. subst (λ q. IsSeated f (before ++ lone g ∷ []) (goes q) q) (sym e)
        (subst (λ j. IsSeated f (before ++ lone g ∷ []) j g.number) (sym (put_here r.spot g.number (length before)))
        (lone g, at_last before (lone g) (length before) refl, some_g, inl refl)))
        (λ ne. subst (λ j. IsSeated f (before ++ lone g ∷ []) j n) (sym (put_else r.spot g.number (length before) n ne))
        (longer f before (lone g) (r.spot n) n (replaced f s.views id v left at some_v (r.spot n) n (fewer n ne (r.spot n)) (r.seated n low))))
      where
        some_g : IsSomeones f (lone g)
        some_g = let a = ap f.seats leaver.of_is in let b = ap f.seats all.own.of_is in omega (arith, some_v)

        fewer : (n : ℕ) → n ≢ g.number → (j : ℕ) → j ≡ id → HasSeat n v → HasSeat n left
        fewer n ne j e = ⊎_elim (λ q. inl q) (λ h. ⊎_elim
            (λ q. absurd (ne (sym h.2 ∙ ap (λ (y : Seated V T). y.number) (sym q))))
            (λ q. inr (h.0, q, h.2))
            (subst (In h.0) with_it h.1))

    parts : IsKept f k (record { words = s.words; homes = s.homes; views = set s.views id left ++ lone g ∷ [] })
    parts = respotted f k s r goes (set s.views id left ++ lone g ∷ []) (λ j u e h. ⊎_elim
        (λ (was : get_elem? before j ≡ some u). ⊎_elim
        (λ (q : (j ≡ id) × (left ≡ u)). is_at f k r.world r.history goes r.made id j left u q.0 q.1 (seats_left, r.maker id v at some_v))
        (λ (q : (j ≢ id) × (get_elem? s.views j ≡ some u)). let o = r.views j u q.1 h in (
          record { own = elsewhere j u.own q.0 o.own; guests = λ y e. elsewhere j y q.0 (o.guests y e); others = o.others; apart = o.apart },
          r.maker j u q.1 h,
        ))
        (at_set s.views id j left u was))
        (λ (t : (j ≡ length before) × (lone g ≡ u)). is_at f k r.world r.history goes r.made (length before) j (lone g) u t.0 t.1
        (seats_right, (λ made. absurd (omega arith))))
        (at_end before (lone g) u j e))
        seated_parted

  parts_so : (id : ℕ) (v : View V T) (g : Seated V T) (gs : List (Seated V T)) → v.guests ≡ g ∷ gs → IsSomeones f v
      → Splits (IsKept f k) id v (parting v) (parted f v)
  parts_so id v g gs with_it some_v s r at =
      subst (λ (l : List (Seated V T)). IsKept f k
      (record { words = s.words; homes = s.homes; views = set s.views id (record v { guests = other_guests l }) ++ first_guest f l ∷ [] })) (sym with_it)
      (parts id v g gs with_it some_v s r at)

  first_fresh : (gs : List (Seated V T)) → (first_guest f gs).parking ≡ fresh_parking
  first_fresh [] = refl
  first_fresh (g ∷ gs) = refl

  pub parts_kept : (id : ℕ) (v : View V T) (g : Seated V T) (gs : List (Seated V T)) → v.guests ≡ g ∷ gs → IsSomeones f v
      → Splits (Holds f k) id v (parting v) (parted f v)
  parts_kept id v g gs with_it some_v =
      splits_hold f k id v (parting v) (parted f v) refl (first_fresh v.guests) (parts_so id v g gs with_it some_v)
