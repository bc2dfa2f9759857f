-- The first so many sleepers on a word are woken one by one: what is still to be done of it is what the
-- definition does from there on.
use Rattle.std.proofs.Common.{◌≡◌, ℕ, suc, ◌+◌, ◌-◌, ◌<◌, ◌≤◌, pos, List, [], ◌∷◌, ◌++◌, All, length, get_or}
use Rattle.std.proofs.Common.{set, take, drop, eqb, cond, true, false, refl, sym, ap, ◌∙◌, subst, arith}
use Rattle.std.proofs.Common.{length-set, append_assoc}
use Rattle.std.proofs.Math.Nat.{min-eq_left}
use Rattle.std.proofs.Math.Seq.{drop-cons, take-suc, take-append_seam, drop-append_seam}
use Rattle.std.proofs.lemmas.List.{length-take, take-append-drop, drop_all}
use Rattle.std.proofs.lemmas.List.Edits.{length-remove}
use Rattle.std.proofs.lemmas.List.Elements.{All-take, All-drop, All-append, All-get_or}
use Rattle.std.specs.List.{remove}
use Rattle.program_rows.specs.declared.seat.Seat.{Seat}
use Rattle.program_rows.specs.Stored.{Stored, world_over, seats_of, grants_of, seat_of, no_seat, AreThere}
use Rattle.step_rows.specs.Stored.{each}
use Rattle.program_rows.specs.Rows.{HasWoken}
use Rattle.program_rows.proofs.Storing.{seats_kept, grants_show, read_at}
use Rattle.program_steps.specs.declared.stand.Sleeper.{Sleeper}
use Rattle.program_steps.specs.Steps.{left, woken, granted}
use Rattle.step_table.specs.World.{put}

-- t is s of which the first sleepers were looked at; so many may still be woken of those from `at` on
pub record Waking (w many : ℕ) (s t : Stored) (more at : ℕ) : Type 0 where
  pub within : at ≤ length t.sleepers
  pub words : t.words ≡ s.words
  pub count : length t.seats ≡ length s.seats
  pub seats : seats_of t.seats ≡ seats_of s.seats
  pub sleepers : left w many s.sleepers ≡ take at t.sleepers ++ left w more (drop at t.sleepers)
  pub grants : granted (woken w many s.sleepers) (grants_of s.seats)
      ≡ granted (woken w more (drop at t.sleepers)) (grants_of t.seats)
  pub there : AreThere t

left_none : (w : ℕ) (xs : List Sleeper) → left w 0 xs ≡ xs
unfolding left
left_none w [] = refl
left_none w (x ∷ rest) = refl

woken_none : (w : ℕ) (xs : List Sleeper) → woken w 0 xs ≡ []
unfolding woken
woken_none w [] = refl
woken_none w (x ∷ rest) = refl

left_empty : (w more : ℕ) → left w more [] ≡ []
unfolding left
left_empty w more = refl

woken_empty : (w more : ℕ) → woken w more [] ≡ []
unfolding woken
woken_empty w more = refl

left_hit : (w more : ℕ) (x : Sleeper) (rest : List Sleeper) → eqb x.word w ≡ true → left w (suc more) (x ∷ rest) ≡ left w more rest
unfolding left
left_hit w more x rest hit = ap (λ b. cond b (left w more rest) (x ∷ left w (suc more) rest)) hit

left_miss : (w more : ℕ) (x : Sleeper) (rest : List Sleeper) → eqb x.word w ≡ false
    → left w (suc more) (x ∷ rest) ≡ x ∷ left w (suc more) rest
unfolding left
left_miss w more x rest miss = ap (λ b. cond b (left w more rest) (x ∷ left w (suc more) rest)) miss

woken_hit : (w more : ℕ) (x : Sleeper) (rest : List Sleeper) → eqb x.word w ≡ true
    → woken w (suc more) (x ∷ rest) ≡ x.seat ∷ woken w more rest
unfolding woken
woken_hit w more x rest hit = ap (λ b. cond b (x.seat ∷ woken w more rest) (woken w (suc more) rest)) hit

woken_miss : (w more : ℕ) (x : Sleeper) (rest : List Sleeper) → eqb x.word w ≡ false
    → woken w (suc more) (x ∷ rest) ≡ woken w (suc more) rest
unfolding woken
woken_miss w more x rest miss = ap (λ b. cond b (x.seat ∷ woken w more rest) (woken w (suc more) rest)) miss

granted_one : (i : ℕ) (rest : List ℕ) (grants : ℕ → ℕ) → granted (i ∷ rest) grants ≡ granted rest (put grants i 1)
unfolding granted
granted_one i rest grants = refl

granted_none : (grants : ℕ → ℕ) → granted [] grants ≡ grants
unfolding granted
granted_none grants = refl

module _ (w many : ℕ) (s : Stored) where
  pub starts : AreThere s → Waking w many s s many 0
  starts there = record {
    within = omega arith;
    words = refl;
    count = refl;
    seats = refl;
    sleepers = refl;
    grants = refl;
    there = there;
  }

  module _ (t : Stored) (more at : ℕ) (so : Waking w many s t more at) where
    ends_where : take at t.sleepers ++ left w more (drop at t.sleepers) ≡ t.sleepers
        → granted (woken w more (drop at t.sleepers)) (grants_of t.seats) ≡ grants_of t.seats → HasWoken w many s t
    ends_where sleep grant = record {
      world = λ layer. sym (λ j. record (world_over layer s) {
        words = each (pos 0) (sym so.words j);
        sleepers = (so.sleepers ∙ sleep) j;
        grants = (so.grants ∙ grant) j;
        seats = sym so.seats j;
      });
      size = record { words = ap length so.words; seats = so.count; there = λ before. so.there };
    }

    pub ends_all_woken : more ≡ 0 → HasWoken w many s t
    ends_all_woken none = ends_where
        (ap (λ n. take at t.sleepers ++ left w n (drop at t.sleepers)) none
        ∙ ap (λ xs. take at t.sleepers ++ xs) (left_none w (drop at t.sleepers)) ∙ take-append-drop at t.sleepers)
        (ap (λ n. granted (woken w n (drop at t.sleepers)) (grants_of t.seats)) none
        ∙ ap (λ is. granted is (grants_of t.seats)) (woken_none w (drop at t.sleepers)) ∙ granted_none (grants_of t.seats))

    pub ends_all_seen : length t.sleepers ≤ at → HasWoken w many s t
    ends_all_seen seen =
        let empty : drop at t.sleepers ≡ [] = drop_all at t.sleepers seen in
        ends_where
        (ap (λ xs. take at t.sleepers ++ left w more xs) empty ∙ ap (λ xs. take at t.sleepers ++ xs) (left_empty w more)
        ∙ ap (λ xs. take at t.sleepers ++ xs) (sym empty) ∙ take-append-drop at t.sleepers)
        (ap (λ xs. granted (woken w more xs) (grants_of t.seats)) empty ∙ ap (λ is. granted is (grants_of t.seats)) (woken_empty w more)
        ∙ granted_none (grants_of t.seats))

    -- a sleeper is looked at
    module _ (inside : at < length t.sleepers) (x : Sleeper) (is : x ≡ get_or t.sleepers at x) (some : 0 < more) where
      first : drop at t.sleepers ≡ x ∷ drop (suc at) t.sleepers
      first = drop-cons t.sleepers at x inside ∙ ap (λ y. y ∷ drop (suc at) t.sleepers) (sym is)

      one_more : more ≡ suc (more - 1)
      one_more = omega arith

      next_at : suc at ≡ at + 1
      next_at = omega arith

      pub sleeper_there : x.seat < length t.seats
      sleeper_there = subst (λ (y : Sleeper). y.seat < length t.seats) (sym is)
          (All-get_or (λ (y : Sleeper). y.seat < length t.seats) t.sleepers at x inside so.there)

      -- those behind it
      abbrev rest : List Sleeper
      rest = drop (suc at) t.sleepers

      seen : take at t.sleepers ++ x ∷ [] ≡ take (suc at) t.sleepers
      seen = ap (λ y. take at t.sleepers ++ y ∷ []) is ∙ sym (take-suc t.sleepers at x inside)

      missed : eqb x.word w ≡ false → left w more (drop at t.sleepers) ≡ x ∷ left w more rest
      missed miss =
          ap (left w more) first ∙ ap (λ n. left w n (x ∷ rest)) one_more ∙ left_miss w (more - 1) x rest miss
          ∙ ap (λ n. x ∷ left w n rest) (sym one_more)

      pub passed : eqb x.word w ≡ false → Waking w many s t more (at + 1)
      passed miss = record {
        within = omega arith;
        words = so.words;
        count = so.count;
        seats = so.seats;
        sleepers = so.sleepers ∙ ap (λ xs. take at t.sleepers ++ xs) (missed miss)
            ∙ sym (append_assoc (take at t.sleepers) (x ∷ []) (left w more rest)) ∙ ap (λ xs. xs ++ left w more rest) seen
            ∙ ap (λ n. take n t.sleepers ++ left w more (drop n t.sleepers)) next_at;
        grants = so.grants ∙ ap (λ xs. granted (woken w more xs) (grants_of t.seats)) first
            ∙ ap (λ n. granted (woken w n (x ∷ rest)) (grants_of t.seats)) one_more
            ∙ ap (λ is. granted is (grants_of t.seats)) (woken_miss w (more - 1) x rest miss)
            ∙ ap (λ n. granted (woken w n rest) (grants_of t.seats)) (sym one_more)
            ∙ ap (λ n. granted (woken w more (drop n t.sleepers)) (grants_of t.seats)) next_at;
        there = so.there;
      }

      -- it is woken
      module _ (n : ℕ) (who : n ≡ x.seat) (old : Seat) (found : old ≡ get_or t.seats n old) where
        abbrev awake : Seat
        awake = record old { grant = 1 }

        before : length (take at t.sleepers) ≡ at
        before = length-take at t.sleepers ∙ min-eq_left so.within

        taken : take at (remove t.sleepers at) ≡ take at t.sleepers
        taken = subst (λ k. take k (take at t.sleepers ++ rest) ≡ take at t.sleepers) before (take-append_seam (take at t.sleepers) rest)

        dropped : drop at (remove t.sleepers at) ≡ rest
        dropped = subst (λ k. drop k (take at t.sleepers ++ rest) ≡ rest) before (drop-append_seam (take at t.sleepers) rest)

        n_there : n < length t.seats
        n_there = subst (λ k. k < length t.seats) (sym who) sleeper_there

        old_is : old ≡ each no_seat t.seats n
        old_is = read_at no_seat t.seats n old n_there found

        abbrev now : Stored
        now = record { words = t.words; sleepers = remove t.sleepers at; seats = set t.seats n awake }

        granted_now : put (grants_of t.seats) x.seat 1 ≡ grants_of (set t.seats n awake)
        granted_now = ap (λ k. put (grants_of t.seats) k 1) (sym who) ∙ sym (grants_show t.seats n n_there awake)

        pub wakes : eqb x.word w ≡ true → Waking w many s now (more - 1) at
        wakes hit = record {
          within = let l = length-remove t.sleepers at inside in omega arith;
          words = so.words;
          count = length-set t.seats n awake ∙ so.count;
          seats = seats_kept t.seats n n_there awake (ap seat_of old_is) ∙ so.seats;
          sleepers = so.sleepers ∙ ap (λ xs. take at t.sleepers ++ left w more xs) first
              ∙ ap (λ k. take at t.sleepers ++ left w k (x ∷ rest)) one_more
              ∙ ap (λ xs. take at t.sleepers ++ xs) (left_hit w (more - 1) x rest hit)
              ∙ (λ j. sym taken j ++ left w (more - 1) (sym dropped j));
          grants = so.grants ∙ ap (λ xs. granted (woken w more xs) (grants_of t.seats)) first
              ∙ ap (λ k. granted (woken w k (x ∷ rest)) (grants_of t.seats)) one_more
              ∙ ap (λ is. granted is (grants_of t.seats)) (woken_hit w (more - 1) x rest hit)
              ∙ granted_one x.seat (woken w (more - 1) rest) (grants_of t.seats)
              ∙ (λ j. granted (woken w (more - 1) (sym dropped j)) (granted_now j));
          there = subst (λ k. All (λ (y : Sleeper). y.seat < k) (remove t.sleepers at)) (sym (length-set t.seats n awake))
              (All-append (λ (y : Sleeper). y.seat < length t.seats) (take at t.sleepers) rest
              (All-take (λ (y : Sleeper). y.seat < length t.seats) at t.sleepers so.there)
              (All-drop (λ (y : Sleeper). y.seat < length t.seats) (suc at) t.sleepers so.there));
        }
