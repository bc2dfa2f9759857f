-- No two seats have a guarded value at once, and who locks takes what was given back last.
use Rattle.std.proofs.Common.{◌≡◌, ℕ, ◌<◌, ◌≤◌, ◌==◌, if◌then◌else◌, Bool, true, false, List, []}
use Rattle.std.proofs.Common.{◌∷◌, refl, sym, ap, ◌∙◌, subst, ⊎_elim, inl, inr, eq-eqb, lt_of_not-le}
use mathlib.Core.Logic.{dite}
use native.Mathlib.Decide.{dec_le}
use Rattle.running_rows.specs.declared.view.Seated.{Seated}
use Rattle.running_rows.specs.History.{SeatStride, strides_of}
use Rattle.running_rows.specs.Rule.{In, IsSeated, Sits, IsKept, Holds}
use Rattle.sync_guarded.specs.declared.view.GuardKnown.{GuardKnown}
use Rattle.sync_guarded.specs.declared.view.GuardCall.{GuardCall}
use Rattle.sync_guarded.specs.declared.view.GuardDeed.{GuardDeed}
use Rattle.sync_guarded.specs.declared.view.GuardDeed.TheVariants.{Locked, Unlocked, Looked}
use Rattle.sync_guarded.specs.Rule.{Place, home, lent, is_with, holds_after, turn_of, turns_of, LiesAt, guard_rows}
use Rattle.sync_guarded.specs.Law.{WordState, IsSeatAt, IsOfASeat, TheGuard}
use Rattle.sync_guarded.proofs.Turns.{holds_is, holds_by_turns, lent_to}

-- a call in the history is one of those of its seat
in_strides : {T : Type 0} (m : SeatStride (GuardCall T)) (history : List (SeatStride (GuardCall T))) → In m history → In m.stride (strides_of m.seat history)
in_strides m [] h = absurd h
in_strides {T} m (n ∷ history) h = by (in_strides m history) (n.seat == m.seat) refl h
  where
    by : (In m history → In m.stride (strides_of m.seat history)) → (b : Bool) → (n.seat == m.seat) ≡ b → In m (n ∷ history)
        → In m.stride (if b then n.stride ∷ strides_of m.seat history else strides_of m.seat history)
    by later true e (inl q) = inl (ap (λ (k : SeatStride (GuardCall T)). k.stride) q)
    by later true e (inr q) = inr (later q)
    by later false e (inl q) = let yes = eq-eqb n.seat m.seat (ap (λ (k : SeatStride (GuardCall T)). k.seat) q) in absurd (cc)
    by later false e (inr q) = later q

-- what a seat locked or unlocked is of all that it did
of_turns : {T : Type 0} (c : GuardCall T) (calls : List (GuardCall T)) → In c (turns_of calls) → In c calls
of_turns c [] h = h
of_turns {T} c (d ∷ calls) h = by d.deed (of_turns c calls) h
  where
    by : (deed : GuardDeed) → (In c (turns_of calls) → In c calls) → In c (turn_of deed d (turns_of calls)) → In c (d ∷ calls)
    by Locked later (inl e) = inl e
    by Locked later (inr q) = inr (later q)
    by Unlocked later (inl e) = inl e
    by Unlocked later (inr q) = inr (later q)
    by (Looked has held) later q = inr (later q)

abbrev lent_is : {T : Type 0} → Place T → ℕ
lent_is (home x) = 0
lent_is (lent i) = i

module _ {T : Type 0} (seats : ℕ) (s : WordState T) (r : IsKept guard_rows seats s) where
  -- a seat at this place sits there by the rule
  sits : (place : ℕ) (u : Seated (GuardKnown T) (GuardCall T)) → IsSeatAt s place u → Sits (guard_rows {T = T}) seats r.world r.history r.spot r.made place u
  sits place u o = let all = r.views place o.view o.at o.someones in
      ⊎_elim (λ e. subst (λ (w : Seated (GuardKnown T) (GuardCall T)). Sits (guard_rows {T = T}) seats r.world r.history r.spot r.made place w) e all.own)
      (λ g. all.guests u g) o.sits

  -- it holds the lock by its calls just where the value is with it
  has_it : (place : ℕ) (u : Seated (GuardKnown T) (GuardCall T)) → IsSeatAt s place u → holds_after false u.gone ≡ is_with u.number r.world.at
  has_it place u o = sym (holds_by_turns false u.gone) ∙ ap (holds_after false) (sym (sits place u o).knows.own) ∙ holds_is u.number (home r.world.first) r.world.at r.world.history r.shows.in_turns

  one_has_it : (i k : ℕ) → is_with i r.world.at ≡ true → is_with k r.world.at ≡ true → i ≡ k
  one_has_it i k e d = ap lent_is (sym (lent_to i r.world.at e) ∙ lent_to k r.world.at d)

  module _ (m : SeatStride (GuardCall T)) (h : In m r.world.history) where
    made_it : In m.stride (strides_of m.seat r.world.history)
    made_it = in_strides m r.world.history h

    -- it was made, since it has made a call
    made : r.made ≤ m.seat → ⊥
    made far = absurd (subst (In m.stride) (r.unmade m.seat far (r.shows.there m h)).own made_it)

    seated : m.seat < r.made → IsOfASeat s m
    seated low =
        let o : IsSeated (guard_rows {T = T}) s.views (r.spot m.seat) m.seat = r.seated m.seat low in
        let of : (u : Seated (GuardKnown T) (GuardCall T)) → IsSeatAt s (r.spot m.seat) u → u.number ≡ m.seat → IsOfASeat s m
        = λ u at e. record {
          place = r.spot m.seat;
          seat = u;
          sits = at;
          number = e;
          made = of_turns m.stride u.gone (subst (In m.stride) ((sits (r.spot m.seat) u at).knows.own) (subst (λ n. In m.stride (strides_of n r.world.history)) (sym e) made_it));
        } in ⊎_elim
        (λ e. of o.0.own (record { view = o.0; at = o.1; someones = o.2; sits = inl refl }) e)
        (λ g. of g.0 (record { view = o.0; at = o.1; someones = o.2; sits = inr g.1 }) g.2)
        o.3

    pub of_a_seat : IsOfASeat s m
    of_a_seat = dite (dec_le r.made m.seat) (λ far. absurd (made far)) (λ near. seated (lt_of_not-le near))

pub the_guard : {T : Type 0} → TheGuard {T = T} (Holds guard_rows)
the_guard seats s h = let r = h.kept in record {
  first = r.world.first;
  at = r.world.at;
  history = r.world.history;
  in_turns = r.shows.in_turns;
  lies = subst (λ (n : ℕ). LiesAt r.world.at n s.homes) (sym r.shows.word_is) r.shows.lies;
  each = of_a_seat seats s r;
  own = λ place u o. ((sits seats s r place u o).knows.own, has_it seats s r place u o);
  one = λ place other u w o d e f. one_has_it seats s r u.number w.number (sym (has_it seats s r place u o) ∙ e) (sym (has_it seats s r other w d) ∙ f);
}
