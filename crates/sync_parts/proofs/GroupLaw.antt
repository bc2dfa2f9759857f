-- Each row in the history of a state word is that of a seat.
use Rattle.std.proofs.Common.{◌≡◌, ℕ, ◌<◌, ◌≤◌, ◌==◌, if◌then◌else◌, Bool, true, false, List, [], ◌∷◌, refl, sym, ap, subst}
use Rattle.std.proofs.Common.{⊎_elim, inl, inr, eq-eqb}
use Rattle.std.proofs.Common.{lt_of_not-le}
use mathlib.Core.Logic.{dite}
use native.Mathlib.Decide.{dec_le}
use Rattle.running_rows.specs.Table.{State}
use Rattle.running_rows.specs.declared.view.Seated.{Seated}
use Rattle.running_rows.specs.History.{SeatStride, strides_of}
use Rattle.running_rows.specs.Rule.{In, IsSeated, Sits, IsKept, Holds}
use Rattle.sync_parts.specs.declared.group_view.GroupKnown.{GroupKnown}
use Rattle.sync_parts.specs.declared.group_view.GroupStep.{GroupStep}
use Rattle.sync_parts.specs.GroupPlays.{GroupView}
use Rattle.sync_parts.specs.GroupRule.{Leads, group_rows}
use Rattle.step_table.specs.Group.{empty_word}
use Rattle.sync_parts.specs.GroupLaw.{IsOfASeat, TheGroup}

-- a row in the history is one of those of its seat
in_strides : (m : SeatStride GroupStep) (history : List (SeatStride GroupStep)) → In m history → In m.stride (strides_of m.seat history)
in_strides m [] h = absurd h
in_strides m (n ∷ history) h = by (in_strides m history) (n.seat == m.seat) refl h
  where
    by : (In m history → In m.stride (strides_of m.seat history)) → (b : Bool) → (n.seat == m.seat) ≡ b → In m (n ∷ history)
        → In m.stride (if b then n.stride ∷ strides_of m.seat history else strides_of m.seat history)
    by later true e (inl q) = inl (ap (λ (k : SeatStride GroupStep). k.stride) q)
    by later true e (inr q) = inr (later q)
    by later false e (inl q) = let yes = eq-eqb n.seat m.seat (ap (λ (k : SeatStride GroupStep). k.seat) q) in absurd (cc)
    by later false e (inr q) = later q

module _ (seats : ℕ) (s : State (Unit {0}) GroupView) (r : IsKept group_rows seats s) (m : SeatStride GroupStep) (h : In m r.world.history) where
  ran_it : In m.stride (strides_of m.seat r.world.history)
  ran_it = in_strides m r.world.history h

  -- it was made, since it has run a row
  made : r.made ≤ m.seat → ⊥
  made far = absurd (subst (In m.stride) (r.unmade m.seat far (r.shows.there m h)).own ran_it)

  -- a seat of this number has the row among its strides
  has_it : (place : ℕ) (u : Seated GroupKnown GroupStep) → Sits group_rows seats r.world r.history r.spot r.made place u
      → u.number ≡ m.seat → In m.stride u.gone
  has_it place u o e = subst (In m.stride) o.knows.own (subst (λ n. In m.stride (strides_of n r.world.history)) (λ i. sym e i) ran_it)

  seated : m.seat < r.made → IsOfASeat seats s m
  seated low = let o : IsSeated group_rows s.views (r.spot m.seat) m.seat = r.seated m.seat low in let all = r.views (r.spot m.seat) o.0 o.1 o.2 in ⊎_elim
      (λ e. record {
        there = r.shows.there m h;
        place = r.spot m.seat;
        view = o.0;
        at = o.1;
        seat = o.0.own;
        sits = inl refl;
        number = e;
        ran = has_it (r.spot m.seat) o.0.own all.own e;
      })
      (λ g. record {
        there = r.shows.there m h;
        place = r.spot m.seat;
        view = o.0;
        at = o.1;
        seat = g.0;
        sits = inr g.1;
        number = g.2;
        ran = has_it (r.spot m.seat) g.0 (all.guests g.0 g.1) g.2;
      })
      o.3

  pub of_a_seat : IsOfASeat seats s m
  of_a_seat = dite (dec_le r.made m.seat) (λ far. absurd (made far)) (λ near. seated (lt_of_not-le near))

pub the_group : TheGroup (Holds group_rows)
the_group seats s h = let r = h.kept in record {
  history = r.world.history;
  leads = subst (Leads empty_word r.world.history) (sym r.shows.word_is) r.shows.leads;
  each = of_a_seat seats s r;
  own = λ place view at someones. (r.views place view at someones).own.knows.own;
}
