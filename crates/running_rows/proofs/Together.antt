-- What two seats have that looked at one moment.
use Rattle.std.proofs.Common.{◌≡◌, ℕ, ◌<◌, List, [], ◌∷◌, sym, ap, ◌∙◌, subst}
use Rattle.atomic_table.specs.Table.{Me}
use Rattle.running_rows.specs.declared.view.View.{View}
use Rattle.running_rows.specs.declared.view.Seated.{Seated}
use Rattle.running_rows.specs.declared.parking.Parking.{Parking}
use Rattle.running_rows.specs.Futex.{joined as joined_parking}
use Rattle.running_rows.specs.Family.{Family}
use Rattle.running_rows.specs.Rule.{IsSomeones}
use Rattle.running_rows.specs.Sitting.{lone, sitting, first_guest, parting, parted, Met, MetAt}

module _ {S V T K : Type 0} (f : Family S V T K) (s o t u : Me S (View V T)) (joined : t ≡ (sitting s.0 o.0, s.1)) (i n : ℕ) (told : MetAt f i t n u) where
  pub guests_t : t.0.guests ≡ o.0.own ∷ s.0.guests
  guests_t = ap (λ (m : Me S (View V T)). m.0.guests) joined

  abbrev pub guest : Seated V T
  guest = (told o.0.own s.0.guests guests_t).0

  changed : u ≡ (record t.0 { own = u.0.own; guests = guest ∷ s.0.guests }, t.1)
  changed = (told o.0.own s.0.guests guests_t).2

  pub guests_u : u.0.guests ≡ guest ∷ s.0.guests
  guests_u = ap (λ (m : Me S (View V T)). m.0.guests) changed

  -- what both have done with sleepers
  abbrev pub both : Parking
  both = joined_parking s.0.parking o.0.parking

  -- the first is as it was, but for what it saw
  pub left : ◌≡◌ {A = Me S (View V T)} (parting u.0, u.1) (record s.0 { own = u.0.own; parking = both }, s.1)
  left = (λ j. (record (parting (changed j).0) { own = u.0.own }, (changed j).1))
      ∙ (λ j. (record (joined j).0 { own = u.0.own; guests = s.0.guests }, (joined j).1))

  -- the guest sits alone
  pub right : ◌≡◌ {A = Me S (View V T)} (parted f u.0, []) (lone guest, [])
  right = ap (λ (gs : List (Seated V T)). (first_guest f gs, [])) guests_u

  pub met : Met f (f.word_at (f.of s.0.own.knows) i) s.0.own o.0.own n u.0.own guest
  met = subst (λ (v : Seated V T). Met f (f.word_at (f.of v.knows) i) v o.0.own n u.0.own guest)
      (ap (λ (m : Me S (View V T)). m.0.own) joined) (told o.0.own s.0.guests guests_t).1

  pub some_u : IsSomeones f s.0 → IsSomeones f u.0
  some_u some = subst (λ k. 0 < f.seats k) (sym (met.one.same.1)) some

  -- they part
  module _ (a b : Me S (View V T)) (left_is : a ≡ (parting u.0, u.1)) (right_is : b ≡ (parted f u.0, [])) where
    own_a : a.0.own ≡ u.0.own
    own_a = ap (λ (m : Me S (View V T)). m.0.own) left_is

    parking_a : a.0.parking ≡ both
    parking_a = ap (λ (m : Me S (View V T)). m.0.parking) (left_is ∙ left)

    alone_b : b ≡ (lone guest, [])
    alone_b = right_is ∙ right

    own_b : b.0.own ≡ guest
    own_b = ap (λ (m : Me S (View V T)). m.0.own) alone_b

    pub met_at : Met f (f.word_at (f.of s.0.own.knows) i) s.0.own o.0.own n a.0.own b.0.own
    met_at =
        subst (λ (y : Seated V T × Seated V T). Met f (f.word_at (f.of s.0.own.knows) i) s.0.own o.0.own n y.0 y.1) (λ j. (sym own_a j, sym own_b j)) met

    pub left_at : a ≡ (record s.0 { own = a.0.own; parking = a.0.parking }, s.1)
    left_at = left_is ∙ left ∙ (λ j. (record s.0 { own = sym own_a j; parking = sym parking_a j }, s.1))

    pub right_at : b ≡ (lone b.0.own, [])
    right_at = alone_b ∙ (λ j. (lone (sym own_b j), []))
