-- Whom a grant reaches, and what is left where seats rest.
use Rattle.std.proofs.Common.{◌≡◌, ◌⊎◌, ℕ, ◌<◌, List, [], ◌∷◌, length, sym, refl, ap, ◌∙◌, subst, inl, inr, arith}
use Rattle.waiters.specs.declared.wait.Wait.{Wait}
use Rattle.step_table.specs.declared.list_place.AllRow.TheVariants.{L8}
use Rattle.step_table.specs.declared.list_place.ListPlace.{ListPlace}
use Rattle.step_table.specs.declared.list_place.ListPlace.TheVariants.{Waiting, NotifyingOne, NotifyingAll}
use Rattle.step_table.specs.declared.list_place.OneRow.TheVariants.{O9}
use Rattle.step_table.specs.declared.list_place.Ticket.{Ticket}
use Rattle.step_table.specs.declared.list_place.WaitRow.TheVariants.{Parked}
use Rattle.step_table.specs.declared.list_place.ListParkedRow.{ListParkedRow}
use Rattle.step_table.specs.ListWorld.{ListWorld}
use Rattle.step_table.specs.ListEvent.{waiter}
use Rattle.step_table.specs.ListSteps.{event_of}
use Rattle.step_law_lists.specs.ListLawful.{holds, times, IsGrantOf}
use Rattle.step_law_lists.specs.ListInvariant.{HandFits, IsListInvariant}
use Rattle.step_law_lists.specs.ListWellFormed.{asleep_on_list}
use Rattle.step_table.proofs.Sums.{total_has}
use Rattle.step_table.proofs.SumsOfSums.{none}
use Rattle.step_law_lists.proofs.ListPlacing.{one_here, waiter_of}
use Rattle.step_law_lists.proofs.ListLawfulness.{granted_standing}
use Rattle.step_law_lists.specs.ListHolders.{StoresGrant}
use Rattle.step_law_lists.specs.ListPlaces.{GrantsParked, RestsIdle, AllRest, NothingLeft}
use Rattle.step_law_lists.proofs.ListHolding.{stores_one}
use Rattle.step_law_lists.proofs.ListSleeping.{counted}

-- the two places where a seat grants
abbrev Granting : ListPlace → Type 0
Granting place = ((h : ℕ) × (place ≡ NotifyingOne h O9)) ⊎ ((h : ℕ) × (place ≡ NotifyingAll h L8))

has_some : (place : ListPlace) (n : ℕ) → Granting place → HandFits place n → 0 < n
has_some place n (inl e) fits = let one = subst (λ p. HandFits p n) e.1 fits in omega arith
has_some place n (inr e) fits = subst (λ p. HandFits p n) e.1 fits

apart : (place : ListPlace) (t : Ticket) (row : ListParkedRow) → Granting place → place ≡ Waiting t (Parked row) → ⊥
apart place t row (inl e) is = let both = sym e.1 ∙ is in cc
apart place t row (inr e) is = let both = sym e.1 ∙ is in cc

no_hand : (l : List Wait) → length l ≡ 0 → l ≡ []
no_hand [] empty = refl
no_hand (w ∷ l) empty = absurd (omega arith)

module _ (first seats : ℕ) (s : ListWorld) (inv : IsListInvariant first seats s) where
  grants_first : (i k : ℕ) → i < seats → k ≡ waiter i (s.seats i).hand → Granting (s.seats i).place → GrantsParked seats i k s
  grants_first i k there to granting =
      by (s.seats i).hand refl (has_some (s.seats i).place (length (s.seats i).hand) granting (inv.seats_known i there).fits)
    where
      by : (hand : List Wait) → (s.seats i).hand ≡ hand → 0 < length hand → GrantsParked seats i k s
      by [] is some = absurd (omega arith)
      by (w ∷ l) is some =
          let here = one_here w in
          let has = ap (times w) is in
          let held = total_has seats (λ k. times w (s.seats k).hand) i there in
          let v = waiter_of seats s w inv.placed (omega arith) in
          let below = (inv.seats_known i there).granted w (omega arith) in
          subst (λ k. GrantsParked seats i k s) (sym (to ∙ ap (waiter i) is))
          (record {
            ticket = record { word = w.ticket; number = w.id.turn };
            row = v.0.0;
            rest = l;
            hand = is;
            there = v.2;
            other = λ e. apart (s.seats i).place _ v.0.0 granting (ap (λ k. (s.seats k).place) (sym e) ∙ v.0.1);
            parked = v.0.1;
            unset = v.1;
            granted = granted_standing first seats s inv w (omega arith) below;
          })

  pub grants_parked : (i k x : ℕ) → i < seats → StoresGrant (event_of s i) k x → (x ≡ 1) × GrantsParked seats i k s
  grants_parked i k x there stores =
      let is = stores_one i (s.seats i) s.words (s.seats i).place k x stores in (is.0, grants_first i k there is.1 is.2)

  pub idle : RestsIdle seats s
  idle k there rest = no_hand (s.seats k).hand (subst (λ p. HandFits p (length (s.seats k).hand)) rest (inv.seats_known k there).fits)

  pub closed : AllRest seats s → NothingLeft seats s
  closed rest =
      let free = none seats (λ k. holds (s.seats k).place) (λ k there. ap holds (rest k there)) in
      let awake = none seats (λ k. asleep_on_list (s.seats k).place (s.words.grants k))
      (λ k there. ap (λ p. asleep_on_list p (s.words.grants k)) (rest k there)) in
      let lock = inv.lock.0 in
      let sleepers = counted seats s inv.placed in
      record {
        lock = omega arith;
        queue = no_hand s.words.queue (omega arith);
        grants = λ k there. subst (λ p. IsGrantOf p (s.words.grants k)) (rest k there) (inv.grants k);
        hands = λ k there. idle k there (rest k there);
      }
