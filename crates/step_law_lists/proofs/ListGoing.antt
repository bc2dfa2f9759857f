-- Each leave in the journal of a notify list is of the ticket of the seat that tells it, which slept.
use Rattle.std.proofs.Common.{◌≡◌, ℕ, ◌<◌, ◌≢◌, ◌⊎◌, ◌==◌, if◌then◌else◌, true, false, eqb, List, [], ◌∷◌, ◌++◌, Option, Some, None}
use Rattle.std.proofs.Common.{refl, sym, ap, subst, inl, inr, arith}
use Rattle.std.proofs.lemmas.Bool.Decides.{eqb_tells}
use Rattle.waiters.specs.declared.wait.Wait.{Wait}
use Rattle.waiters.specs.Lists.{first_with}
use Rattle.step_table.specs.declared.list_place.AllRow.TheVariants.{L6}
use Rattle.step_table.specs.declared.list_place.ListEffect.{ListEffect}
use Rattle.step_table.specs.declared.list_place.ListEffect.TheVariants.{Nothing, HandsOut, Grants, TakesOut, Forgoes}
use Rattle.step_table.specs.declared.list_place.ListParkedRow.TheVariants.{P, E1, E2, E3, E5}
use Rattle.step_table.specs.declared.list_place.ListPlace.{ListPlace}
use Rattle.step_table.specs.declared.list_place.ListPlace.TheVariants.{Rest, Waiting, NotifyingOne, NotifyingAll}
use Rattle.step_table.specs.declared.list_place.OneRow.TheVariants.{O8, O9}
use Rattle.step_table.specs.declared.list_place.Ticket.{Ticket}
use Rattle.step_table.specs.declared.list_place.WaitRow.TheVariants.{Parked}
use Rattle.step_table.specs.ListWorld.{ListWords, ListSeat, ListEntry, Took, Granted, Forgone, ListWorld, found, first_list, journal_after}
use Rattle.step_table.specs.ListEvent.{ListEvent, ListNext, by_found}
use Rattle.step_table.specs.ListTable.{wait_for, list_event_at}
use Rattle.step_table.specs.ListSteps.{Leads, none, more}
use Rattle.step_law_lists.specs.ListLawful.{IsInReach}
use Rattle.step_law_lists.specs.ListGrants.{RowGoes, RowsGo, IsLeaveAfter, EachGoes}
use Rattle.step_law_lists.proofs.ListRows.{Row, e3, Step, own, post}
use Rattle.step_law_lists.proofs.ListCases.{step_of}
use Rattle.step_law_lists.proofs.ListJournals.{last_or_before}
use Rattle.step_law_lists.proofs.ListKeeping.{list_reached, reach_back}
use Rattle.step_law_lists.proofs.ListLawfulness.{known_at}

nothing_in : (before after : List ListEntry) (e : ListEntry) → [] ≡ before ++ e ∷ after → ⊥
nothing_in [] after e q = cc
nothing_in (x ∷ before) after e q = cc

-- the ticket that goes by a row at this place
abbrev GoesAt : ListPlace → ℕ → Type 0
GoesAt place n = (t : Ticket) × (v : ℕ) × (place ≡ Waiting t (Parked (E3 v))) × (n ≡ t.number)

-- the rows by which a ticket goes
goes_row : {i : ℕ} {g h : ListWords} {p q : ListSeat} {e : ListEffect} → Row i g p q h e → (w : Wait) → e ≡ Forgoes w → GoesAt p.place w.id.turn
goes_row {i = i} (e3 {t = t} {v = v}) w is = (t, v, refl, (let same : wait_for i t ≡ w = cc in ap (λ (x : Wait). x.id.turn) (sym same)))
goes_row _ w is = absurd cc

goes_at : (i : ℕ) (g : ListWords) (seat : ListSeat) (place : ListPlace) (w : Wait)
    → (let e : ListEvent = list_event_at i seat g place in (e.leads (found g e.word)).1 ≡ Forgoes w) → GoesAt place w.id.turn
goes_at i g seat Rest w e = absurd cc
goes_at i g seat (Waiting t (Parked P)) w e = absurd cc
goes_at i g seat (Waiting t (Parked E1)) w e = absurd cc
goes_at i g seat (Waiting t (Parked E2)) w e = absurd cc
goes_at i g seat (Waiting t (Parked (E3 v))) w e =
    (t, v, refl, (let same : wait_for i t ≡ w = cc in ap (λ (x : Wait). x.id.turn) (sym same)))
goes_at i g seat (Waiting t (Parked E5)) w e = absurd cc
goes_at i g seat (NotifyingOne h (O8 t)) w e = by (first_with t g.queue) e
  where
    by : (o : Option Wait)
        → (let next : ListNext = by_found o (Rest, Nothing) (λ w. (NotifyingOne h O9, TakesOut t)) in next.1 ≡ Forgoes w)
        → GoesAt (NotifyingOne h (O8 t)) w.id.turn
    by None e = absurd cc
    by (Some x) e = absurd cc
goes_at i g seat (NotifyingAll h (L6 r)) w e = by (eqb_tells r.notified r.waited) e
  where
    by : ((eqb r.notified r.waited ≡ true) × (r.notified ≡ r.waited)) ⊎ ((eqb r.notified r.waited ≡ false) × (r.notified ≢ r.waited))
        → (if r.notified == r.waited then Nothing else Grants r.handed) ≡ Forgoes w → GoesAt (NotifyingAll h (L6 r)) w.id.turn
    by (inl same_words) = rw same_words.0 (λ e. absurd cc)
    by (inr other_words) = rw other_words.0 (λ e. absurd cc)
goes_at i g seat _ w e = absurd cc

module _ (first seats : ℕ) where
  -- what is known of a seat whose row it is
  row_goes : (t : ListWorld) → IsInReach t.journal → Leads seats (first_list first) t → (i : ℕ) → i < seats → (n : ℕ)
      → GoesAt (t.seats i).place n → RowGoes first t i n
  row_goes t reach led i in_range n is =
      let inv = list_reached first seats t reach led in
      let knows = known_at first seats t i inv in_range (Waiting is.0 (Parked (E3 is.1))) is.2 in
      (is.0, is.1, is.2, is.3, knows.0.0, knows.2)

  -- the journal with one entry more
  goes_more : (t : ListWorld) → Leads seats (first_list first) t → (i : ℕ) → i < seats → (e : ListEffect)
      → ((w : Wait) → e ≡ Forgoes w → RowGoes first t i w.id.turn)
      → EachGoes first seats t.journal → EachGoes first seats (journal_after i e t.journal)
  goes_more t led i in_range (HandsOut ticket) row each before after n k is =
      by (last_or_before t.journal before after (Took i) (Forgone n k) is)
    where
      by : ((rest : List ListEntry) × (t.journal ≡ before ++ Forgone n k ∷ rest)) ⊎ ((before ≡ t.journal) × (Forgone n k ≡ Took i))
          → IsLeaveAfter first seats before n k
      by (inl r) = each before r.0 n k r.1
      by (inr r) = let other = r.1 in absurd cc
  goes_more t led i in_range (Grants upto) row each before after n k is =
      by (last_or_before t.journal before after (Granted upto i) (Forgone n k) is)
    where
      by : ((rest : List ListEntry) × (t.journal ≡ before ++ Forgone n k ∷ rest)) ⊎ ((before ≡ t.journal) × (Forgone n k ≡ Granted upto i))
          → IsLeaveAfter first seats before n k
      by (inl r) = each before r.0 n k r.1
      by (inr r) = let other = r.1 in absurd cc
  goes_more t led i in_range (Forgoes w) row each before after n k is =
      by (last_or_before t.journal before after (Forgone w.id.turn i) (Forgone n k) is)
    where
      by : ((rest : List ListEntry) × (t.journal ≡ before ++ Forgone n k ∷ rest)) ⊎ ((before ≡ t.journal) × (Forgone n k ≡ Forgone w.id.turn i))
          → IsLeaveAfter first seats before n k
      by (inl r) = each before r.0 n k r.1
      by (inr r) =
          let same = r.1 in
          let number : n ≡ w.id.turn = cc in
          let seat : k ≡ i = cc in
          record {
            there = omega arith;
            world = t;
            reached = led;
            journal = sym r.0;
            row = subst (λ k. RowGoes first t k n) (sym seat) (subst (RowGoes first t i) (sym number) (row w refl));
          }
  goes_more t led i in_range _ row each before after n k is = each before after n k is

  goes_step : (t : ListWorld) → IsInReach t.journal → Leads seats (first_list first) t → (i : ℕ) → i < seats → EachGoes first seats t.journal
      → (u : ListWorld) → Step t i u → EachGoes first seats u.journal
  goes_step t reach led i in_range each u (own {e = e} row) =
      goes_more t led i in_range e (λ w is. row_goes t reach led i in_range w.id.turn (goes_row row w is)) each
  goes_step t reach led i in_range each u (post row) = each

  pub each_goes : {s : ListWorld} → IsInReach s.journal → Leads seats (first_list first) s → EachGoes first seats s.journal
  each_goes reach none before after n k is = absurd (nothing_in before after (Forgone n k) is)
  each_goes reach (more {t = t} {u = u} i in_range led listed) before after n k is =
      let earlier = reach_back t i listed reach in
      let mine = (list_reached first seats t earlier led).seats_known i in_range in
      goes_step t earlier led i in_range (each_goes earlier led) u (step_of t u i mine.fits mine.only listed) before after n k is

  pub rows_go : (s : ListWorld) → IsInReach s.journal → Leads seats (first_list first) s → RowsGo first seats s
  rows_go s reach led k w there is = row_goes s reach led k there w.id.turn (goes_at k s.words (s.seats k) (s.seats k).place w is)
