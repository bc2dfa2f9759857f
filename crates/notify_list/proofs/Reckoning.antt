-- Where one view has every seat of the list, and all may begin a call and hold no ticket, all is granted and nothing is left.
use Rattle.std.proofs.Common.{◌≡◌, ◌≢◌, ◌⊎◌, ℕ, zero, suc, Bool, true, false, ◌||◌, ◌<◌, ◌≤◌, eqb, List, [], ◌∷◌}
use Rattle.std.proofs.Common.{length, map, slice_index, None, sym, refl, ap}
use Rattle.std.proofs.Common.{◌∙◌, subst, inl, inr, arith}
use Rattle.std.proofs.lemmas.Bool.Decides.{nat_tests}
use Rattle.std.proofs.lemmas.Bool.{cases_Bool}
use Rattle.std.proofs.lemmas.Map.Steps.{length-le_from_distinct_below}
use Rattle.std.specs.List.{AllByRecursion, IsDistinct, list_any}
use mathlib.Core.Logic.{dite}
use mathlib.Core.Option.{some}
use native.Mathlib.Decide.{ℕ_discrete}
use lib.ListN.{get_elem?}
use Rattle.running_rows.specs.Table.{State}
use Rattle.step_table.specs.declared.list_place.ListPlace.TheVariants.{Rest}
use Rattle.step_table.specs.declared.list_place.ListWord.TheVariants.{Wait, Notify}
use Rattle.step_table.specs.World.{put}
use Rattle.step_table.specs.ListWorld.{ListSeat, ListEntry, ListWorld}
use Rattle.step_table.specs.Path.{GoesOn, own_entries}
use Rattle.step_table.proofs.Sums.{put_here, put_else}
use Rattle.step_law_lists.proofs.ListAccounts.{the_list_accounts}
use Rattle.step_law_lists.proofs.ListPromises.{the_list_law}
use Rattle.step_law_lists.specs.ListPlaces.{ReachedList}
use Rattle.notify_list.specs.declared.closed.ListClosed.{ListClosed}
use Rattle.notify_list.specs.declared.view.Record.{Record}
use Rattle.notify_list.specs.declared.view.Setting.{Setting}
use Rattle.notify_list.specs.Places.{is_free, at_place}
use Rattle.running_rows.specs.History.{Writes, strides_of}
use Rattle.running_rows.specs.Rule.{IsSomeones, In, AreApart, Sits, HasSeats, IsKept}
use Rattle.notify_list.specs.Rule.{IsMet, watched}
use Rattle.notify_list.specs.Rows.{list_rows}
use Rattle.notify_list.specs.Plays.{OneSeat, ListView}
use Rattle.notify_list.specs.Seats.{SeatModel}
use Rattle.notify_list.specs.Closing.{IsSeatOf, AreSeatsOf, IsClosed}
use Rattle.notify_list.proofs.Beginning.{with_seat, comes_to_rest}
use Rattle.notify_list.proofs.Going.{met_step}
use Rattle.notify_list.proofs.Keeping.{laws_of}

abbrev numbers : List OneSeat → List ℕ
numbers = map (λ g. g.number)

differ : (gs : List OneSeat) (k : ℕ) → ((h : OneSeat) → In h gs → h.number ≢ k) → AllByRecursion (λ y. eqb k y ≡ false) (numbers gs)
differ [] k ne = tt
differ (g ∷ gs) k ne = (unequal (cases_Bool (eqb k g.number)), differ gs k (λ h e. ne h (inr e)))
  where
    unequal : (eqb k g.number ≡ true) ⊎ (eqb k g.number ≡ false) → eqb k g.number ≡ false
    unequal (inl e) = absurd (ne g (inl refl) (let q : g.number ≡ k = grind (arith, nat_tests) in q))
    unequal (inr e) = e

distinct : (gs : List OneSeat) → AreApart gs → IsDistinct eqb (numbers gs)
unfolding IsDistinct
distinct [] apart = tt
distinct (g ∷ gs) apart = (differ gs g.number apart.0, distinct gs apart.1)

found_in : (gs : List OneSeat) (k : ℕ) → list_any (eqb k) (numbers gs) ≡ true → (g : OneSeat) × In g gs × (g.number ≡ k)
found_in [] k e = absurd (cc)
found_in (g ∷ gs) k e = by (eqb k g.number) refl e (found_in gs k)
  where
    by : (b : Bool) → eqb k g.number ≡ b → (b || list_any (eqb k) (numbers gs)) ≡ true
        → (list_any (eqb k) (numbers gs) ≡ true → (h : OneSeat) × In h gs × (h.number ≡ k)) → (h : OneSeat) × In h (g ∷ gs) × (h.number ≡ k)
    by true is e rest = (g, inl refl, (let q : g.number ≡ k = grind (arith, nat_tests) in q))
    by false is e rest = let o = rest e in (o.0, inr o.1, o.2)

long_numbers : (gs : List OneSeat) → length (numbers gs) ≡ length gs
long_numbers [] = refl
long_numbers (g ∷ gs) = ap suc (long_numbers gs)

absent_from : (gs : List OneSeat) (k : ℕ) → list_any (eqb k) (numbers gs) ≡ false → AllByRecursion (λ y. eqb k y ≡ false) (numbers gs)
absent_from [] k e = tt
absent_from (g ∷ gs) k e = by (eqb k g.number) refl e (absent_from gs k)
  where
    by : (b : Bool) → eqb k g.number ≡ b → (b || list_any (eqb k) (numbers gs)) ≡ false
        → (list_any (eqb k) (numbers gs) ≡ false → AllByRecursion (λ y. eqb k y ≡ false) (numbers gs))
        → AllByRecursion (λ y. eqb k y ≡ false) (numbers (g ∷ gs))
    by true is e rest = absurd (cc)
    by false is e rest = (is, rest e)

one_more_distinct : (gs : List OneSeat) (k : ℕ) → AreApart gs → list_any (eqb k) (numbers gs) ≡ false → IsDistinct eqb (k ∷ numbers gs)
unfolding IsDistinct
one_more_distinct gs k apart e = (absent_from gs k e, distinct gs apart)

-- so many seats, all different, are all seats
each_is_in : (n : ℕ) (gs : List OneSeat) → AreApart gs → ((g : OneSeat) → In g gs → g.number < n) → length gs ≡ n → (k : ℕ) → k < n
    → (g : OneSeat) × In g gs × (g.number ≡ k)
each_is_in n gs apart low full k there = by (cases_Bool (list_any (eqb k) (numbers gs)))
  where
    below : (q : ℕ) → list_any (eqb q) (k ∷ numbers gs) ≡ true → q < n
    below q e = at_head (eqb q k) refl e
      where
        at_head : (b : Bool) → eqb q k ≡ b → (b || list_any (eqb q) (numbers gs)) ≡ true → q < n
        at_head true is e = (let same : q ≡ k = grind (arith, nat_tests) in omega arith)
        at_head false is e = (let o = found_in gs q e in let l = low o.0 o.1 in let s = o.2 in omega arith)

    by : (list_any (eqb k) (numbers gs) ≡ true) ⊎ (list_any (eqb k) (numbers gs) ≡ false) → (g : OneSeat) × In g gs × (g.number ≡ k)
    by (inl e) = found_in gs k e
    by (inr e) = let most = length-le_from_distinct_below (k ∷ numbers gs) n (one_more_distinct gs k apart e) below in
        let l = long_numbers gs in absurd (omega arith)

long : (gs : List OneSeat) (ss : List SeatModel) → AreSeatsOf gs ss → length gs ≡ length ss
long [] [] are = refl
long (g ∷ gs) (s ∷ ss) are = ap suc (long gs ss are.1)
long [] (s ∷ ss) are = absurd are
long (g ∷ gs) [] are = absurd are

-- the seat of a guest
seat_for : (gs : List OneSeat) (ss : List SeatModel) → AreSeatsOf gs ss → (g : OneSeat) → In g gs → (s : SeatModel) × In s ss × IsSeatOf g s
seat_for [] ss are g e = absurd e
seat_for (h ∷ gs) [] are g e = absurd are
seat_for (h ∷ gs) (s ∷ ss) are g (inl e) = (s, inl refl, subst (λ (x : OneSeat). IsSeatOf x s) e are.0)
seat_for (h ∷ gs) (s ∷ ss) are g (inr e) = let o = seat_for gs ss are.1 g e in (o.0, inr o.1, o.2)

-- the guest of a seat
guest_for : (gs : List OneSeat) (ss : List SeatModel) → AreSeatsOf gs ss → (s : SeatModel) → In s ss → (g : OneSeat) × In g gs × IsSeatOf g s
guest_for gs [] are s e = absurd e
guest_for [] (t ∷ ss) are s e = absurd are
guest_for (g ∷ gs) (t ∷ ss) are s (inl e) = (g, inl refl, subst (λ (x : SeatModel). IsSeatOf g x) e are.0)
guest_for (g ∷ gs) (t ∷ ss) are s (inr e) = let o = guest_for gs ss are.1 s e in (o.0, inr o.1, o.2)

-- the seats below n rest, and nothing else has changed
record Rested (z : Setting) (was : ListWorld) (n : ℕ) : Type 0 where
  pub world : ListWorld
  pub met : IsMet z world
  pub words : world.words ≡ was.words
  pub journal : world.journal ≡ was.journal
  pub rest : (k : ℕ) → k < n → (world.seats k).place ≡ Rest
  pub tickets : (k : ℕ) → (world.seats k).ticket ≡ (was.seats k).ticket
  pub others : (k : ℕ) → n ≤ k → world.seats k ≡ was.seats k

all_rest : (z : Setting) (was : ListWorld) → z.seats ≤ 65536 → IsMet z was → ((k : ℕ) → k < z.seats → is_free (was.seats k).place ≡ true) → (n : ℕ)
    → n ≤ z.seats → Rested z was n
all_rest z was few met free zero low =
    record { world = was; met = met; words = refl; journal = refl; rest = λ k h. absurd (omega arith); tickets = λ k. refl; others = λ k h. refl }
all_rest z was few met free (suc n) low =
    let o = all_rest z was few met free n (omega arith) in let at = ap (λ (y : ListSeat). is_free y.place) (o.others n (omega arith)) in
    let a : ListSeat = at_place Rest (o.world.seats n) in record {
      world = with_seat o.world n a;
      met = comes_to_rest n (IsMet z) (λ s t step early q. met_step z s t n few (omega arith) q step early) o.world (at ∙ free n (omega arith)) o.met;
      words = o.words;
      journal = o.journal;
      rest = λ k h. dite (ℕ_discrete k n)
          (λ q. subst (λ (j : ℕ). (put o.world.seats n a j).place ≡ Rest) (sym q) (ap (λ (y : ListSeat). y.place) (put_here o.world.seats n a)))
          (λ ne. ap (λ (y : ListSeat). y.place) (put_else o.world.seats n a k ne) ∙ o.rest k (omega arith));
      tickets = λ k. dite (ℕ_discrete k n)
          (λ q. subst (λ (j : ℕ). (put o.world.seats n a j).ticket ≡ (was.seats j).ticket) (sym q)
          (ap (λ (y : ListSeat). y.ticket) (put_here o.world.seats n a) ∙ o.tickets n))
          (λ ne. ap (λ (y : ListSeat). y.ticket) (put_else o.world.seats n a k ne) ∙ o.tickets k);
      others = λ k h. put_else o.world.seats n a k (λ q. absurd (omega arith)) ∙ o.others k (omega arith);
    }

module _ (z : Setting) (s : State Record ListView) (r : IsKept list_rows z s) (id : ℕ) (v : ListView) (someones : IsSomeones list_rows v)
    (at : get_elem? s.views id ≡ some v) (seats : List SeatModel) (are : AreSeatsOf (v.own ∷ v.guests) seats) (full : length seats ≡ z.seats) where
  abbrev all : List OneSeat
  all = v.own ∷ v.guests

  here : HasSeats list_rows z r.world r.history r.spot r.made id v
  here = r.views id v at someones

  sits : (g : OneSeat) → In g all → Sits list_rows z r.world r.history r.spot r.made id g
  sits g (inl e) = subst (λ (x : OneSeat). Sits list_rows z r.world r.history r.spot r.made id x) e here.own
  sits g (inr e) = here.guests g e

  -- each seat of the list is a guest's
  guest_there : (k : ℕ) → k < z.seats → (g : OneSeat) × In g all × (g.number ≡ k)
  guest_there = each_is_in z.seats all (here.others, here.apart)
      (λ g e. let o = sits g e in let a = o.is_made in let f = r.fits in omega arith) (long all seats are ∙ full)

  stands : (k : ℕ) → k < z.seats → (is_free (r.world.seats k).place ≡ true) × ((r.world.seats k).ticket ≡ None)
  stands k h =
      let o = guest_there k h in let q = seat_for all seats are o.0 o.1 in let e = (sits o.0 o.1).knows.meets.stands in
      subst (λ (j : ℕ). (is_free (r.world.seats j).place ≡ true) × ((r.world.seats j).ticket ≡ None)) o.2
      (ap (λ (y : ListSeat). is_free y.place) e ∙ q.2.free, ap (λ (y : ListSeat). y.ticket) e ∙ q.2.holds_none)

  rested : Rested z r.world z.seats
  rested = all_rest z r.world r.shows.few r.shows.met (λ k h. (stands k h).0) z.seats (omega arith)

  laws : ReachedList z.first z.seats rested.world
  laws = laws_of z rested.world rested.met

  holds_none : (k : ℕ) → k < z.seats → (rested.world.seats k).ticket ≡ None
  holds_none k h = rested.tickets k ∙ (stands k h).1

  has_seen : (t : SeatModel) → In t seats
      → GoesOn r.world.journal t.sight.seen × (own_entries (watched z) t.number r.world.journal ≡ own_entries (watched z) t.number t.sight.seen)
  has_seen t e =
      let o = guest_for all seats are t e in let m = (sits o.0 o.1).knows.meets in (
        subst (GoesOn r.world.journal) o.2.seen m.later,
        subst (λ (y : ℕ × List ListEntry). own_entries (watched z) y.0 r.world.journal ≡ own_entries (watched z) y.0 y.1)
            (λ i. (o.2.number_is i, o.2.seen i)) m.quiet,
      )

  pub is_closed : (c : ListClosed) → c.next ≡ slice_index s.words 0 → c.notified ≡ slice_index s.words 1 → IsClosed z seats c
  is_closed c next notified =
      let told_all = the_list_law.closed z.first z.seats rested.world laws.invariant (λ k h. (rested.rest k h, holds_none k h)) in record {
        world = rested.world;
        met = rested.met;
        lawful = laws.lawful;
        rest = rested.rest;
        holds_none = holds_none;
        cleared = the_list_accounts.cleared z.first z.seats rested.world laws.invariant rested.rest;
        named = the_list_accounts.named z.first z.seats rested.world rested.met.reached;
        each = λ k h. (let o = guest_there k h in let q = seat_for all seats are o.0 o.1 in (q.0, q.1, sym q.2.number_is ∙ o.2));
        begins = λ t e. subst (λ j. GoesOn j t.sight.seen) (sym rested.journal) (has_seen t e).0;
        own = λ t e. subst (λ j. own_entries (watched z) t.number j ≡ own_entries (watched z) t.number t.sight.seen) (sym rested.journal) (has_seen t e).1;
        history = r.history;
        writes = subst (Writes list_rows [] r.history) (sym rested.journal) r.writes;
        by_seats = λ h e. let a = r.by_seats h e in let f = r.fits in omega arith;
        went =
            λ t e. let o = guest_for all seats are t e in ap (λ (n : ℕ). strides_of n r.history) (sym o.2.number_is) ∙ (sits o.0 o.1).went ∙ o.2.went;
        granted = sym told_all.0;
        next = next ∙ r.shows.words Wait tt ∙ ap (λ g. g.wait) (sym rested.words) ∙ laws.lawful.journal.1;
        notified = notified ∙ r.shows.words Notify tt ∙ ap (λ g. g.notify) (sym rested.words) ∙ laws.lawful.journal.2;
      }
