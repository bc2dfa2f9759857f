-- Where one view has every seat of the table, and all may begin a call, the counts add up and nothing is left.
use Rattle.std.proofs.Common.{◌^◌, ◌≡◌, ◌≢◌, ℕ, zero, suc, true, ◌+◌, ◌*◌, ◌<◌, ◌≤◌, List, [], ◌∷◌, length}
use Rattle.std.proofs.Common.{slice_index, sym, refl, ap, ◌∙◌, subst, inl}
use Rattle.std.proofs.Common.{inr, arith}
use mathlib.Core.Logic.{dite}
use mathlib.Core.Option.{some}
use native.Mathlib.Decide.{ℕ_discrete}
use lib.ListN.{get_elem?}
use Rattle.running_rows.specs.Table.{State}
use Rattle.step_table.specs.declared.entry.Entry.{Entry}
use Rattle.step_table.specs.declared.place.AcquireRow.TheVariants.{A1, A3}
use Rattle.step_table.specs.declared.place.Place.{Place}
use Rattle.step_table.specs.declared.place.Place.TheVariants.{Rest, Acquiring}
use Rattle.step_table.specs.declared.word.Word.TheVariants.{Counter}
use Rattle.step_table.specs.World.{Layout, SemaWorld, SeatState, put}
use Rattle.step_table.specs.Steps.{IsReached, moved, Choice, give_up, give_up_lock, choose}
use Rattle.step_table.specs.Turn.{more}
use Rattle.step_table.specs.Path.{GoesOn, own_entries}
use Rattle.step_table.specs.Journal.{plain_start, replay, takes}
use Rattle.step_table.specs.Counting.{total}
use Rattle.step_table.proofs.Sums.{put_here, put_else, total_zero, total_suc, total_same, total_change, total_has}
use Rattle.step_law_semaphores.specs.Lawful.{IsParked, IsLawfulWorld, added}
use Rattle.step_law_semaphores.specs.Balances.{added_by, taken}
use Rattle.step_law_semaphores.specs.Served.{served}
use Rattle.step_law_semaphores.specs.SemaPath.{semaphores}
use Rattle.step_law_semaphores.proofs.Promises.{the_law}
use Rattle.step_law_semaphores.proofs.Accounts.{the_accounts}
use Rattle.running_rows.specs.History.{Writes, strides_of}
use Rattle.running_rows.specs.Rule.{IsSomeones, In, AreApart, Sits, HasSeats, IsKept}
use Rattle.sema_table.specs.Rows.{SemaSeat, SemaView, semaphore_rows}
use Rattle.sema_table.specs.declared.view.Setting.{Setting}
use Rattle.sema_table.specs.declared.view.Record.{Record}
use Rattle.sema_table.specs.declared.seat.Numbers.{Numbers}
use Rattle.sema_table.specs.Setting.{layout}
use Rattle.sema_table.specs.Places.{is_free}
use Rattle.sema_table.specs.Rule.{sight_by}
use Rattle.sema_table.specs.Seats.{Token, SeatModel, seat_of, IsSeat}
use Rattle.sema_table.specs.Closing.{sum_by, has_added, was_given, IsOfSeat, AreOfSeats, IsClosed}
use Rattle.sema_table.proofs.Bounding.{all_taken_most}
use Rattle.sema_table.proofs.Spending.{added_own, own_seen}
use Rattle.sema_table.proofs.Beginning.{begun}
use Rattle.sema_table.proofs.Resting.{not_both}

abbrev sum_over : (ℕ → ℕ) → List SemaSeat → ℕ
sum_over f [] = 0
sum_over f (g ∷ gs) = f g.number + sum_over f gs

-- the numbers, but 0 for each of these seats
abbrev zeroed : List SemaSeat → (ℕ → ℕ) → ℕ → ℕ
zeroed [] f = f
zeroed (g ∷ gs) f = put (zeroed gs f) g.number 0

zeroed_out : (gs : List SemaSeat) (f : ℕ → ℕ) (k : ℕ) → ((h : SemaSeat) → In h gs → h.number ≢ k) → zeroed gs f k ≡ f k
zeroed_out [] f k ne = refl
zeroed_out (g ∷ gs) f k ne = put_else (zeroed gs f) g.number 0 k (λ q. ne g (inl refl) (sym q)) ∙ zeroed_out gs f k (λ h e. ne h (inr e))

zeroed_in : (gs : List SemaSeat) (f : ℕ → ℕ) (g : SemaSeat) → In g gs → zeroed gs f g.number ≡ 0
zeroed_in [] f g e = absurd e
zeroed_in (h ∷ gs) f g (inl e) = subst (λ (x : SemaSeat). put (zeroed gs f) h.number 0 x.number ≡ 0) e (put_here (zeroed gs f) h.number 0)
zeroed_in (h ∷ gs) f g (inr e) = dite (ℕ_discrete g.number h.number)
    (λ q. subst (λ (k : ℕ). put (zeroed gs f) h.number 0 k ≡ 0) (sym q) (put_here (zeroed gs f) h.number 0))
    (λ ne. put_else (zeroed gs f) h.number 0 g.number ne ∙ zeroed_in gs f g e)

sums : (n : ℕ) (f : ℕ → ℕ) (gs : List SemaSeat) → AreApart gs → ((g : SemaSeat) → In g gs → g.number < n)
    → sum_over f gs + total n (zeroed gs f) ≡ total n f
sums n f [] apart low = omega arith
sums n f (g ∷ gs) apart low =
    let rest = sums n f gs apart.1 (λ h e. low h (inr e)) in
    let c = total_change n (zeroed gs f) (put (zeroed gs f) g.number 0) g.number (low g (inl refl)) (λ k ne. put_else (zeroed gs f) g.number 0 k ne) in
    let here = put_here (zeroed gs f) g.number 0 in let out = zeroed_out gs f g.number apart.0 in omega arith

ones : (gs : List SemaSeat) → sum_over (λ k. 1) gs ≡ length gs
ones [] = refl
ones (g ∷ gs) = let r = ones gs in omega arith

all_ones : (n : ℕ) → total n (λ k. 1) ≡ n
all_ones zero = total_zero (λ k. 1)
all_ones (suc n) = let a = all_ones n in let b = total_suc n (λ k. 1) in omega arith

found_in : (gs : List SemaSeat) (k : ℕ) → zeroed gs (λ j. 1) k ≡ 0 → (g : SemaSeat) × In g gs × (g.number ≡ k)
found_in [] k e = absurd (omega arith)
found_in (g ∷ gs) k e = dite (ℕ_discrete k g.number) (λ q. (g, inl refl, sym q))
    (λ ne. let o = found_in gs k (sym (put_else (zeroed gs (λ j. 1)) g.number 0 k ne) ∙ e) in (o.0, inr o.1, o.2))

module _ (n : ℕ) (gs : List SemaSeat) (apart : AreApart gs) (low : (g : SemaSeat) → In g gs → g.number < n) (full : length gs ≡ n) where
  -- so many seats, all different, are all seats
  each_is_in : (k : ℕ) → k < n → (g : SemaSeat) × In g gs × (g.number ≡ k)
  each_is_in k h = let s = sums n (λ j. 1) gs apart low in let a = ones gs in let b = all_ones n in
      let c = total_has n (zeroed gs (λ j. 1)) k h in found_in gs k (omega arith)

  -- so a sum over them is the sum over all numbers
  sum_all : (f : ℕ → ℕ) → sum_over f gs ≡ total n f
  sum_all f = let s = sums n f gs apart low in
      let none : total n (zeroed gs f) ≡ total n (λ k. 0) = total_same n (zeroed gs f) (λ k. 0)
      (λ k h. let o = each_is_in k h in subst (λ (j : ℕ). zeroed gs f j ≡ 0) o.2 (zeroed_in gs f o.0 o.1)) in
      let zeros = all_zeros n in omega arith
    where
      all_zeros : (n : ℕ) → total n (λ k. 0) ≡ 0
      all_zeros zero = total_zero (λ k. 0)
      all_zeros (suc n) = let a = all_zeros n in let b = total_suc n (λ k. 0) in omega arith

pub seat_is : (t : Token) (n : Numbers) → IsSeat t n → IsOfSeat t.me.0.own.knows.setting t.me.0.own (seat_of t n)
seat_is t n is =
    record { number_is = is.token_is.number_is; free = is.free; given = is.token_is.taken_is; seen = refl; went = refl }

long : (z : Setting) (gs : List SemaSeat) (ss : List SeatModel) → AreOfSeats z gs ss → length gs ≡ length ss
long z [] [] are = refl
long z (g ∷ gs) (s ∷ ss) are = ap suc (long z gs ss are.1)
long z [] (s ∷ ss) are = absurd are
long z (g ∷ gs) [] are = absurd are

sum_is : (z : Setting) (f : ℕ → ℕ) (h : SeatModel → ℕ) (gs : List SemaSeat) (ss : List SeatModel) → AreOfSeats z gs ss
    → ((g : SemaSeat) (s : SeatModel) → In g gs → IsOfSeat z g s → f g.number ≡ h s) → sum_over f gs ≡ sum_by h ss
sum_is z f h [] [] are each = refl
sum_is z f h (g ∷ gs) (s ∷ ss) are each = let a = each g s (inl refl) are.0 in let r = sum_is z f h gs ss are.1 (λ k t e. each k t (inr e)) in omega arith
sum_is z f h [] (s ∷ ss) are each = absurd are
sum_is z f h (g ∷ gs) [] are each = absurd are

-- the seat of a guest, and the guest of a seat
seat_for : (z : Setting) (gs : List SemaSeat) (ss : List SeatModel) → AreOfSeats z gs ss → (g : SemaSeat) → In g gs
    → (s : SeatModel) × In s ss × IsOfSeat z g s
seat_for z [] ss are g e = absurd e
seat_for z (h ∷ gs) [] are g e = absurd are
seat_for z (h ∷ gs) (s ∷ ss) are g (inl e) = (s, inl refl, subst (λ (x : SemaSeat). IsOfSeat z x s) e are.0)
seat_for z (h ∷ gs) (s ∷ ss) are g (inr e) = let o = seat_for z gs ss are.1 g e in (o.0, inr o.1, o.2)

guest_for : (z : Setting) (gs : List SemaSeat) (ss : List SeatModel) → AreOfSeats z gs ss → (s : SeatModel) → In s ss
    → (g : SemaSeat) × In g gs × IsOfSeat z g s
guest_for z gs [] are s e = absurd e
guest_for z [] (t ∷ ss) are s e = absurd are
guest_for z (g ∷ gs) (t ∷ ss) are s (inl e) = (g, inl refl, subst (λ (x : SeatModel). IsOfSeat z g x) e are.0)
guest_for z (g ∷ gs) (t ∷ ss) are s (inr e) = let o = guest_for z gs ss are.1 s e in (o.0, inr o.1, o.2)

-- a seat that may begin a call may come to rest
module _ (m : Layout) (i : ℕ) (there : i < m.seats) (w : SemaWorld) where
  comes_to_rest : (p : Place) → (w.seats i).place ≡ p → is_free p ≡ true → IsReached m w → IsReached m (moved w i Rest)
  comes_to_rest Rest at free reached = begun m i (IsReached m) (λ s t step q. more i there q step) w Rest Rest at (inl refl) reached
  comes_to_rest (Acquiring a A1) at free reached = more i there reached (choose (subst (λ (x : Place). Choice m.counters x Rest) (sym at) (give_up a)))
  comes_to_rest (Acquiring a A3) at free reached = more i there reached (choose (subst (λ (x : Place). Choice m.counters x Rest) (sym at) (give_up_lock a)))
  comes_to_rest _ at free reached = absurd (cc)

-- the seats below n rest, and nothing else has changed
record Rested (m : Layout) (was : SemaWorld) (n : ℕ) : Type 0 where
  pub world : SemaWorld
  pub reached : IsReached m world
  pub words : world.words ≡ was.words
  pub journal : world.journal ≡ was.journal
  pub rest : (k : ℕ) → k < n → (world.seats k).place ≡ Rest
  pub others : (k : ℕ) → n ≤ k → world.seats k ≡ was.seats k

all_rest : (m : Layout) (was : SemaWorld) → IsReached m was → ((k : ℕ) → k < m.seats → is_free (was.seats k).place ≡ true)
    → (n : ℕ) → n ≤ m.seats → Rested m was n
all_rest m was reached free zero low =
    record { world = was; reached = reached; words = refl; journal = refl; rest = λ k h. absurd (omega arith); others = λ k h. refl }
all_rest m was reached free (suc n) low =
    let o = all_rest m was reached free n (omega arith) in let at = ap (λ (x : SeatState). x.place) (o.others n (omega arith)) in record {
      world = moved o.world n Rest;
      reached = comes_to_rest m n (omega arith) o.world (was.seats n).place at (free n (omega arith)) o.reached;
      words = o.words;
      journal = o.journal;
      rest = λ k h. dite (ℕ_discrete k n)
          (λ q. subst (λ (j : ℕ). (put o.world.seats n (record (o.world.seats n) { place = Rest }) j).place ≡ Rest) (sym q)
          (ap (λ (x : SeatState). x.place) (put_here o.world.seats n (record (o.world.seats n) { place = Rest }))))
          (λ ne. ap (λ (x : SeatState). x.place) (put_else o.world.seats n (record (o.world.seats n) { place = Rest }) k ne) ∙ o.rest k (omega arith));
      others = λ k h. put_else o.world.seats n (record (o.world.seats n) { place = Rest }) k (λ q. absurd (omega arith)) ∙ o.others k (omega arith);
    }

free_unparked : (p : Place) (k c turn : ℕ) (w : SemaWorld) → (w.seats k).place ≡ p → is_free p ≡ true → IsParked w k c turn → ⊥
free_unparked p k c turn w at free parked = not_both (is_free p) (ap is_free (sym at ∙ parked.3)) free

module _ (z : Setting) (s : State Record SemaView) (r : IsKept semaphore_rows z s) (id : ℕ) (v : SemaView) (someones : IsSomeones semaphore_rows v)
    (at : get_elem? s.views id ≡ some v) (seats : List SeatModel) (are : AreOfSeats z (v.own ∷ v.guests) seats) (full : length seats ≡ z.seats) where
  abbrev all : List SemaSeat
  all = v.own ∷ v.guests

  abbrev m : Layout
  m = layout z

  here : HasSeats semaphore_rows z r.world r.history r.spot r.made id v
  here = r.views id v at someones

  sits : (g : SemaSeat) → In g all → Sits semaphore_rows z r.world r.history r.spot r.made id g
  sits g (inl e) = subst (λ (x : SemaSeat). Sits semaphore_rows z r.world r.history r.spot r.made id x) e here.own
  sits g (inr e) = here.guests g e

  apart : AreApart all
  apart = (here.others, here.apart)

  low : (g : SemaSeat) → In g all → g.number < z.seats
  low g e = let o = sits g e in let a = o.is_made in let f = r.fits in omega arith

  count : length all ≡ z.seats
  count = long z all seats are ∙ full

  -- each seat of the table is a guest's
  there : (k : ℕ) → k < z.seats → (g : SemaSeat) × In g all × (g.number ≡ k)
  there = each_is_in z.seats all apart low count

  has_seen : (t : SeatModel) → In t seats → GoesOn r.world.journal t.sight.seen
      × (own_entries (semaphores m) t.number r.world.journal ≡ own_entries (semaphores m) t.number t.sight.seen)
  has_seen t e = let o = guest_for z all seats are t e in let q = (sits o.0 o.1).knows.meets in (
    subst (GoesOn r.world.journal) o.2.seen q.later,
    subst (λ (y : ℕ × List Entry). own_entries (semaphores m) y.0 r.world.journal ≡ own_entries (semaphores m) y.0 y.1)
        (λ i. (o.2.number_is i, o.2.seen i)) q.quiet,
  )

  free : (k : ℕ) → k < z.seats → is_free (r.world.seats k).place ≡ true
  free k h = let o = there k h in
      subst (λ (j : ℕ). is_free (r.world.seats j).place ≡ true) o.2
      (ap (λ (x : SeatState). is_free x.place) (sits o.0 o.1).knows.meets.stands ∙ (seat_for z all seats are o.0 o.1).2.free)

  rested : Rested m r.world z.seats
  rested = all_rest m r.world r.shows.reached free z.seats (omega arith)

  unserved : (k : ℕ) → k < z.seats → served m r.world k ≡ 0
  unserved k h = dite (ℕ_discrete (served m r.world k) 0) (λ e. e)
      (λ ne. let p = (the_accounts.served m r.world (the_law.invariant m r.world r.shows.reached) k h).1 (omega (arith, ne)) in
      absurd (free_unparked (r.world.seats k).place k p.0 p.1 r.world refl (free k h) p.2))

  given_all : sum_by was_given seats ≡ taken r.world.journal
  given_all =
      sym (sum_is z (λ k. takes k r.world.journal) was_given all seats are
      (λ g t e is. let o = sits g e in let a = o.knows.takes in let b = unserved g.number (low g e) in let c = is.given in omega arith))
      ∙ sum_all z.seats all apart low count (λ k. takes k r.world.journal) ∙ sym (the_accounts.taken m r.world r.shows.reached)

  pub given_few : sum_by was_given seats ≤ 2 ^ 62 + 2 ^ 48
  given_few = let a = given_all in let b = all_taken_most z r.world r.shows.reached r.shows.small r.shows.counted in omega arith

  added_all : sum_by has_added seats ≡ added r.world.journal
  added_all =
      sym (sum_is z (λ k. added_by k r.world.journal) has_added all seats are
      (λ g t e is. let o = own_seen added_by added_own m r.world g.number (sight_by g.knows) (sits g e).knows.meets in o ∙ (λ i. added_by (is.number_is i) (is.seen i))))
      ∙ sum_all z.seats all apart low count (λ k. added_by k r.world.journal) ∙ sym (the_accounts.added m r.world r.shows.reached)

  lawful : IsLawfulWorld m r.world
  lawful = the_law.reached m r.world r.shows.reached

  value_is : (k : ℕ) → k < length z.starts → slice_index s.words (8 * k) ≡ r.world.words.numbers k
  value_is k h = r.shows.words (Counter k) h

  balance : total (length z.starts) (λ k. slice_index s.words (8 * k)) + sum_by was_given seats ≡ total (length z.starts)
      (layout z).starts + sum_by has_added seats
  balance = let a = the_accounts.balanced_in_all m r.world r.shows.reached in
      let b = total_same (length z.starts) (λ k. slice_index s.words (8 * k)) r.world.words.numbers value_is in
      let c = given_all in let d = added_all in omega arith

  pub is_closed : (values : List ℕ) → length values ≡ length z.starts
      → ((k : ℕ) → k < length z.starts → slice_index values k ≡ slice_index s.words (8 * k))
      → IsClosed z seats (record { values = values; releases = sum_by has_added seats; acquires = sum_by was_given seats })
  is_closed values long_values same = record {
    long = long_values;
    world = rested.world;
    reached = rested.reached;
    lawful = the_law.reached m rested.world rested.reached;
    rest = rested.rest;
    cleared = the_accounts.cleared m rested.world (the_law.invariant m rested.world rested.reached) rested.rest;
    named = the_accounts.named m rested.world rested.reached;
    each = λ k h. (let o = there k h in let q = seat_for z all seats are o.0 o.1 in (q.0, q.1, sym q.2.number_is ∙ o.2));
    begins = λ t e. subst (λ j. GoesOn j t.sight.seen) (sym rested.journal) (has_seen t e).0;
    own =
        λ t e. subst (λ j. own_entries (semaphores m) t.number j ≡ own_entries (semaphores m) t.number t.sight.seen) (sym rested.journal) (has_seen t e).1;
    history = r.history;
    writes = subst (Writes semaphore_rows [] r.history) (sym rested.journal) r.writes;
    by_seats = λ h e. let a = r.by_seats h e in let f = r.fits in omega arith;
    went = λ t e. let o = guest_for z all seats are t e in ap (λ (n : ℕ). strides_of n r.history) (sym o.2.number_is) ∙ (sits o.0 o.1).went ∙ o.2.went;
    values = λ k h. same k h ∙ value_is k h ∙ ap (λ y. y.numbers k) lawful.journal.0
        ∙ ap (λ j. (replay (plain_start (layout z).starts) j).numbers k) (sym rested.journal);
    released = refl;
    added_all = added_all ∙ ap added (sym rested.journal);
    acquired = refl;
    taken_all = given_all ∙ ap taken (sym rested.journal);
    balanced = (let a = total_same (length z.starts) (slice_index values) (λ k. slice_index s.words (8 * k)) same in let b = balance in omega arith);
  }
