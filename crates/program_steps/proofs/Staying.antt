-- No seat of a lock program gives up its sleep, and so no ticket goes.
use Rattle.std.proofs.Common.{◌≡◌, ℕ, ◌+◌, Bool, true, false, if◌then◌else◌, List, [], ◌∷◌, ◌++◌, length, refl, sym, ap, ◌∙◌, subst}
use Rattle.std.specs.Prelude.{◌==◌, nat_lt, ⊤, Option, Some, None}
use Rattle.waiters.specs.declared.wait.Wait.{Wait}
use Rattle.waiters.specs.Lists.{first_with}
use Rattle.step_law_lists.specs.ListLawful.{leaves}
use Rattle.step_table.specs.declared.call.Call.{Call}
use Rattle.step_table.specs.declared.call.Call.TheVariants.{Acquire, Release, ReleaseMany, Add, Wait as WaitCall, One, All}
use Rattle.step_table.specs.declared.list_place.AllRow.TheVariants.{L1, L2, L3, L4, L5, L6, L7, L8}
use Rattle.step_table.specs.declared.list_place.ListEffect.{ListEffect}
use Rattle.step_table.specs.declared.list_place.ListEffect.TheVariants.{Nothing, HandsOut, Grants, TakesOut, Forgoes}
use Rattle.step_table.specs.declared.list_place.ListParkedRow.TheVariants.{P}
use Rattle.step_table.specs.declared.list_place.ListPlace.{ListPlace}
use Rattle.step_table.specs.declared.list_place.ListPlace.TheVariants as on_list
use Rattle.step_table.specs.declared.list_place.ListPlace.TheVariants.{Adding, Waiting, NotifyingOne, NotifyingAll}
use Rattle.step_table.specs.declared.list_place.OneRow.TheVariants.{O1, O2, O3, O4, O5, O6, O7, O8, O9}
use Rattle.step_table.specs.declared.list_place.Ticket.{Ticket}
use Rattle.step_table.specs.declared.list_place.WaitRow.TheVariants.{W1, W2, W3, W4, E4, Parked}
use Rattle.step_table.specs.declared.place.Place.{Place}
use Rattle.step_table.specs.declared.place.Place.TheVariants as on_counter
use Rattle.step_table.specs.declared.standing.After.TheVariants.{Closes}
use Rattle.step_table.specs.declared.standing.Ending.TheVariants.{NextCall}
use Rattle.step_table.specs.declared.standing.Standing.{Standing}
use Rattle.step_table.specs.declared.standing.Standing.TheVariants.{Rest, AtCounter, AtList}
use Rattle.step_table.specs.Wrapping.{less}
use Rattle.step_table.specs.World.{put}
use Rattle.step_table.specs.ListWorld.{ListEntry, Took, Granted, Forgone, ListWords, ListSeat, ListWorld, journal_after}
use Rattle.step_table.specs.ListEvent.{ListNext, by_found, if_any}
use Rattle.step_table.specs.ListTable.{list_event_at}
use Rattle.step_table.specs.ListSteps as list
use Rattle.step_table.specs.Core.{CoreLayout, Core}
use Rattle.step_table.specs.CoreSteps.{calls, stands, counter_row, list_row, row_of_standing, core_turned, after_counter, after_list}
use Rattle.step_table.proofs.Sums.{put_at}

-- what a seat does whose call isn't given up
abbrev pub StaysIn : Standing → Type 0
StaysIn Rest = ⊤
StaysIn (AtCounter (Closes NextCall)) = ⊤
StaysIn (AtList l NextCall) = ⊤
StaysIn _ = ⊥

abbrev pub StaysAt : ListPlace → Type 0
StaysAt (Waiting t E4) = ⊥
StaysAt (Waiting t (Parked P)) = ⊤
StaysAt (Waiting t (Parked row)) = ⊥
StaysAt place = ⊤

pub record AllStay (s : Core) : Type 0 where
  pub standing : (k : ℕ) → StaysIn (s.standing k)
  pub places : (l k : ℕ) → StaysAt ((s.lists l).seats k).place
  pub journals : (l : ℕ) → leaves (s.lists l).journal ≡ 0

-- where a row of a list leads
abbrev IsStill : ListEffect → Type 0
IsStill (Forgoes w) = ⊥
IsStill _ = ⊤

abbrev StaysOn : ListNext → Type 0
StaysOn next = StaysAt next.0 × IsStill next.1

either : (b : Bool) (p q : ListPlace) → StaysAt p → StaysAt q → StaysAt (if b then p else q)
either true p q first second = first
either false p q first second = second

still : (b : Bool) (upto : ℕ) → IsStill (if b then Nothing else Grants upto)
still true upto = tt
still false upto = tt

module _ (i : ℕ) (seat : ListSeat) (g : ListWords) (v : ℕ) where
  stays_on : (p : ListPlace) → StaysAt p → StaysOn ((list_event_at i seat g p).leads v)
  stays_on on_list.Rest at = (tt, tt)
  stays_on Adding at = (tt, tt)
  stays_on (Waiting t W1) at = (tt, tt)
  stays_on (Waiting t W2) at = (either (less t.word v) (Waiting t W3) (Waiting t W4) tt tt, tt)
  stays_on (Waiting t W3) at = (tt, tt)
  stays_on (Waiting t W4) at = (tt, tt)
  stays_on (Waiting t (Parked P)) at = (tt, tt)
  stays_on (NotifyingOne h O1) at = (tt, tt)
  stays_on (NotifyingOne h (O2 a)) at = (either (a == v) on_list.Rest (NotifyingOne h O3) tt tt, tt)
  stays_on (NotifyingOne h O3) at = (tt, tt)
  stays_on (NotifyingOne h O4) at = (tt, tt)
  stays_on (NotifyingOne h (O5 t)) at = (either (v == t) (NotifyingOne h O6) (NotifyingOne h (O7 t)) tt tt, tt)
  stays_on (NotifyingOne h O6) at = (tt, tt)
  stays_on (NotifyingOne h (O7 t)) at = (tt, tt)
  stays_on (NotifyingOne h (O8 t)) at = by (first_with t g.queue)
    where
      by : (w : Option Wait) → StaysOn (by_found {A = ListNext} w (on_list.Rest, Nothing) (λ w. (NotifyingOne h O9, TakesOut t)))
      by None = (tt, tt)
      by (Some w) = (tt, tt)
  stays_on (NotifyingOne h O9) at = (tt, tt)
  stays_on (NotifyingAll h L1) at = (tt, tt)
  stays_on (NotifyingAll h (L2 a)) at = (either (a == v) on_list.Rest (NotifyingAll h L3) tt tt, tt)
  stays_on (NotifyingAll h L3) at = (tt, tt)
  stays_on (NotifyingAll h L4) at = (tt, tt)
  stays_on (NotifyingAll h (L5 t)) at = (tt, tt)
  stays_on (NotifyingAll h (L6 r)) at = (tt, still (r.notified == r.waited) r.handed)
  stays_on (NotifyingAll h (L7 n)) at = (by g.queue, tt)
    where
      by : (queue : List Wait) → StaysAt (if_any queue (NotifyingAll h L8) on_list.Rest)
      by [] = tt
      by (w ∷ queue) = tt
  stays_on (NotifyingAll h L8) at = (either (nat_lt 1 (length seat.hand)) (NotifyingAll h L8) on_list.Rest tt tt, tt)
  stays_on _ at = absurd at

one_more : (j : List ListEntry) (e : ListEntry) → leaves (e ∷ []) ≡ 0 → leaves (j ++ e ∷ []) ≡ leaves j
one_more [] e none = none
one_more (Took s ∷ j) e none = one_more j e none
one_more (Granted upto s ∷ j) e none = one_more j e none
one_more (Forgone n s ∷ j) e none = ap (λ m. 1 + m) (one_more j e none)

no_more : (i : ℕ) (e : ListEffect) (j : List ListEntry) → IsStill e → leaves (journal_after i e j) ≡ leaves j
no_more i (HandsOut t) j is = one_more j (Took i) refl
no_more i (Grants upto) j is = one_more j (Granted upto i) refl
no_more i (Forgoes w) j is = absurd is
no_more i _ j is = refl

module _ (m : CoreLayout) (s : Core) (i : ℕ) (stay : AllStay s) where
  pub rested : AllStay (stands s i Rest)
  rested = record {
    standing = λ k. put_at (λ k (x : Standing). StaysIn x) s.standing i Rest k tt (λ ne. stay.standing k);
    places = stay.places;
    journals = stay.journals;
  }

  on_counters : (before place : Place) → AllStay (after_counter m (counter_row m s i) i (Closes NextCall) before place)
  on_counters before on_counter.Rest = record { standing = rested.standing; places = stay.places; journals = stay.journals }
  on_counters before _ = record { standing = stay.standing; places = stay.places; journals = stay.journals }

  module _ (l : ℕ) where
    leads : StaysOn ((list.event_of (s.lists l) i).leads (list.finds (s.lists l) i))
    leads = stays_on i ((s.lists l).seats i) (s.lists l).words (list.finds (s.lists l) i) ((s.lists l).seats i).place (stay.places l i)

    turned_places : (k : ℕ) → StaysAt ((list.turned (s.lists l) i).seats k).place
    turned_places k = put_at (λ k (x : ListSeat). StaysAt x.place) (s.lists l).seats i _ k leads.0 (λ ne. stay.places l k)

    turned_journal : leaves (list.turned (s.lists l) i).journal ≡ 0
    turned_journal = no_more i (list.effect_of (s.lists l) i) (s.lists l).journal leads.1 ∙ stay.journals l

    on_lists : (before place : ListPlace) → AllStay (after_list (list_row s i l) i l NextCall before place)
    on_lists before place = by place
      where
        places : (j k : ℕ) → StaysAt ((put s.lists l (list.turned (s.lists l) i) j).seats k).place
        places j k = put_at (λ j (w : ListWorld). StaysAt (w.seats k).place) s.lists l (list.turned (s.lists l) i) j (turned_places k) (λ ne. stay.places j k)

        journals : (j : ℕ) → leaves (put s.lists l (list.turned (s.lists l) i) j).journal ≡ 0
        journals j = put_at (λ j (w : ListWorld). leaves w.journal ≡ 0) s.lists l (list.turned (s.lists l) i) j turned_journal (λ ne. stay.journals j)

        by : (place : ListPlace) → AllStay (after_list (list_row s i l) i l NextCall before place)
        by on_list.Rest = record { standing = rested.standing; places = places; journals = journals }
        by _ = record { standing = stay.standing; places = places; journals = journals }

  row_stays : (standing : Standing) → StaysIn standing → AllStay (row_of_standing m s i standing)
  row_stays Rest in_it = stay
  row_stays (AtCounter (Closes NextCall)) in_it =
      on_counters (s.semaphores.seats i).place ((counter_row m s i).semaphores.seats i).place
  row_stays (AtList l NextCall) in_it = on_lists l ((s.lists l).seats i).place (((list_row s i l).lists l).seats i).place
  row_stays _ in_it = absurd in_it

  -- a row of seat i
  pub turned_stays : AllStay (core_turned m s i)
  turned_stays = row_stays (s.standing i) (stay.standing i)

-- a call whose seat gives up no sleep, on no group
abbrev pub IsStaying : Call → Type 0
IsStaying (Acquire c lifo) = ⊤
IsStaying (Release c handoff) = ⊤
IsStaying (ReleaseMany c n) = ⊤
IsStaying (Add l) = ⊤
IsStaying (WaitCall l) = ⊤
IsStaying (One l) = ⊤
IsStaying (All l) = ⊤
IsStaying _ = ⊥

module _ (s : Core) (i : ℕ) (stay : AllStay s) where
  begins : (standing : Standing) → StaysIn standing → (k : ℕ) → StaysIn (put s.standing i standing k)
  begins standing in_it k = put_at (λ k (x : Standing). StaysIn x) s.standing i standing k in_it (λ ne. stay.standing k)

  on_counter_too : (c : Core) → ((k : ℕ) → StaysIn (c.standing k)) → c.lists ≡ s.lists → AllStay c
  on_counter_too c standing same = record {
    standing = standing;
    places = λ l k. subst (λ (lists : ℕ → ListWorld). StaysAt ((lists l).seats k).place) (sym same) (stay.places l k);
    journals = λ l. subst (λ (lists : ℕ → ListWorld). leaves (lists l).journal ≡ 0) (sym same) (stay.journals l);
  }

  on_list_too : (l : ℕ) (seat : ListSeat) → StaysAt seat.place
      → AllStay (stands (record s { lists = put s.lists l (record (s.lists l) { seats = put (s.lists l).seats i seat }) }) i (AtList l NextCall))
  on_list_too l seat at =
      let w : ListWorld = record (s.lists l) { seats = put (s.lists l).seats i seat } in record {
        standing = begins (AtList l NextCall) tt;
        places = λ j k. put_at (λ j (w : ListWorld). StaysAt (w.seats k).place) s.lists l w j
            (put_at (λ k (x : ListSeat). StaysAt x.place) (s.lists l).seats i seat k at (λ ne. stay.places l k)) (λ ne. stay.places j k);
        journals = λ j. put_at (λ j (w : ListWorld). leaves w.journal ≡ 0) s.lists l w j (stay.journals l) (λ ne. stay.journals j);
      }

  waits : (o : Option Ticket) (seat : ListSeat) → StaysAt seat.place → StaysAt (list.with_ticket seat o).place
  waits None seat at = at
  waits (Some t) seat at = tt

  -- a call that seat i begins
  pub calls_stay : (call : Call) → IsStaying call → AllStay (calls s i call)
  calls_stay (Acquire c lifo) is = on_counter_too _ (begins (AtCounter (Closes NextCall)) tt) refl
  calls_stay (Release c handoff) is = on_counter_too _ (begins (AtCounter (Closes NextCall)) tt) refl
  calls_stay (ReleaseMany c n) is = on_counter_too _ (begins (AtCounter (Closes NextCall)) tt) refl
  calls_stay (Add l) is = on_list_too l _ tt
  calls_stay (WaitCall l) is =
      on_list_too l (list.with_ticket ((s.lists l).seats i) ((s.lists l).seats i).ticket) (waits ((s.lists l).seats i).ticket ((s.lists l).seats i) (stay.places l i))
  calls_stay (One l) is = on_list_too l _ tt
  calls_stay (All l) is = on_list_too l _ tt
  calls_stay _ is = absurd is
