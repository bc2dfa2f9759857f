-- A notify list at its start: the hands are opened one after the other, and all lists are empty.
use Rattle.std.proofs.Common.{◌≡◌, ◌≢◌, ℕ, zero, suc, ◌+◌, ◌<◌, ◌^◌, ◌⊎◌, inl, inr, List, [], ◌∷◌, ◌++◌, length}
use Rattle.std.proofs.Common.{slice_get, Option, Some, None, refl, sym, ap}
use Rattle.std.proofs.Common.{◌∙◌, subst, arith}
use native.Mathlib.Decide.{ℕ_discrete}
use mathlib.Core.Path.{fun_ext}
use Rattle.std.specs.Option.{option_map}
use Rattle.std.specs.Prelude.{unwrap_or, IsSome}
use Rattle.std.proofs.lemmas.List.{length_push}
use Rattle.waiters.specs.declared.wait.Wait.{Wait}
use Rattle.waiters.specs.Lists.{Lists, list_at, IsOpen, Changes}
use Rattle.step_table.specs.declared.list_place.ListPlace.TheVariants.{Rest}
use Rattle.step_rows.specs.declared.list_machine.ListMachine.TheInside.{Inside}
use Rattle.step_rows.specs.declared.list_machine.SeatRecord.{SeatRecord}
use Rattle.step_rows.specs.contracts.list_machine.ListMachine.{the_view}
use Rattle.step_table.specs.Wrapping.{word_of}
use Rattle.step_rows.specs.ListStored.{moment_of, first_moment, seat_of, stored_seat, seats_in, AreLists, AreFresh}
use Rattle.step_table.proofs.Sums.{nothing}
use Rattle.step_rows.proofs.Handing.{grant_in}
use Rattle.step_rows.proofs.Noting.{told_is}

abbrev resting : ℕ → SeatRecord
resting key = record { place = Rest; ticket = None; grant = 0; hand = key }

-- one at the end of a list is the last, or was there
pushed : (l : List SeatRecord) (x : SeatRecord) (k : ℕ) (s : SeatRecord) → slice_get (l ++ x ∷ []) k ≡ Some s
    → (slice_get l k ≡ Some s) ⊎ ((k ≡ length l) × (s ≡ x))
pushed [] x zero s e = let same : s ≡ x = cc in inr (refl, same)
pushed [] x (suc k) s e = absurd (cc)
pushed (y ∷ l) x zero s e = inl e
pushed (y ∷ l) x (suc k) s e = elim (pushed l x k s e) [ inl h ↦ inl h | inr h ↦ inr (ap suc h.0, h.1) ]

pub none_yet : (old : Lists) → AreFresh old old [] 0
none_yet old = record {
  count_is = refl;
  rest = λ k s e. absurd (cc);
  empty = λ k s e. absurd (cc);
  closed = λ k s e. absurd (cc);
  different = λ k l s t e f ne q. cc;
  kept = λ key o. refl;
  room = refl;
  list_room = omega arith;
}

module _ (old mid new : Lists) (seats : List SeatRecord) (n key : ℕ) (fresh : AreFresh old mid seats n) (shut : list_at mid key ≡ None)
    (ch : Changes mid new key (Some [])) (room : new.room ≡ mid.room) (list_room : new.list_room + 1 ≡ mid.list_room) where
  apart : (k : ℕ) (s : SeatRecord) → slice_get seats k ≡ Some s → s.hand ≢ key
  apart k s e q = let a = fresh.empty k s e in let b = ap (list_at mid) q in cc

  not_open : list_at old key ≡ None
  not_open = by (list_at old key) refl
    where
      by : (o : Option (List Wait)) → list_at old key ≡ o → list_at old key ≡ None
      by None e = e
      by (Some l) e = let a = fresh.kept key (subst IsSome (sym e) refl) in absurd (cc)

  pub one_more_hand : AreFresh old new (seats ++ resting key ∷ []) (n + 1)
  one_more_hand = record {
    count_is = let a = length_push seats (resting key) in let b = fresh.count_is in omega arith;
    rest = λ k s e. elim (pushed seats (resting key) k s e) [
      | inl h ↦ fresh.rest k s h
      | inr h ↦ (ap (λ r. r.place) h.1, ap (λ r. r.ticket) h.1, ap (λ r. r.grant) h.1)
    ];
    empty = λ k s e. elim (pushed seats (resting key) k s e) [
      | inl h ↦ ch.elsewhere s.hand (apart k s h) ∙ fresh.empty k s h
      | inr h ↦ ap (λ r. list_at new r.hand) h.1 ∙ ch.there
    ];
    closed = λ k s e. elim (pushed seats (resting key) k s e) [ inl h ↦ fresh.closed k s h | inr h ↦ ap (λ r. list_at old r.hand) h.1 ∙ not_open ];
    different = λ k l s t e f ne q. elim (pushed seats (resting key) k s e) [
      | inl h ↦ elim (pushed seats (resting key) l t f) [ inl g ↦ fresh.different k l s t h g ne q | inr g ↦ apart k s h (q ∙ ap (λ r. r.hand) g.1) ]
      | inr h ↦ elim (pushed seats (resting key) l t f) [ inl g ↦ apart l t g (sym q ∙ ap (λ r. r.hand) h.1) | inr g ↦ ne (h.0 ∙ sym g.0) ]
    ];
    kept = λ other o. by other o (ℕ_discrete other key);
    room = room ∙ fresh.room;
    list_room = let a = fresh.list_room in omega arith;
  }
    where
      by : (other : ℕ) → IsOpen old other → Dec (other ≡ key) → list_at new other ≡ list_at old other
      by other o (yes q) = let a = fresh.kept other o in let b = ap (list_at mid) q in let c = subst IsSome (sym a ∙ b ∙ shut) o in absurd (cc)
      by other o (no ne) = ch.elsewhere other ne ∙ fresh.kept other o

-- all are opened, after the queue
module _ (old new : Lists) (queue : ℕ) (seats : List SeatRecord) (n : ℕ) (fresh : AreFresh old new seats n)
    (opened : list_at old queue ≡ Some []) (room : old.room ≡ n) where
  queue_open : IsOpen old queue
  queue_open = subst IsSome (sym opened) refl

  queue_empty : list_at new queue ≡ Some []
  queue_empty = fresh.kept queue queue_open ∙ opened

  at_rest : (k : ℕ) (o : Option SeatRecord) → slice_get seats k ≡ o → seat_of (option_map (stored_seat new) o)
      ≡ record { place = Rest; ticket = None; hand = []; late = 0 }
  at_rest k None e = refl
  at_rest k (Some s) e =
      let r = fresh.rest k s e in let h = ap (λ o. unwrap_or o []) (fresh.empty k s e) in
      λ j. record { place = r.0 j; ticket = r.1 j; hand = h j; late = 0 }

  no_grant : (k : ℕ) (o : Option SeatRecord) → slice_get seats k ≡ o → grant_in o ≡ 0
  no_grant k None e = refl
  no_grant k (Some s) e = (fresh.rest k s e).2

  pub first_lists : AreLists new queue seats
  first_lists = record {
    open_queue = subst IsSome (sym queue_empty) refl;
    open_hand = λ k s e. subst IsSome (sym (fresh.empty k s e)) refl;
    apart = λ k s e q. let a = fresh.closed k s e in let b = ap (list_at old) q in cc;
    different = fresh.different;
    room =
        let a = ap (λ o. length (unwrap_or o [])) queue_empty in
        let b = nothing (length seats) (λ k. length (seats_in new seats k).hand) (λ k. ap (λ z. length z.hand) (at_rest k (slice_get seats k) refl)) in
        let c = fresh.room in let d = fresh.count_is in omega arith;
  }

first_word : (first : ℕ) → first < 2 ^ 64 → first ≡ word_of first 0
unfolding word_of
first_word first h = omega arith

pub first_told : (h : Inside) (old : Lists) (first n : ℕ) → first < 2 ^ 64 → AreFresh old h.waits h.seats.items n
    → list_at old h.queue ≡ Some [] → old.room ≡ n
    → h.wait ≡ first → h.notify ≡ first → h.lock ≡ 0 → h.handed ≡ 0 → h.passed ≡ 0 → h.gone_numbers.items ≡ [] → h.gone.items ≡ []
    → moment_of (the_view h) ≡ first_moment first n
first_told h old first n fits fresh opened room wait notify lock handed passed gone_numbers gone =
    told_is h ∙ (λ j. record {
      words = record {
        wait = (wait ∙ first_word first fits) j;
        notify = (notify ∙ first_word first fits) j;
        lock = lock j;
        grants = fun_ext (λ k. no_grant old h.waits h.queue h.seats.items n fresh opened room k (slice_get h.seats.items k) refl) j;
        numbers = record { handed = handed j; passed = passed j; gone = gone_numbers j };
        queue = ap (λ o. unwrap_or o []) (queue_empty old h.waits h.queue h.seats.items n fresh opened room) j;
        gone = gone j;
      };
      seats = fun_ext (λ k. at_rest old h.waits h.queue h.seats.items n fresh opened room k (slice_get h.seats.items k) refl) j;
      count = fresh.count_is j;
    })
