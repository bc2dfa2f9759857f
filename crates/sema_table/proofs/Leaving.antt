-- A seat that gives up, from its root's lock on, row by row.
use Rattle.std.proofs.Common.{◌≡◌, if◌then◌else◌, Bool, true, ℕ, ◌+◌, ◌-◌, ◌<◌, List, [], ◌∷◌, length, sym, refl, ap, ◌∙◌, subst, arith}
use Rattle.step_table.specs.declared.effect.Effect.TheVariants.{Tells}
use Rattle.step_table.specs.declared.entry.Entry.{Entry}
use Rattle.step_table.specs.declared.entry.Entry.TheVariants.{Withdraw}
use Rattle.step_table.specs.declared.place.Acquire.{Acquire}
use Rattle.step_table.specs.declared.place.AcquireRow.TheVariants.{D4, Parked}
use Rattle.step_table.specs.declared.place.ParkedRow.TheVariants.{P, D2, D3, D5}
use Rattle.step_table.specs.declared.place.Place.{Place}
use Rattle.step_table.specs.declared.place.Place.TheVariants.{Rest, Acquiring}
use Rattle.step_table.specs.World.{SeatState, put, stands_in, without}
use Rattle.step_table.specs.Event.{Next}
use Rattle.step_table.specs.Counting.{wait}
use Rattle.step_table.proofs.Sums.{on_here}
use Rattle.step_law_semaphores.specs.Balances.{withdrawn_by}
use Rattle.sema_root.specs.Treap.{Treap}
use Rattle.running_rows.specs.Strides.{here}
use Rattle.sema_table.specs.declared.answers.GaveUp.TheVariants.{Left, Coming}
use Rattle.sema_table.specs.declared.seat.Numbers.{Numbers}
use Rattle.sema_table.specs.declared.view.Record.TheVariants.{Root}
use Rattle.sema_table.specs.Setting.{root}
use Rattle.sema_table.specs.Places.{is_free, locked}
use Rattle.sema_table.specs.Changes.{spent_by}
use Rattle.sema_table.specs.Rule.{sight_by, IsRecord}
use Rattle.sema_table.specs.Starts.{begin}
use Rattle.sema_table.specs.Seats.{Token, TableModel, table_of, seat_of, IsToken, IsSeat, IsSleeping}
use Rattle.sema_table.specs.Walks.{Stands, Walked, HasRecord, CanSpend, moved_to, lists_of, sought_own}
use Rattle.sema_table.specs.Calls.{RunsRows}
use Rattle.sema_table.specs.Leavers.{bare_of, IsLeaving}
use Rattle.sema_table.specs.Leaving.{LeavesAtLock, GoesToLeave, EndsLeaving, StaysAsleep}
use Rattle.sema_table.proofs.Striding.{Ran}
use Rattle.sema_table.proofs.Leading.{Goes, led}
use Rattle.sema_table.proofs.Walking.{walked_row, walked_then, walked_same, walked_spends, token_after, spent_few, ran_from}
use Rattle.sema_table.proofs.Holding.{record_after}
use Rattle.sema_table.proofs.Entering.{stands_spending, stands_after}
use Rattle.sema_table.proofs.Locking.{locked_counter}
use Rattle.sema_table.proofs.Calling.{calls}

-- D3, where the record is already without the wait
module _ (s u : Token) (a : Acquire) (turn n : ℕ) (at : s.me.0.own.knows.place ≡ Acquiring a (Parked turn D3)) (r : Ran here s.me.0.own n u.me.0.own)
    (same : u.table_id ≡ s.table_id) where
  abbrev lowers : Ran (begin (Acquiring a (Parked turn D3))) s.me.0.own n u.me.0.own
  lowers = ran_from s u (Acquiring a (Parked turn D3)) n at r

  abbrev leaves : Next
  leaves = (Acquiring a D4, Tells (Withdraw a.counter (wait s.me.0.own.number turn)))

  went : Goes s.me.0.own lowers.stride leaves u.me.0.own
  went = led s.me.0.own u.me.0.own (Acquiring a (Parked turn D3)) n lowers

  pub withdrawn_walk : Walked s (Acquiring a (Parked turn D3)) u (moved_to s (Acquiring a D4))
      (Withdraw a.counter (wait s.me.0.own.number turn) ∷ []) 0
  withdrawn_walk = walked_row s u (Acquiring a (Parked turn D3)) n leaves lowers went same

  pub withdrawn_holds : (treap : Treap) → u.me.1 ≡ (root s.me.0.own.knows.setting a.counter, Root treap) ∷ []
      → IsRecord s.me.0.own.knows.setting (root s.me.0.own.knows.setting a.counter) treap
      (put (lists_of s) a.counter (without s.me.0.own.number (lists_of s a.counter)))
      → HasRecord u a.counter
  withdrawn_holds = record_after s u (Acquiring a (Parked turn D3)) n a.counter leaves lowers went withdrawn_walk.table_is
      (on_here (root s.me.0.own.knows.setting a.counter) 1)

-- from the lock on
module _ (s t1 t2 t3 : Token) (n : Numbers) (a : Acquire) (turn : ℕ) (is : IsToken s n)
    (x1 : Walked s (Acquiring a (Parked turn D2)) t1
    (moved_to s (locked s.me.0.own.number (lists_of t1) (Acquiring a (Parked turn D2)))) [] 0) where
  abbrev from : Place
  from = Acquiring a (Parked turn D2)

  -- where the seat stands then
  pub stands_sought : (z : TableModel) → table_of s ≡ z → a.counter < length z.setting.starts → Stands z t1 (sought_own t1 a turn)
  stands_sought z of inside = subst (λ i. Stands z t1 (locked i (lists_of t1) from)) (sym x1.number_is)
      (stands_after z s t1 n from (locked s.me.0.own.number (lists_of t1) from) [] 0 is of
      (let same = locked_counter s.me.0.own.number (lists_of t1) from refl in omega arith) x1 refl)

  pub can_spend : 0 < n.left → CanSpend t1 1
  can_spend some = let b = walked_spends s t1 from (moved_to s (locked s.me.0.own.number (lists_of t1) from)) [] 0 x1 in
      let c = spent_few s n 1 is (omega arith) in omega arith

  found_walk : (p : Place) → t1.me.0.own.knows.place ≡ p → Walked s from t1 (moved_to s p) [] 0
  found_walk p at =
      subst (λ (q : Place). Walked s from t1 (moved_to s q) [] 0) (sym (ap (λ (y : SeatState). y.place) x1.stands_is) ∙ at) x1

  -- where it stands, by whether its wait is queued
  pub sought_place : (queued : Bool) → queued ≡ stands_in n.seat (lists_of t1 a.counter)
      → t1.me.0.own.knows.place ≡ (if queued then Acquiring a (Parked turn D3) else Acquiring a (Parked turn D5))
  sought_place queued found = ap (λ (y : SeatState). y.place) x1.stands_is
      ∙ ap (λ (b : Bool). if b then Acquiring a (Parked turn D3) else Acquiring a (Parked turn D5))
      (ap (λ k. stands_in k (lists_of t1 a.counter)) is.number_is ∙ sym found)

  -- it stays there with the lock
  module _ (at : t1.me.0.own.knows.place ≡ Acquiring a (Parked turn D3)) (same : t2.table_id ≡ t1.table_id) (view : t2.me.0 ≡ t1.me.0) where
    about : Walked s from t2 (moved_to s (Acquiring a (Parked turn D3))) [] 0
    about = walked_same s t1 t2 from (moved_to s (Acquiring a (Parked turn D3))) [] 0 (found_walk (Acquiring a (Parked turn D3)) at) same view

    pub leaving_seat : a.counter < length s.me.0.own.knows.setting.starts → HasRecord t2 a.counter → 0 < n.left
        → stands_in n.seat (lists_of t2 a.counter) ≡ true → IsLeaving t2 n a turn
    leaving_seat inside has some queued = record {
      midway = record {
        token_is = token_after s (bare_of t2) from (moved_to s (Acquiring a (Parked turn D3))) [] 0 n n is
            (walked_same s t2 (bare_of t2) from (moved_to s (Acquiring a (Parked turn D3))) [] 0 about refl refl) refl is.empty is.turns_are
            (omega arith) (omega arith) refl (omega arith);
        inside = subst (λ (z : TableModel). a.counter < length z.setting.starts) (sym about.table_is) inside;
        at = ap (λ (q : SeatState). q.place) about.stands_is;
      };
      has_record = has;
      some = some;
      queued = queued;
    }

    pub leaving_rows : s.me.0.own.knows.place ≡ Acquiring a (Parked turn P) → GoesToLeave (seat_of s n) (seat_of t2 n)
    leaving_rows parked = (
      (λ i. record {
        table = about.table_is i;
        number = n.seat;
        left = n.left;
        taken = n.taken;
        sight = sight_by t2.me.0.own.knows;
        strides = t2.me.0.own.gone;
      }),
      (a, turn, parked, about.stands_is, calls s t2 n n from (moved_to s (Acquiring a (Parked turn D3))) [] 0 is about),
    )

  -- its wait was queued
  module _ (x2 : Walked t1 (Acquiring a (Parked turn D3)) t2 (moved_to t1 (Acquiring a D4))
      (Withdraw a.counter (wait t1.me.0.own.number turn) ∷ []) 0) (at : t1.me.0.own.knows.place ≡ Acquiring a (Parked turn D3)) (some : 0 < n.left) where
    abbrev told : List Entry
    told = Withdraw a.counter (wait t1.me.0.own.number turn) ∷ []

    withdrawn : Walked s from t2 (moved_to s (Acquiring a D4)) told 0
    withdrawn = walked_then s t1 t2 from (Acquiring a (Parked turn D3)) (Acquiring a D4) [] told 0 0 (found_walk (Acquiring a (Parked turn D3)) at) x2

    one_withdrawn : withdrawn_by s.me.0.own.number told ≡ 1
    one_withdrawn = ap (λ i. withdrawn_by s.me.0.own.number (Withdraw a.counter (wait i turn) ∷ [])) x1.number_is
        ∙ (let o = on_here s.me.0.own.number 1 in omega arith)

    one_spent : spent_by s.me.0.own.number told ≡ 1
    one_spent = let o = one_withdrawn in omega arith

    pub stands_left : (z : TableModel) → table_of s ≡ z → a.counter < length z.setting.starts → Stands z t2 (Acquiring a D4)
    stands_left z of inside = stands_spending z s t2 n from (moved_to s (Acquiring a D4)) told 0 is of inside withdrawn
        (let o = one_spent in omega arith)

    module _ (x3 : Walked t2 (Acquiring a D4) t3 (moved_to t2 Rest) [] 0) (bare : t3.me.1 ≡ []) where
      abbrev later : Numbers
      later = record n { left = n.left - 1; withdrawn = n.withdrawn + 1 }

      ended : Walked s from t3 (moved_to s Rest) told 0
      ended = walked_then s t2 t3 from (Acquiring a D4) Rest told [] 0 0 withdrawn x3

      pub left_seat : IsSeat t3 later
      left_seat = record {
        token_is = token_after s t3 from (moved_to s Rest) told 0 n later is ended bare is.empty is.turns_are
            (let o = one_spent in omega arith) (let o = one_withdrawn in omega arith) refl (omega arith);
        free = ap (λ (q : SeatState). is_free q.place) ended.stands_is;
        counted = ended.counted refl;
      }

      pub left_rows : s.me.0.own.knows.place ≡ Acquiring a (Parked turn P) → LeavesAtLock (seat_of s n) (Left (seat_of t3 later))
      left_rows parked = (
        some,
        (λ i. record {
          table = ended.table_is i;
          number = n.seat;
          left = n.left - 1;
          taken = n.taken;
          sight = sight_by t3.me.0.own.knows;
          strides = t3.me.0.own.gone;
        }),
        ended.stands_is,
        (
          a,
          turn,
          parked,
          subst (λ k. RunsRows (seat_of s n) from (seat_of t3 later) (Withdraw a.counter (wait k turn) ∷ [])) (x1.number_is ∙ is.number_is)
              (calls s t3 n later from (moved_to s Rest) told 0 is ended),
        ),
      )

  -- or it wasn't
  module _ (at : t1.me.0.own.knows.place ≡ Acquiring a (Parked turn D5)) (same : t2.table_id ≡ t1.table_id) (view : t2.me.0 ≡ t1.me.0) where
    missed : Walked s from t2 (moved_to s (Acquiring a (Parked turn D5))) [] 0
    missed = walked_same s t1 t2 from (moved_to s (Acquiring a (Parked turn D5))) [] 0 (found_walk (Acquiring a (Parked turn D5)) at) same view

    pub stands_missed : (z : TableModel) → table_of s ≡ z → a.counter < length z.setting.starts → Stands z t2 (Acquiring a (Parked turn D5))
    stands_missed z of inside = stands_after z s t2 n from (Acquiring a (Parked turn D5)) [] 0 is of inside missed refl

    module _ (x3 : Walked t2 (Acquiring a (Parked turn D5)) t3 (moved_to t2 (Acquiring a (Parked turn P))) [] 0) (bare : t3.me.1 ≡ []) where
      slept : Walked s from t3 (moved_to s (Acquiring a (Parked turn P))) [] 0
      slept = walked_then s t2 t3 from (Acquiring a (Parked turn D5)) (Acquiring a (Parked turn P)) [] [] 0 0 missed x3

      pub coming_seat : a.counter < length s.me.0.own.knows.setting.starts → IsSleeping t3 n a turn
      coming_seat inside = record {
        token_is = token_after s t3 from (moved_to s (Acquiring a (Parked turn P))) [] 0 n n is slept bare is.empty is.turns_are
            (omega arith) (omega arith) refl (omega arith);
        inside = subst (λ (z : TableModel). a.counter < length z.setting.starts) (sym slept.table_is) inside;
        at = ap (λ (q : SeatState). q.place) slept.stands_is;
      }

      pub coming_rows : s.me.0.own.knows.place ≡ Acquiring a (Parked turn P) → LeavesAtLock (seat_of s n) (Coming (seat_of t3 n))
      coming_rows parked = (
        (λ i. record {
          table = slept.table_is i;
          number = n.seat;
          left = n.left;
          taken = n.taken;
          sight = sight_by t3.me.0.own.knows;
          strides = t3.me.0.own.gone;
        }),
        slept.stands_is ∙ ap (moved_to s) (sym parked),
        (
          a,
          turn,
          parked,
          calls s t3 n n from (moved_to s (Acquiring a (Parked turn P))) [] 0 is slept,
        ),
      )

-- what was run with the record was run, whatever the record is
bare_walk : (s t : Token) (from : Place) (a : SeatState) (told : List Entry) (j : ℕ) → Walked s from t a told j → Walked (bare_of s) from t a told j
bare_walk s t _ a _ j w = record {
  table_is = w.table_is;
  number_is = w.number_is;
  stands_is = w.stands_is;
  few = w.few;
  came = w.came;
  most = w.most;
  counted = w.counted;
  strides = w.strides;
  each = w.each;
  path = w.path;
  all = w.all;
  told_is = w.told_is;
}

-- a seat that has begun to leave
module _ (t : Token) (n : Numbers) (a : Acquire) (turn : ℕ) (is : IsLeaving t n a turn) where
  abbrev its : IsToken (bare_of t) n
  its = is.midway.token_is

  pub leaving_sought : t.me.0.own.knows.place ≡ sought_own t a turn
  leaving_sought = is.midway.at ∙ ap (λ (b : Bool). if b then Acquiring a (Parked turn D3) else Acquiring a (Parked turn D5))
      (sym is.queued ∙ ap (λ k. stands_in k (lists_of t a.counter)) (sym its.number_is))

  pub leaving_spends : CanSpend t 1
  leaving_spends = let l = its.left_is in let some = is.some in omega arith

  pub leaving_stands : (z : TableModel) → table_of t ≡ z → Stands z t (sought_own t a turn)
  leaving_stands z of = record {
    table_is = of;
    inside = let same = locked_counter t.me.0.own.number (lists_of t) (Acquiring a (Parked turn D2)) refl in
        let inside : a.counter < length z.setting.starts = subst (λ (y : TableModel). a.counter < length y.setting.starts) of is.midway.inside in omega arith;
    place_is = leaving_sought;
    limited = let l = its.left_is in omega arith;
    few = let f = its.few in let same = its.turns_are in omega arith;
    most = let f = its.most in let same = its.taken_is in omega arith;
  }

  module _ (t2 : Token) (x2 : Walked t (Acquiring a (Parked turn D3)) t2 (moved_to t (Acquiring a D4))
      (Withdraw a.counter (wait t.me.0.own.number turn) ∷ []) 0) where
    abbrev tells : List Entry
    tells = Withdraw a.counter (wait t.me.0.own.number turn) ∷ []

    one_less : withdrawn_by t.me.0.own.number tells ≡ 1
    one_less = let o = on_here t.me.0.own.number 1 in omega arith

    pub leaving_left : (z : TableModel) → table_of t ≡ z → Stands z t2 (Acquiring a D4)
    leaving_left z of = stands_spending z (bare_of t) t2 n (Acquiring a (Parked turn D3)) (moved_to t (Acquiring a D4)) tells 0 its of
        (subst (λ (y : TableModel). a.counter < length y.setting.starts) of is.midway.inside)
        (bare_walk t t2 (Acquiring a (Parked turn D3)) (moved_to t (Acquiring a D4)) tells 0 x2)
        (let o = one_less in let some = is.some in omega arith)

    module _ (t3 : Token) (x3 : Walked t2 (Acquiring a D4) t3 (moved_to t2 Rest) [] 0) (bare : t3.me.1 ≡ []) where
      abbrev less : Numbers
      less = record n { left = n.left - 1; withdrawn = n.withdrawn + 1 }

      gone : Walked (bare_of t) (Acquiring a (Parked turn D3)) t3 (moved_to t Rest) tells 0
      gone = bare_walk t t3 (Acquiring a (Parked turn D3)) (moved_to t Rest) tells 0
          (walked_then t t2 t3 (Acquiring a (Parked turn D3)) (Acquiring a D4) Rest tells [] 0 0 x2 x3)

      pub ended_seat : IsSeat t3 less
      ended_seat = record {
        token_is = token_after (bare_of t) t3 (Acquiring a (Parked turn D3)) (moved_to t Rest) tells 0 n less its gone bare its.empty its.turns_are
            (let o = one_less in let some = is.some in omega arith) (let o = one_less in omega arith) refl (omega arith);
        free = ap (λ (q : SeatState). is_free q.place) gone.stands_is;
        counted = gone.counted refl;
      }

      pub ended_rows : EndsLeaving (seat_of t n) (seat_of t3 less)
      ended_rows = (
        is.some,
        (λ i. record {
          table = gone.table_is i;
          number = n.seat;
          left = n.left - 1;
          taken = n.taken;
          sight = sight_by t3.me.0.own.knows;
          strides = t3.me.0.own.gone;
        }),
        gone.stands_is,
        (
          a,
          turn,
          is.midway.at,
          subst (λ k. RunsRows (seat_of t n) (Acquiring a (Parked turn D3)) (seat_of t3 less) (Withdraw a.counter (wait k turn) ∷ [])) its.number_is
              (calls (bare_of t) t3 n less (Acquiring a (Parked turn D3)) (moved_to t Rest) tells 0 its gone),
        ),
      )

  module _ (t2 : Token) (x2 : Walked t (Acquiring a (Parked turn D5)) t2 (moved_to t (Acquiring a (Parked turn P))) [] 0) (bare : t2.me.1 ≡ []) where
    back : Walked (bare_of t) (Acquiring a (Parked turn D5)) t2 (moved_to t (Acquiring a (Parked turn P))) [] 0
    back = bare_walk t t2 (Acquiring a (Parked turn D5)) (moved_to t (Acquiring a (Parked turn P))) [] 0 x2

    pub stayed_seat : IsSleeping t2 n a turn
    stayed_seat = record {
      token_is = token_after (bare_of t) t2 (Acquiring a (Parked turn D5)) (moved_to t (Acquiring a (Parked turn P))) [] 0 n n its back bare its.empty
          its.turns_are (omega arith) (omega arith) refl (omega arith);
      inside = subst (λ (z : TableModel). a.counter < length z.setting.starts) (sym back.table_is) is.midway.inside;
      at = ap (λ (q : SeatState). q.place) back.stands_is;
    }

    pub stayed_rows : StaysAsleep (seat_of t n) (seat_of t2 n)
    stayed_rows = (
      (λ i. record {
        table = back.table_is i;
        number = n.seat;
        left = n.left;
        taken = n.taken;
        sight = sight_by t2.me.0.own.knows;
        strides = t2.me.0.own.gone;
      }),
      (
        a,
        turn,
        is.midway.at,
        back.stands_is,
        calls (bare_of t) t2 n n (Acquiring a (Parked turn D5)) (moved_to t (Acquiring a (Parked turn P))) [] 0 its back,
      ),
    )
