-- An acquire from its root's lock on, row by row.
use Rattle.std.proofs.Common.{◌≡◌, ℕ, ◌+◌, ◌<◌, ◌≤◌, List, [], ◌∷◌, length, sym, refl, ap, ◌∙◌, subst, arith}
use Rattle.waiters.specs.declared.wait.WaitId.{WaitId}
use Rattle.step_table.specs.declared.entry.Entry.{Entry}
use Rattle.step_table.specs.declared.entry.Entry.TheVariants.{Take, Queue}
use Rattle.step_table.specs.declared.place.Acquire.{Acquire}
use Rattle.step_table.specs.declared.place.AcquireRow.TheVariants.{A3, A4, A5, A7, A8, A9, Parked}
use Rattle.step_table.specs.declared.place.ParkedRow.TheVariants.{P}
use Rattle.step_table.specs.declared.place.Place.{Place}
use Rattle.step_table.specs.declared.place.Place.TheVariants.{Rest, Acquiring}
use Rattle.step_table.specs.World.{SeatState}
use Rattle.step_table.specs.Counting.{counter_at, wait}
use Rattle.sema_table.specs.Changes.{spent_by}
use Rattle.sema_table.specs.declared.seat.Numbers.{Numbers}
use Rattle.sema_table.specs.declared.answers.Entered.TheVariants.{Taken, Asleep}
use Rattle.sema_table.specs.Places.{is_free}
use Rattle.sema_table.specs.Rule.{sight_by}
use Rattle.sema_table.specs.Seats.{Token, TableModel, table_of, seat_of, IsToken, IsSeat, IsSleeping}
use Rattle.sema_table.specs.Walks.{Stands, Walked, IsLast, moved_to, parked}
use Rattle.sema_table.specs.Calls.{RunsRows}
use Rattle.sema_table.specs.Waking.{IsEntered}
use Rattle.sema_table.proofs.Walking.{walked_on, walked_then, walked_spends, token_after, spent_few}
use Rattle.sema_table.proofs.Calling.{calls}

-- a seat after rows that spent no more than it might stands where they led
pub stands_spending : (z : TableModel) (s t : Token) (n : Numbers) (from : Place) (a : SeatState) (told : List Entry) (j : ℕ) → IsToken s n
    → table_of s ≡ z → counter_at a.place < length z.setting.starts → Walked s from t a told j
    → spent_by s.me.0.own.number told ≤ n.left → Stands z t a.place
stands_spending z s t n from a told j is of inside x fits = record {
  table_is = x.table_is ∙ of;
  inside = inside;
  place_is = ap (λ (y : SeatState). y.place) x.stands_is;
  limited = let b = walked_spends s t from a told j x in let c = spent_few s n (spent_by s.me.0.own.number told) is fits in omega arith;
  few = x.few;
  most = x.most;
}

-- and so after rows that spent nothing
pub stands_at : (z : TableModel) (s t : Token) (n : Numbers) (from : Place) (a : SeatState) (told : List Entry) (j : ℕ) → IsToken s n → table_of s ≡ z
    → counter_at a.place < length z.setting.starts → Walked s from t a told j
    → spent_by s.me.0.own.number told ≡ 0 → Stands z t a.place
stands_at z s t n from a told j is of inside x none = stands_spending z s t n from a told j is of inside x (omega arith)

pub stands_after : (z : TableModel) (s t : Token) (n : Numbers) (from q : Place) (told : List Entry) (j : ℕ) → IsToken s n → table_of s ≡ z
    → counter_at q < length z.setting.starts → Walked s from t (moved_to s q) told j
    → spent_by s.me.0.own.number told ≡ 0 → Stands z t q
stands_after z s t n from q = stands_at z s t n from (moved_to s q)

module _ (s t1 t2 t3 : Token) (a : Acquire) where
  abbrev pub from : Place
  from = Acquiring a A3

  -- to the second look
  abbrev pub to_look : Walked s (Acquiring a A3) t1 (moved_to s (Acquiring a A4)) [] 0 → Walked t1 (Acquiring a A4) t2 (moved_to t1 (Acquiring a A5)) [] 0
      → Walked s (Acquiring a A3) t2 (moved_to s (Acquiring a A5)) [] 0
  to_look x y = walked_then s t1 t2 (Acquiring a A3) (Acquiring a A4) (Acquiring a A5) [] [] 0 0 x y

  -- and behind it
  abbrev pub to_taken : Walked s (Acquiring a A3) t2 (moved_to s (Acquiring a A5)) [] 0 → Walked t2 (Acquiring a A5) t3 (moved_to t2 (Acquiring a A8))
      (Take a.counter t2.me.0.own.number ∷ []) 1
      → Walked s (Acquiring a A3) t3 (moved_to s (Acquiring a A8)) (Take a.counter t2.me.0.own.number ∷ []) 1
  to_taken x y = walked_then s t2 t3 (Acquiring a A3) (Acquiring a A5) (Acquiring a A8) [] (Take a.counter t2.me.0.own.number ∷ []) 0 1 x y

  abbrev pub to_committed : Walked s (Acquiring a A3) t2 (moved_to s (Acquiring a A5)) [] 0
      → Walked t2 (Acquiring a A5) t3 (moved_to t2 (Acquiring a A7)) [] 0 → Walked s (Acquiring a A3) t3 (moved_to s (Acquiring a A7)) [] 0
  to_committed x y = walked_then s t2 t3 (Acquiring a A3) (Acquiring a A5) (Acquiring a A7) [] [] 0 0 x y

-- a unit was taken
module _ (s t2 t3 t4 t5 : Token) (n : Numbers) (a : Acquire) (is : IsToken s n) (looked : Walked s (Acquiring a A3) t2 (moved_to s (Acquiring a A5)) [] 0)
    (taken : Walked s (Acquiring a A3) t3 (moved_to s (Acquiring a A8)) (Take a.counter t2.me.0.own.number ∷ []) 1) where
  abbrev took : List Entry
  took = Take a.counter t2.me.0.own.number ∷ []

  abbrev pub to_lowered : Walked t3 (Acquiring a A8) t4 (moved_to t3 (Acquiring a A9)) [] 0
      → Walked s (Acquiring a A3) t4 (moved_to s (Acquiring a A9)) (Take a.counter t2.me.0.own.number ∷ []) 1
  to_lowered y = walked_then s t3 t4 (Acquiring a A3) (Acquiring a A8) (Acquiring a A9) (Take a.counter t2.me.0.own.number ∷ []) [] 1 0 taken y

  module _ (lowered : Walked s (Acquiring a A3) t4 (moved_to s (Acquiring a A9)) (Take a.counter t2.me.0.own.number ∷ []) 1)
      (y : Walked t4 (Acquiring a A9) t5 (moved_to t4 Rest) [] 0) (bare : t5.me.1 ≡ []) where
    abbrev counted : Numbers
    counted = record n { taken = n.taken + 1 }

    ended : Walked s (Acquiring a A3) t5 (moved_to s Rest) took 1
    ended = walked_then s t4 t5 (Acquiring a A3) (Acquiring a A9) Rest took [] 1 0 lowered y

    pub entered_seat : IsSeat t5 counted
    entered_seat = record {
      token_is = token_after s t5 (Acquiring a A3) (moved_to s Rest) took 1 n counted is ended bare is.empty is.turns_are (omega arith) (omega arith) refl refl;
      free = ap (λ (q : SeatState). is_free q.place) ended.stands_is;
      counted = ended.counted refl;
    }

    pub entered_taken : IsEntered (seat_of s n) a (Acquiring a A3) (Taken (seat_of t5 counted))
    entered_taken = (
      (λ i. record {
        table = ended.table_is i;
        number = n.seat;
        left = n.left;
        taken = n.taken + 1;
        sight = sight_by t5.me.0.own.knows;
        strides = t5.me.0.own.gone;
      }),
      ended.stands_is,
      subst (λ k. RunsRows (seat_of s n) (Acquiring a A3) (seat_of t5 counted) (Take a.counter k ∷ [])) (looked.number_is ∙ is.number_is)
          (calls s t5 n counted (Acquiring a A3) (moved_to s Rest) took 1 is ended),
    )

-- or the seat's wait is queued
module _ (s t3 t4 : Token) (n : Numbers) (a : Acquire) (w : WaitId) (is : IsToken s n)
    (committed : Walked s (Acquiring a A3) t3 (moved_to s (Acquiring a A7)) [] 0)
    (y : Walked t3 (Acquiring a A7) t4 (parked t3 a) (Queue a.counter w a.lifo ∷ []) 0) (own : w ≡ wait n.seat n.turns) (bare : t4.me.1 ≡ []) where
  abbrev queues : List Entry
  queues = Queue a.counter w a.lifo ∷ []

  slept : Walked s (Acquiring a A3) t4 (parked s a) queues 0
  slept =
      subst (λ (q : SeatState). Walked s (Acquiring a A3) t4 (record { place = Acquiring a (Parked q.turn P); turn = q.turn + 1; hand = q.hand }) queues 0)
      committed.stands_is
      (walked_on s t3 t4 (Acquiring a A3) (moved_to s (Acquiring a A7)) (parked t3 a) [] queues 0 0 committed y)

  abbrev later : Numbers
  later = record n { turns = n.turns + 1 }

  at : t4.me.0.own.knows.place ≡ Acquiring a (Parked n.turns P)
  at = ap (λ (q : SeatState). q.place) slept.stands_is ∙ ap (λ k. Acquiring a (Parked k P)) is.turns_are

  pub asleep_seat : a.counter < length s.me.0.own.knows.setting.starts → IsSleeping t4 later a n.turns
  asleep_seat inside = record {
    token_is =
        token_after s t4 (Acquiring a A3) (parked s a) queues 0 n later is slept bare is.empty (ap (λ k. k + 1) is.turns_are) (omega arith) (omega arith) refl (omega arith);
    inside = subst (λ (z : TableModel). a.counter < length z.setting.starts) (sym slept.table_is) inside;
    at = at;
  }

  pub entered_asleep : IsLast t4 (Queue a.counter w a.lifo) → IsEntered (seat_of s n) a (Acquiring a A3) (Asleep (seat_of t4 later))
  entered_asleep last = (
    (λ i. record {
      table = slept.table_is i;
      number = n.seat;
      left = n.left;
      taken = n.taken;
      sight = sight_by t4.me.0.own.knows;
      strides = t4.me.0.own.gone;
    }),
    slept.stands_is,
    subst (λ x. RunsRows (seat_of s n) (Acquiring a A3) (seat_of t4 later) (Queue a.counter x a.lifo ∷ [])) wait_is
        (calls s t4 n later (Acquiring a A3) (parked s a) queues 0 is slept),
    subst (λ x. IsLast t4 (Queue a.counter x a.lifo)) wait_is last,
  )
    where
      wait_is : w ≡ wait n.seat s.me.0.own.knows.turn
      wait_is = own ∙ ap (wait n.seat) (sym is.turns_are)
