-- A release of many units up to its look for waits.
use Rattle.std.proofs.Common.{◌≡◌, ℕ, ◌+◌, ◌-◌, ◌<◌, ◌≤◌, [], ◌∷◌, length, sym, refl, ap, ◌∙◌, subst, arith}
use Rattle.step_table.specs.declared.effect.Effect.TheVariants.{Nothing, Tells}
use Rattle.step_table.specs.declared.entry.Entry.TheVariants.{AddMany}
use Rattle.step_table.specs.declared.place.ReleaseMany.{ReleaseMany}
use Rattle.step_table.specs.declared.place.ManyRow.TheVariants.{M1, M2, M3}
use Rattle.step_table.specs.declared.place.Place.TheVariants.{Rest, ReleasingMany}
use Rattle.step_table.specs.World.{SeatState}
use Rattle.step_table.proofs.Sums.{on_here}
use Rattle.running_rows.specs.Strides.{here}
use Rattle.sema_table.specs.declared.seat.Numbers.{Numbers}
use Rattle.sema_table.specs.declared.many_seat.PostedMany.TheVariants.{Done, Owes}
use Rattle.sema_table.specs.Places.{is_free}
use Rattle.sema_table.specs.Rule.{sight_by}
use Rattle.sema_table.specs.Starts.{begin}
use Rattle.sema_table.proofs.Striding.{Ran, ran_at}
use Rattle.sema_table.specs.Seats.{Token, TableModel, seat_of, IsSeat}
use Rattle.sema_table.specs.ManySeats.{HasUnits, IsOwingMany}
use Rattle.sema_table.specs.Walks.{Walked, moved_to}
use Rattle.sema_table.specs.Calls.{CallsRows, rows_of}
use Rattle.sema_table.specs.Many.{IsPostedMany}
use Rattle.sema_table.proofs.Leading.{Goes, next_by, led, load_zero, load_some}
use Rattle.sema_table.proofs.Walking.{walked_row, walked_on, token_after}
use Rattle.sema_table.proofs.Calling.{calls_rows, row_is}

-- the row that adds the units
module _ (s t : Token) (n : Numbers) (a : ReleaseMany) (k : ℕ) (r : Ran (begin (ReleasingMany a M1)) s.me.0.own k t.me.0.own)
    (same : t.table_id ≡ s.table_id) where
  abbrev pub walked_add : Walked s (ReleasingMany a M1) t (moved_to s (ReleasingMany a M2)) (AddMany a.counter a.units s.me.0.own.number ∷ []) 0
  walked_add = walked_row s t (ReleasingMany a M1) k (ReleasingMany a M2, Tells (AddMany a.counter a.units s.me.0.own.number)) r
      (led s.me.0.own t.me.0.own (ReleasingMany a M1) k r) same

-- and the look
module _ (s t u : Token) (n : Numbers) (a : ReleaseMany) (k found : ℕ) (seat : IsSeat s n) (some : a.units ≤ n.left)
    (r : Ran (begin (ReleasingMany a M1)) s.me.0.own k t.me.0.own) (q : Ran here t.me.0.own found u.me.0.own)
    (same : t.table_id ≡ s.table_id) (again : u.table_id ≡ t.table_id) (bare : t.me.1 ≡ s.me.1) (still : u.me.1 ≡ t.me.1) where
  abbrev fewer : Numbers
  fewer = record n { left = n.left - a.units }

  abbrev one : Walked s (ReleasingMany a M1) t (moved_to s (ReleasingMany a M2)) (AddMany a.counter a.units s.me.0.own.number ∷ []) 0
  one = walked_add s t n a k r same

  at : t.me.0.own.knows.place ≡ ReleasingMany a M2
  at = ap (λ (y : SeatState). y.place) one.stands_is

  abbrev row : Ran (begin (ReleasingMany a M2)) t.me.0.own found u.me.0.own
  row = ran_at t.me.0.own u.me.0.own (ReleasingMany a M2) found at q

  next : Goes t.me.0.own row.stride (next_by t.me.0.own (ReleasingMany a M2) row.stride found) u.me.0.own
  next = led t.me.0.own u.me.0.own (ReleasingMany a M2) found row

  rows : rows_of (r.stride ∷ row.stride ∷ []) ≡ (ReleasingMany a M1, k) ∷ (ReleasingMany a M2, found) ∷ []
  rows = λ i. row_is s.me.0.own t.me.0.own (ReleasingMany a M1) k r i ∷ row_is t.me.0.own u.me.0.own (ReleasingMany a M2) found row i ∷ []

  bare_after : u.me.1 ≡ []
  bare_after = still ∙ bare ∙ seat.token_is.bare

  hand_is : t.me.0.own.knows.hand ≡ []
  hand_is = ap (λ (y : SeatState). y.hand) one.stands_is ∙ seat.token_is.empty

  turns_stay : t.me.0.own.knows.turn ≡ n.turns
  turns_stay = ap (λ (y : SeatState). y.turn) one.stands_is ∙ seat.token_is.turns_are

  abbrev done_walk : found ≡ 0 → Walked s (ReleasingMany a M1) u (moved_to t Rest) (AddMany a.counter a.units s.me.0.own.number ∷ []) 0
  done_walk e =
      walked_on s t u (ReleasingMany a M1) (moved_to s (ReleasingMany a M2)) (moved_to t Rest) (AddMany a.counter a.units s.me.0.own.number ∷ []) [] 0 0 one
      (walked_row t u (ReleasingMany a M2) found (Rest, Nothing) row (load_zero found Rest (λ left. ReleasingMany a M3) next e) again)

  abbrev owes_walk : 0 < found → Walked s (ReleasingMany a M1) u (moved_to t (ReleasingMany a M3)) (AddMany a.counter a.units s.me.0.own.number ∷ []) 0
  owes_walk h = walked_on s t u (ReleasingMany a M1) (moved_to s (ReleasingMany a M2)) (moved_to t (ReleasingMany a M3))
      (AddMany a.counter a.units s.me.0.own.number ∷ []) [] 0 0 one
      (walked_row t u (ReleasingMany a M2) found (ReleasingMany a M3, Nothing) row (load_some found Rest (λ left. ReleasingMany a M3) next h) again)

  pub done_seat : found ≡ 0 → IsSeat u fewer
  done_seat e = let x = done_walk e in let o = on_here s.me.0.own.number a.units in record {
    token_is = token_after s u (ReleasingMany a M1) (moved_to t Rest) (AddMany a.counter a.units s.me.0.own.number ∷ []) 0 n fewer seat.token_is x bare_after
        hand_is turns_stay (omega arith) (omega arith) refl (omega arith);
    free = ap (λ (q : SeatState). is_free q.place) x.stands_is;
    counted = x.counted refl;
  }

  pub owing_seat : 0 < found → a.counter < length s.me.0.own.knows.setting.starts → HasUnits a → IsOwingMany u fewer a
  owing_seat h inside units = let x = owes_walk h in let o = on_here s.me.0.own.number a.units in record {
    midway = record {
      token_is = token_after s u (ReleasingMany a M1) (moved_to t (ReleasingMany a M3)) (AddMany a.counter a.units s.me.0.own.number ∷ [])
          0 n fewer seat.token_is x bare_after hand_is turns_stay (omega arith) (omega arith) refl (omega arith);
      inside = subst (λ (y : TableModel). a.counter < length y.setting.starts) (sym x.table_is) inside;
      at = ap (λ (q : SeatState). q.place) x.stands_is;
    };
    units = units;
  }

  pub posted_done : found ≡ 0 → IsPostedMany (seat_of s n) a (Done (seat_of u fewer))
  posted_done e = let x = done_walk e in (
    (λ i. record {
      table = x.table_is i;
      number = n.seat;
      left = n.left - a.units;
      taken = n.taken;
      sight = sight_by u.me.0.own.knows;
      strides = u.me.0.own.gone;
    }),
    x.stands_is ∙ ap (λ (q : SeatState). record q { place = Rest }) one.stands_is,
    (
      k,
      subst (λ i. CallsRows (seat_of s n) (ReleasingMany a M1) (seat_of u fewer) (AddMany a.counter a.units i ∷ [])
          ((ReleasingMany a M1, k) ∷ (ReleasingMany a M2, 0) ∷ [])) seat.token_is.number_is
          (calls_rows s u n fewer (ReleasingMany a M1) (moved_to t Rest) (AddMany a.counter a.units s.me.0.own.number ∷ []) 0
          ((ReleasingMany a M1, k) ∷ (ReleasingMany a M2, 0) ∷ []) seat.token_is x
          (rows ∙ ap (λ j. (ReleasingMany a M1, k) ∷ (ReleasingMany a M2, j) ∷ []) e)),
    ),
  )

  pub posted_owes : 0 < found → IsPostedMany (seat_of s n) a (Owes (seat_of u fewer))
  posted_owes h = let x = owes_walk h in let is : found ≡ found - 1 + 1 = omega arith in (
    (λ i. record {
      table = x.table_is i;
      number = n.seat;
      left = n.left - a.units;
      taken = n.taken;
      sight = sight_by u.me.0.own.knows;
      strides = u.me.0.own.gone;
    }),
    x.stands_is ∙ ap (λ (q : SeatState). record q { place = ReleasingMany a M3 }) one.stands_is,
    (
      k,
      found - 1,
      subst (λ i. CallsRows (seat_of s n) (ReleasingMany a M1) (seat_of u fewer) (AddMany a.counter a.units i ∷ [])
          ((ReleasingMany a M1, k) ∷ (ReleasingMany a M2, found - 1 + 1) ∷ [])) seat.token_is.number_is
          (calls_rows s u n fewer (ReleasingMany a M1) (moved_to t (ReleasingMany a M3)) (AddMany a.counter a.units s.me.0.own.number ∷ []) 0
          ((ReleasingMany a M1, k) ∷ (ReleasingMany a M2, found - 1 + 1) ∷ []) seat.token_is x
          (rows ∙ ap (λ j. (ReleasingMany a M1, k) ∷ (ReleasingMany a M2, j) ∷ []) is)),
    ),
  )
