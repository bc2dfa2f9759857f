-- A release up to its look for a wait.
use Rattle.std.proofs.Common.{◌≡◌, ℕ, ◌+◌, ◌-◌, ◌<◌, [], ◌∷◌, length, sym, refl, ap, ◌∙◌, subst, arith}
use Rattle.step_table.specs.declared.effect.Effect.TheVariants.{Nothing, Tells}
use Rattle.step_table.specs.declared.entry.Entry.TheVariants.{Add}
use Rattle.step_table.specs.declared.place.ReleaseRow.TheVariants.{R1, R2, R3}
use Rattle.step_table.specs.declared.place.Place.TheVariants.{Rest}
use Rattle.step_table.specs.World.{SeatState}
use Rattle.step_table.proofs.Sums.{on_here}
use Rattle.running_rows.specs.Strides.{here}
use Rattle.sema_table.specs.declared.seat.Numbers.{Numbers}
use Rattle.sema_table.specs.declared.answers.Posted.TheVariants.{Done, Owes}
use Rattle.sema_table.specs.Places.{is_free}
use Rattle.sema_table.specs.Rule.{sight_by}
use Rattle.sema_table.specs.Starts.{begin}
use Rattle.sema_table.proofs.Striding.{Ran, ran_at}
use Rattle.sema_table.specs.Seats.{Token, TableModel, seat_of, IsSeat, IsOwing}
use Rattle.sema_table.specs.Walks.{Walked, moved_to}
use Rattle.sema_table.specs.Calls.{CallsRows, rows_of}
use Rattle.sema_table.specs.Tries.{releasing, IsPosted}
use Rattle.sema_table.proofs.Leading.{Goes, next_by, led, load_zero, load_some}
use Rattle.sema_table.proofs.Walking.{walked_row, walked_on, token_after}
use Rattle.sema_table.proofs.Calling.{calls_rows, row_is}

-- the row that adds the unit
module _ (s t : Token) (n : Numbers) (c k : ℕ) (r : Ran (begin (releasing c R1)) s.me.0.own k t.me.0.own) (same : t.table_id ≡ s.table_id) where
  abbrev pub walked_add : Walked s (releasing c R1) t (moved_to s (releasing c R2)) (Add c s.me.0.own.number ∷ []) 0
  walked_add = walked_row s t (releasing c R1) k (releasing c R2, Tells (Add c s.me.0.own.number)) r (led s.me.0.own t.me.0.own (releasing c R1) k r) same

-- and the look
module _ (s t u : Token) (n : Numbers) (c k found : ℕ) (seat : IsSeat s n) (some : 0 < n.left) (r : Ran (begin (releasing c R1)) s.me.0.own k t.me.0.own)
    (q : Ran here t.me.0.own found u.me.0.own)
    (same : t.table_id ≡ s.table_id) (again : u.table_id ≡ t.table_id) (bare : t.me.1 ≡ s.me.1) (still : u.me.1 ≡ t.me.1) where
  abbrev fewer : Numbers
  fewer = record n { left = n.left - 1 }

  abbrev one : Walked s (releasing c R1) t (moved_to s (releasing c R2)) (Add c s.me.0.own.number ∷ []) 0
  one = walked_add s t n c k r same

  at : t.me.0.own.knows.place ≡ releasing c R2
  at = ap (λ (y : SeatState). y.place) one.stands_is

  abbrev row : Ran (begin (releasing c R2)) t.me.0.own found u.me.0.own
  row = ran_at t.me.0.own u.me.0.own (releasing c R2) found at q

  next : Goes t.me.0.own row.stride (next_by t.me.0.own (releasing c R2) row.stride found) u.me.0.own
  next = led t.me.0.own u.me.0.own (releasing c R2) found row

  rows : rows_of (r.stride ∷ row.stride ∷ []) ≡ (releasing c R1, k) ∷ (releasing c R2, found) ∷ []
  rows = λ i. row_is s.me.0.own t.me.0.own (releasing c R1) k r i ∷ row_is t.me.0.own u.me.0.own (releasing c R2) found row i ∷ []

  bare_after : u.me.1 ≡ []
  bare_after = still ∙ bare ∙ seat.token_is.bare

  hand_is : t.me.0.own.knows.hand ≡ []
  hand_is = ap (λ (y : SeatState). y.hand) one.stands_is ∙ seat.token_is.empty

  turns_stay : t.me.0.own.knows.turn ≡ n.turns
  turns_stay = ap (λ (y : SeatState). y.turn) one.stands_is ∙ seat.token_is.turns_are

  abbrev done_walk : found ≡ 0 → Walked s (releasing c R1) u (moved_to t Rest) (Add c s.me.0.own.number ∷ []) 0
  done_walk e = walked_on s t u (releasing c R1) (moved_to s (releasing c R2)) (moved_to t Rest) (Add c s.me.0.own.number ∷ []) [] 0 0 one
      (walked_row t u (releasing c R2) found (Rest, Nothing) row (load_zero found Rest (λ left. releasing c R3) next e) again)

  abbrev owes_walk : 0 < found → Walked s (releasing c R1) u (moved_to t (releasing c R3)) (Add c s.me.0.own.number ∷ []) 0
  owes_walk h = walked_on s t u (releasing c R1) (moved_to s (releasing c R2)) (moved_to t (releasing c R3)) (Add c s.me.0.own.number ∷ []) [] 0 0 one
      (walked_row t u (releasing c R2) found (releasing c R3, Nothing) row (load_some found Rest (λ left. releasing c R3) next h) again)

  pub done_seat : found ≡ 0 → IsSeat u fewer
  done_seat e = let x = done_walk e in let o = on_here s.me.0.own.number 1 in record {
    token_is = token_after s u (releasing c R1) (moved_to t Rest) (Add c s.me.0.own.number ∷ []) 0 n fewer seat.token_is x bare_after hand_is
        turns_stay (omega arith) (omega arith) refl (omega arith);
    free = ap (λ (q : SeatState). is_free q.place) x.stands_is;
    counted = x.counted refl;
  }

  pub owing_seat : 0 < found → c < length s.me.0.own.knows.setting.starts → IsOwing u fewer c
  owing_seat h inside = let x = owes_walk h in let o = on_here s.me.0.own.number 1 in record {
    token_is = token_after s u (releasing c R1) (moved_to t (releasing c R3)) (Add c s.me.0.own.number ∷ []) 0 n fewer seat.token_is x bare_after hand_is
        turns_stay (omega arith) (omega arith) refl (omega arith);
    inside = subst (λ (y : TableModel). c < length y.setting.starts) (sym x.table_is) inside;
    at = ap (λ (q : SeatState). q.place) x.stands_is;
  }

  pub posted_done : found ≡ 0 → IsPosted (seat_of s n) c (Done (seat_of u fewer))
  posted_done e = let x = done_walk e in (
    (λ i. record { table = x.table_is i; number = n.seat; left = n.left - 1; taken = n.taken; sight = sight_by u.me.0.own.knows; strides = u.me.0.own.gone }),
    x.stands_is ∙ ap (λ (q : SeatState). record q { place = Rest }) one.stands_is,
    (
      k,
      subst (λ i. CallsRows (seat_of s n) (releasing c R1) (seat_of u fewer) (Add c i ∷ []) ((releasing c R1, k) ∷ (releasing c R2, 0) ∷ []))
          seat.token_is.number_is
          (calls_rows s u n fewer (releasing c R1) (moved_to t Rest) (Add c s.me.0.own.number ∷ []) 0
          ((releasing c R1, k) ∷ (releasing c R2, 0) ∷ []) seat.token_is x
          (rows ∙ ap (λ j. (releasing c R1, k) ∷ (releasing c R2, j) ∷ []) e)),
    ),
  )

  pub posted_owes : 0 < found → IsPosted (seat_of s n) c (Owes (seat_of u fewer))
  posted_owes h = let x = owes_walk h in let is : found ≡ found - 1 + 1 = omega arith in (
    (λ i. record { table = x.table_is i; number = n.seat; left = n.left - 1; taken = n.taken; sight = sight_by u.me.0.own.knows; strides = u.me.0.own.gone }),
    x.stands_is ∙ ap (λ (q : SeatState). record q { place = releasing c R3 }) one.stands_is,
    (
      k,
      found - 1,
      subst (λ i. CallsRows (seat_of s n) (releasing c R1) (seat_of u fewer) (Add c i ∷ []) ((releasing c R1, k) ∷ (releasing c R2, found - 1 + 1) ∷ []))
          seat.token_is.number_is
          (calls_rows s u n fewer (releasing c R1) (moved_to t (releasing c R3)) (Add c s.me.0.own.number ∷ []) 0
          ((releasing c R1, k) ∷ (releasing c R2, found - 1 + 1) ∷ []) seat.token_is x
          (rows ∙ ap (λ j. (releasing c R1, k) ∷ (releasing c R2, j) ∷ []) is)),
    ),
  )
