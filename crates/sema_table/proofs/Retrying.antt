-- The try of a seat that was woken.
use Rattle.std.proofs.Common.{◌≡◌, ◌≢◌, ℕ, ◌+◌, ◌-◌, ◌<◌, List, [], ◌∷◌, ◌++◌, refl, ap, ◌∙◌, subst, arith}
use Rattle.step_table.specs.declared.effect.Effect.TheVariants.{Nothing, Tells}
use Rattle.step_table.specs.declared.entry.Entry.{Entry}
use Rattle.step_table.specs.declared.entry.Entry.TheVariants.{Take, Queue}
use Rattle.step_table.specs.declared.place.Acquire.{Acquire}
use Rattle.step_table.specs.declared.place.AcquireRow.TheVariants.{A3, A10, A11, Parked}
use Rattle.step_table.specs.declared.place.ParkedRow.TheVariants.{P}
use Rattle.step_table.specs.declared.place.Place.{Place}
use Rattle.step_table.specs.declared.place.Place.TheVariants.{Rest, Acquiring}
use Rattle.step_table.specs.World.{SeatState}
use Rattle.step_table.specs.Event.{Next}
use Rattle.step_table.specs.Counting.{wait}
use Rattle.running_rows.specs.Strides.{here}
use Rattle.sema_table.specs.declared.seat.Numbers.{Numbers}
use Rattle.sema_table.specs.declared.answers.Entered.{Entered}
use Rattle.sema_table.specs.declared.answers.Entered.TheVariants.{Taken, Asleep}
use Rattle.sema_table.specs.Places.{is_free}
use Rattle.sema_table.specs.Rule.{sight_by}
use Rattle.sema_table.specs.Starts.{begin}
use Rattle.sema_table.proofs.Striding.{Ran}
use Rattle.sema_table.specs.Seats.{Token, seat_of, IsToken, IsSeat, IsWoken}
use Rattle.sema_table.proofs.Changing.{has_changed}
use Rattle.sema_table.specs.Walks.{Walked, Changed, moved_to}
use Rattle.sema_table.specs.Calls.{RunsRows}
use Rattle.sema_table.specs.Waking.{IsEntered, IsRetried}
use Rattle.sema_table.proofs.Leading.{Goes, next_by, led, load_zero, load_some, won, lost}
use Rattle.sema_table.proofs.Walking.{walked_row, walked_then, ran_from, token_after}
use Rattle.sema_table.proofs.Calling.{calls, calls_after}

-- A10, after rows that led there
module _ (s0 s u : Token) (a : Acquire) (n : ℕ) (before : Walked s0 (Acquiring a A10) s (moved_to s0 (Acquiring a A10)) [] 0)
    (r : Ran here s.me.0.own n u.me.0.own) (same : u.table_id ≡ s.table_id) where
  abbrev look : Ran (begin (Acquiring a A10)) s.me.0.own n u.me.0.own
  look = ran_from s u (Acquiring a A10) n (ap (λ (y : SeatState). y.place) before.stands_is) r

  found : Goes s.me.0.own look.stride (next_by s.me.0.own (Acquiring a A10) look.stride n) u.me.0.own
  found = led s.me.0.own u.me.0.own (Acquiring a A10) n look

  pub zero_again : n ≡ 0 → Walked s0 (Acquiring a A10) u (moved_to s0 (Acquiring a A3)) [] 0
  zero_again e = walked_then s0 s u (Acquiring a A10) (Acquiring a A10) (Acquiring a A3) [] [] 0 0 before
      (walked_row s u (Acquiring a A10) n (Acquiring a A3, Nothing) look (load_zero n (Acquiring a A3) (λ left. Acquiring a (A11 left)) found e) same)

  pub some_again : 0 < n → Walked s0 (Acquiring a A10) u (moved_to s0 (Acquiring a (A11 (n - 1)))) [] 0
  some_again h = walked_then s0 s u (Acquiring a A10) (Acquiring a A10) (Acquiring a (A11 (n - 1))) [] [] 0 0 before
      (walked_row s u (Acquiring a A10) n (Acquiring a (A11 (n - 1)), Nothing) look
      (load_some n (Acquiring a A3) (λ left. Acquiring a (A11 left)) found h) same)

  -- and A11
  module _ (w : Token) (y : ℕ) (some : 0 < n) (q : Ran here u.me.0.own y w.me.0.own) (again : w.table_id ≡ u.table_id) where
    abbrev before_it : Place
    before_it = Acquiring a (A11 (n - 1))

    abbrev wins : Next
    wins = (Rest, Tells (Take a.counter u.me.0.own.number))

    abbrev loses : Next
    loses = (Acquiring a A10, Nothing)

    swap : Ran (begin before_it) u.me.0.own y w.me.0.own
    swap = ran_from u w before_it y (ap (λ (x : SeatState). x.place) (some_again some).stands_is) q

    went : Goes u.me.0.own swap.stride (next_by u.me.0.own before_it swap.stride y) w.me.0.own
    went = led u.me.0.own w.me.0.own before_it y swap

    pub won_again : y ≡ n → Walked s0 (Acquiring a A10) w (moved_to s0 Rest) (Take a.counter s0.me.0.own.number ∷ []) 1
    won_again e = subst (λ i. Walked s0 (Acquiring a A10) w (moved_to s0 Rest) (Take a.counter i ∷ []) 1) (some_again some).number_is
        (walked_then s0 u w (Acquiring a A10) before_it Rest [] (Take a.counter u.me.0.own.number ∷ []) 0 1 (some_again some)
        (walked_row u w before_it y wins swap (won y (n - 1 + 1) wins loses went (omega arith)) again))

    pub lost_again : y ≢ n → Walked s0 (Acquiring a A10) w (moved_to s0 (Acquiring a A10)) [] 0
    lost_again ne = walked_then s0 u w (Acquiring a A10) before_it (Acquiring a A10) [] [] 0 0 (some_again some)
        (walked_row u w before_it y loses swap (lost y (n - 1 + 1) wins loses went (λ e. ne (omega arith))) again)

    pub again_changed : y ≢ n → Changed a.counter s w
    again_changed = has_changed s.me.0.own u.me.0.own w.me.0.own (Acquiring a A10) before_it a.counter n y look swap (λ i x j. refl) (λ i x j. refl)

-- a unit was taken at once
module _ (s t : Token) (n : Numbers) (a : Acquire) (seat : IsWoken s n a)
    (x : Walked s (Acquiring a A10) t (moved_to s Rest) (Take a.counter s.me.0.own.number ∷ []) 1) (bare : t.me.1 ≡ s.me.1) where
  abbrev counted : Numbers
  counted = record n { taken = n.taken + 1 }

  abbrev took : List Entry
  took = Take a.counter s.me.0.own.number ∷ []

  pub retried_seat : IsSeat t counted
  retried_seat = record {
    token_is = token_after s t (Acquiring a A10) (moved_to s Rest) took 1 n counted seat.token_is x (bare ∙ seat.token_is.bare) seat.token_is.empty
        seat.token_is.turns_are (omega arith) (omega arith) refl refl;
    free = ap (λ (q : SeatState). is_free q.place) x.stands_is;
    counted = x.counted refl;
  }

  pub retried_taken : IsRetried (seat_of s n) (Taken (seat_of t counted))
  retried_taken = (
    a,
    seat.at,
    (
      (λ i. record {
        table = x.table_is i;
        number = n.seat;
        left = n.left;
        taken = n.taken + 1;
        sight = sight_by t.me.0.own.knows;
        strides = t.me.0.own.gone;
      }),
      x.stands_is,
      subst (λ k. RunsRows (seat_of s n) (Acquiring a A10) (seat_of t counted) (Take a.counter k ∷ [])) seat.token_is.number_is
          (calls s t n counted (Acquiring a A10) (moved_to s Rest) took 1 seat.token_is x),
    ),
  )

-- or there was none
module _ (s t : Token) (n : Numbers) (a : Acquire) (seat : IsWoken s n a)
    (x : Walked s (Acquiring a A10) t (moved_to s (Acquiring a A3)) [] 0) (bare : t.me.1 ≡ s.me.1) where
  pub again_token : IsToken t n
  again_token = token_after s t (Acquiring a A10) (moved_to s (Acquiring a A3)) [] 0 n n seat.token_is x (bare ∙ seat.token_is.bare)
      seat.token_is.empty seat.token_is.turns_are (omega arith) (omega arith) refl (omega arith)

  same_turn : t.me.0.own.knows.turn ≡ s.me.0.own.knows.turn
  same_turn = ap (λ (q : SeatState). q.turn) x.stands_is

  pub retried_on : (entered : Entered) → IsEntered (seat_of t n) a (Acquiring a A3) entered → IsRetried (seat_of s n) entered
  retried_on (Taken u) e = (
    a,
    seat.at,
    (
      e.0 ∙ (λ i. record { table = x.table_is i; number = n.seat; left = n.left; taken = n.taken + 1; sight = u.sight; strides = u.strides }),
      e.1 ∙ ap (λ (q : SeatState). record q { place = Rest }) x.stands_is,
      calls_after s t n u (Acquiring a A10) (Acquiring a A3) (Take a.counter n.seat ∷ []) 0 seat.token_is x e.2,
    ),
  )
  retried_on (Asleep u) e = (
    a,
    seat.at,
    (
      e.0 ∙ (λ i. record { table = x.table_is i; number = n.seat; left = n.left; taken = n.taken; sight = u.sight; strides = u.strides }),
      e.1 ∙ ap (λ (q : SeatState). record { place = Acquiring a (Parked q.turn P); turn = q.turn + 1; hand = q.hand }) x.stands_is,
      calls_after s t n u (Acquiring a A10) (Acquiring a A3) (Queue a.counter (wait n.seat s.me.0.own.knows.turn) a.lifo ∷ []) 0 seat.token_is x
          (subst (λ k. RunsRows (seat_of t n) (Acquiring a A3) u (Queue a.counter (wait n.seat k) a.lifo ∷ [])) same_turn e.2),
      subst (λ k. (before : List Entry) × (u.sight.seen ≡ before ++ Queue a.counter (wait n.seat k) a.lifo ∷ [])) same_turn e.3,
    ),
  )
