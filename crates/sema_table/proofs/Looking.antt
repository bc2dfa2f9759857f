-- The second look, under the lock.
use Rattle.std.proofs.Common.{◌≡◌, ◌≢◌, ℕ, ◌+◌, ◌-◌, ◌<◌, [], ◌∷◌, refl, ap, subst, arith}
use Rattle.step_table.specs.declared.effect.Effect.TheVariants.{Nothing, Tells}
use Rattle.step_table.specs.declared.entry.Entry.TheVariants.{Take}
use Rattle.step_table.specs.declared.place.Acquire.{Acquire}
use Rattle.step_table.specs.declared.place.AcquireRow.TheVariants.{A5, A6, A7, A8}
use Rattle.step_table.specs.declared.place.Place.{Place}
use Rattle.step_table.specs.declared.place.Place.TheVariants.{Acquiring}
use Rattle.step_table.specs.World.{SeatState}
use Rattle.step_table.specs.Event.{Next}
use Rattle.step_table.proofs.Sums.{on_here}
use Rattle.running_rows.specs.Strides.{here}
use Rattle.sema_table.specs.Setting.{root}
use Rattle.sema_table.specs.Starts.{begin}
use Rattle.sema_table.proofs.Striding.{Ran}
use Rattle.sema_table.specs.Seats.{Token}
use Rattle.sema_table.proofs.Changing.{has_changed}
use Rattle.sema_table.specs.Walks.{Walked, Changed, HasRecord, HasRoom, moved_to}
use Rattle.sema_table.proofs.Leading.{Goes, next_by, led, load_zero, load_some, won, lost}
use Rattle.sema_table.proofs.Walking.{walked_row, walked_then, ran_from}
use Rattle.sema_table.proofs.Holding.{record_on, has_room}

-- A5, after rows that led there
module _ (s0 s u : Token) (a : Acquire) (n : ℕ) (before : Walked s0 (Acquiring a A5) s (moved_to s0 (Acquiring a A5)) [] 0) (kept : HasRecord s a.counter)
    (r : Ran here s.me.0.own n u.me.0.own) (same : u.table_id ≡ s.table_id) (slots : u.me.1 ≡ s.me.1) where
  pub at : s.me.0.own.knows.place ≡ Acquiring a A5
  at = ap (λ (y : SeatState). y.place) before.stands_is

  abbrev look : Ran (begin (Acquiring a A5)) s.me.0.own n u.me.0.own
  look = ran_from s u (Acquiring a A5) n at r

  found : Goes s.me.0.own look.stride (next_by s.me.0.own (Acquiring a A5) look.stride n) u.me.0.own
  found = led s.me.0.own u.me.0.own (Acquiring a A5) n look

  zero_row : n ≡ 0 → Walked s (Acquiring a A5) u (moved_to s (Acquiring a A7)) [] 0
  zero_row e = walked_row s u (Acquiring a A5) n (Acquiring a A7, Nothing) look (load_zero n (Acquiring a A7) (λ left. Acquiring a (A6 left)) found e) same

  pub zero_walked : n ≡ 0 → Walked s0 (Acquiring a A5) u (moved_to s0 (Acquiring a A7)) [] 0
  zero_walked e = walked_then s0 s u (Acquiring a A5) (Acquiring a A5) (Acquiring a A7) [] [] 0 0 before (zero_row e)

  pub zero_record : n ≡ 0 → HasRecord u a.counter
  zero_record e =
      record_on s u (Acquiring a A5) n a.counter (Acquiring a A7, Nothing) look
      (load_zero n (Acquiring a A7) (λ left. Acquiring a (A6 left)) found e) (zero_row e).table_is
      (on_here (root s.me.0.own.knows.setting a.counter) 1) (λ l q. refl) slots kept

  pub zero_room : n ≡ 0 → HasRoom u a.counter
  zero_room e = has_room s u (Acquiring a A5) n a look (zero_row e).table_is (ap (λ (y : SeatState). y.place) (zero_row e).stands_is)

  some_row : 0 < n → Walked s (Acquiring a A5) u (moved_to s (Acquiring a (A6 (n - 1)))) [] 0
  some_row h =
      walked_row s u (Acquiring a A5) n (Acquiring a (A6 (n - 1)), Nothing) look (load_some n (Acquiring a A7) (λ left. Acquiring a (A6 left)) found h) same

  pub some_walked : 0 < n → Walked s0 (Acquiring a A5) u (moved_to s0 (Acquiring a (A6 (n - 1)))) [] 0
  some_walked h = walked_then s0 s u (Acquiring a A5) (Acquiring a A5) (Acquiring a (A6 (n - 1))) [] [] 0 0 before (some_row h)

  some_record : 0 < n → HasRecord u a.counter
  some_record h = record_on s u (Acquiring a A5) n a.counter (Acquiring a (A6 (n - 1)), Nothing) look
      (load_some n (Acquiring a A7) (λ left. Acquiring a (A6 left)) found h) (some_row h).table_is
      (on_here (root s.me.0.own.knows.setting a.counter) 1) (λ l q. refl) slots kept

  -- and A6
  module _ (w : Token) (y : ℕ) (some : 0 < n) (q : Ran here u.me.0.own y w.me.0.own) (again : w.table_id ≡ u.table_id) (still : w.me.1 ≡ u.me.1) where
    abbrev before_it : Place
    before_it = Acquiring a (A6 (n - 1))

    abbrev wins : Next
    wins = (Acquiring a A8, Tells (Take a.counter u.me.0.own.number))

    abbrev loses : Next
    loses = (Acquiring a A5, Nothing)

    swap : Ran (begin before_it) u.me.0.own y w.me.0.own
    swap = ran_from u w before_it y (ap (λ (x : SeatState). x.place) (some_walked some).stands_is) q

    went : Goes u.me.0.own swap.stride (next_by u.me.0.own before_it swap.stride y) w.me.0.own
    went = led u.me.0.own w.me.0.own before_it y swap

    win : y ≡ n → Goes u.me.0.own swap.stride wins w.me.0.own
    win e = won y (n - 1 + 1) wins loses went (omega arith)

    lose : y ≢ n → Goes u.me.0.own swap.stride loses w.me.0.own
    lose ne = lost y (n - 1 + 1) wins loses went (λ e. ne (omega arith))

    pub won_walked : y ≡ n → Walked s0 (Acquiring a A5) w (moved_to s0 (Acquiring a A8)) (Take a.counter s0.me.0.own.number ∷ []) 1
    won_walked e = subst (λ i. Walked s0 (Acquiring a A5) w (moved_to s0 (Acquiring a A8)) (Take a.counter i ∷ []) 1) (some_walked some).number_is
        (walked_then s0 u w (Acquiring a A5) before_it (Acquiring a A8) [] (Take a.counter u.me.0.own.number ∷ []) 0 1 (some_walked some)
        (walked_row u w before_it y wins swap (win e) again))

    pub lost_walked : y ≢ n → Walked s0 (Acquiring a A5) w (moved_to s0 (Acquiring a A5)) [] 0
    lost_walked ne =
        walked_then s0 u w (Acquiring a A5) before_it (Acquiring a A5) [] [] 0 0 (some_walked some) (walked_row u w before_it y loses swap (lose ne) again)

    pub lost_changed : y ≢ n → Changed a.counter s w
    lost_changed = has_changed s.me.0.own u.me.0.own w.me.0.own (Acquiring a A5) before_it a.counter n y look swap (λ i x j. refl) (λ i x j. refl)

    pub won_record : y ≡ n → HasRecord w a.counter
    won_record e = record_on u w before_it y a.counter wins swap (win e) (walked_row u w before_it y wins swap (win e) again).table_is
        (on_here (root u.me.0.own.knows.setting a.counter) 1) (λ l x. refl) still (some_record some)

    pub lost_record : y ≢ n → HasRecord w a.counter
    lost_record ne = record_on u w before_it y a.counter loses swap (lose ne) (walked_row u w before_it y loses swap (lose ne) again).table_is
        (on_here (root u.me.0.own.knows.setting a.counter) 1) (λ l x. refl) still (some_record some)
