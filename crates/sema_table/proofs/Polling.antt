-- What is granted to a parked seat.
use Rattle.std.proofs.Common.{◌≡◌, ◌≢◌, ℕ, ◌+◌, ◌<◌, ◌≤◌, ◌==◌, cond, Bool, [], ◌∷◌, ◌++◌, length, sym, refl, ap}
use Rattle.std.proofs.Common.{◌∙◌, subst, arith, eq-eqb, ne_eqb, append-nil}
use Rattle.step_table.specs.declared.place.Acquire.{Acquire}
use Rattle.step_table.specs.declared.place.AcquireRow.TheVariants.{Parked, A10}
use Rattle.step_table.specs.declared.place.ParkedRow.TheVariants.{P}
use Rattle.step_table.specs.declared.place.Place.{Place}
use Rattle.step_table.specs.declared.place.Place.TheVariants.{Rest, Acquiring}
use Rattle.step_table.specs.declared.word.Word.{Word}
use Rattle.step_table.specs.declared.word.Word.TheVariants.{Grant}
use Rattle.step_table.specs.World.{SemaWorld, SeatState, found}
use Rattle.step_table.specs.Event.{to}
use Rattle.step_table.specs.Table.{table}
use Rattle.step_table.specs.Journal.{HasItsUnit}
use Rattle.step_table.specs.Counting.{wait}
use Rattle.step_table.specs.Path.{Deed, looks, Did}
use Rattle.step_table.proofs.Paths.{stride_told}
use Rattle.step_law_semaphores.specs.Lawful.{IsGrantOf}
use Rattle.step_law_semaphores.specs.SemaPath.{semaphores}
use Rattle.step_law_semaphores.proofs.Promises.{the_law}
use Rattle.running_rows.specs.Strides.{here}
use Rattle.sema_table.specs.declared.seat.Numbers.{Numbers}
use Rattle.sema_table.specs.declared.answers.Polled.TheVariants.{Still, Woken, Handed}
use Rattle.sema_table.specs.Setting.{root, layout}
use Rattle.sema_table.specs.Places.{is_free}
use Rattle.sema_table.specs.Rule.{stands_by, sight_by}
use Rattle.sema_table.specs.Starts.{begin}
use Rattle.sema_table.proofs.Striding.{Strode, Ran, ran_at}
use Rattle.sema_table.specs.Seats.{Token, TableModel, seat_of, IsSeat, IsSleeping, IsWoken}
use Rattle.sema_table.specs.Walks.{Walked, moved_to}
use Rattle.sema_table.specs.Tries.{LooksAt}
use Rattle.sema_table.specs.Waking.{CallsGranted, IsPolled}
use Rattle.sema_table.proofs.Leading.{Goes, led}
use Rattle.sema_table.proofs.Walking.{walked_row, token_after}
use Rattle.sema_table.proofs.Calling.{calls_granted}
use Rattle.sema_table.proofs.Trying.{looked_token, looked_stays, looked_table, looks_at}

module _ (s t : Token) (n : Numbers) (a : Acquire) (turn k : ℕ) (seat : IsSleeping s n a turn)
    (same : t.table_id ≡ s.table_id) (bare : t.me.1 ≡ s.me.1) where
  abbrev parked : Place
  parked = Acquiring a (Parked turn P)

  -- nothing was granted
  pub still_seat : Strode here (looks (Grant s.me.0.own.number)) s.me.0.own k t.me.0.own → IsSleeping t n a turn
  still_seat r = record {
    token_is = looked_token s t n (Grant s.me.0.own.number) k seat.token_is r same bare;
    inside =
        subst (λ (y : TableModel). a.counter < length y.setting.starts)
        (sym (looked_table s t n (Grant s.me.0.own.number) k seat.token_is r same bare)) seat.inside;
    at = ap (λ (q : SeatState). q.place) (looked_stays s t n (Grant s.me.0.own.number) k seat.token_is r same bare) ∙ seat.at;
  }

  pub polled_still : Strode here (looks (Grant s.me.0.own.number)) s.me.0.own k t.me.0.own → k ≡ 0 → IsPolled (seat_of s n) (Still (seat_of t n))
  polled_still r e = (
    a,
    turn,
    seat.at,
    subst (λ i. LooksAt (seat_of s n) (Grant i) 0 (seat_of t n)) seat.token_is.number_is
        (subst (λ j. LooksAt (seat_of s n) (Grant s.me.0.own.number) j (seat_of t n)) e
        (looks_at s t n (Grant s.me.0.own.number) k seat.token_is r same bare)),
  )

  module _ (q : Ran here s.me.0.own k t.me.0.own) where
    abbrev row : Ran (begin parked) s.me.0.own k t.me.0.own
    row = ran_at s.me.0.own t.me.0.own parked k seat.at q

    next : Goes s.me.0.own row.stride (to (cond (k == 1) (Acquiring a A10) Rest)) t.me.0.own
    next = led s.me.0.own t.me.0.own parked k row

    abbrev woken_walk : k ≡ 1 → Walked s parked t (moved_to s (Acquiring a A10)) [] 0
    woken_walk e =
        walked_row s t parked k (to (Acquiring a A10)) row
        (subst (λ (b : Bool). Goes s.me.0.own row.stride (to (cond b (Acquiring a A10) Rest)) t.me.0.own) (eq-eqb k 1 e) next) same

    abbrev handed_walk : k ≢ 1 → Walked s parked t (moved_to s Rest) [] 1
    handed_walk ne =
        walked_row s t parked k (to Rest) row (subst (λ (b : Bool). Goes s.me.0.own row.stride (to (cond b (Acquiring a A10) Rest)) t.me.0.own) (ne_eqb k 1 ne)
        next) same

    took_grant : (later : Numbers) (stands : SeatState) (gained j : ℕ) → (x : Walked s parked t stands [] gained) → x.strides ≡ row.stride ∷ []
        → k ≡ j → CallsGranted (seat_of s n) parked (seat_of t later) [] j
    took_grant later stands gained j x ran is = calls_granted s t n later parked stands gained row.stride j seat.token_is x ran row.did
        (ap (λ (q : SeatState). q.place) row.ran.stood) (row.read ∙ is)

    abbrev world : SemaWorld
    world = row.ran.world

    -- the world in which the grant was taken
    stood : world.seats s.me.0.own.number ≡ record (stands_by s.me.0.own.knows) { place = parked }
    stood = row.ran.meets.stands

    granted : k ≡ world.words.grants s.me.0.own.number
    granted = sym row.read
        ∙ (subst (λ (d : Deed Word). Did (semaphores (layout s.me.0.own.knows.setting)) world s.me.0.own.number d row.stride.read row.stride.told
        (sight_by t.me.0.own.knows)) row.did row.ran.did).read_is
        ∙ ap (λ (x : SeatState). found (root s.me.0.own.knows.setting) world.words (table s.me.0.own.number x world.words.lists).word) stood

    most_two : k ≤ 2
    most_two =
        subst (λ j. j ≤ 2) (sym granted) (subst (λ (x : SeatState). IsGrantOf x.place (world.words.grants s.me.0.own.number)) stood
        ((the_law.reached (layout s.me.0.own.knows.setting) world row.ran.meets.met).grants.0 s.me.0.own.number))

    pub woken_seat : k ≡ 1 → IsWoken t n a
    woken_seat e = let x = woken_walk e in record {
      token_is = token_after s t parked (moved_to s (Acquiring a A10)) [] 0 n n seat.token_is x (bare ∙ seat.token_is.bare) seat.token_is.empty
          seat.token_is.turns_are (omega arith) (omega arith) refl (omega arith);
      inside = subst (λ (y : TableModel). a.counter < length y.setting.starts) (sym x.table_is) seat.inside;
      at = ap (λ (q : SeatState). q.place) x.stands_is;
    }

    pub polled_woken : k ≡ 1 → IsPolled (seat_of s n) (Woken (seat_of t n))
    polled_woken e = let x = woken_walk e in (
      (λ i. record { table = x.table_is i; number = n.seat; left = n.left; taken = n.taken; sight = sight_by t.me.0.own.knows; strides = t.me.0.own.gone }),
      (
        a,
        turn,
        seat.at,
        x.stands_is,
        took_grant n (moved_to s (Acquiring a A10)) 0 1 x refl e,
      ),
    )

    abbrev counted : Numbers
    counted = record n { taken = n.taken + 1 }

    pub handed_seat : k ≢ 1 → IsSeat t counted
    handed_seat ne = let x = handed_walk ne in record {
      token_is = token_after s t parked (moved_to s Rest) [] 1 n counted seat.token_is x (bare ∙ seat.token_is.bare) seat.token_is.empty
          seat.token_is.turns_are (omega arith) (omega arith) refl refl;
      free = ap (λ (q : SeatState). is_free q.place) x.stands_is;
      counted = x.counted refl;
    }

    pub polled_handed : k ≢ 1 → 0 < k → IsPolled (seat_of s n) (Handed (seat_of t counted))
    polled_handed ne some =
        let x = handed_walk ne in let two : k ≡ 2 = (let m = most_two in omega (arith, ne)) in
        let told : row.stride.told ≡ [] = sym (append-nil row.stride.told) ∙ x.told_is in
        let seen : t.me.0.own.knows.seen ≡ world.journal = stride_told (semaphores (layout s.me.0.own.knows.setting)) s.me.0.own.number
        (sight_by (begin parked s.me.0.own.knows)) (sight_by t.me.0.own.knows) row.stride row.ran
        ∙ ap (λ l. row.stride.seen ++ l) told ∙ append-nil row.stride.seen ∙ row.ran.seen in
        let unit : HasItsUnit a.counter (wait s.me.0.own.number turn) world.journal
        = (the_law.reached (layout s.me.0.own.knows.setting) world row.ran.meets.met).grants.1 s.me.0.own.number a.counter turn row.also.there
        (a, refl, P, ap (λ (y : SeatState). y.place) stood) (sym granted ∙ two) in (
          (λ i. record {
            table = x.table_is i;
            number = n.seat;
            left = n.left;
            taken = n.taken + 1;
            sight = sight_by t.me.0.own.knows;
            strides = t.me.0.own.gone;
          }),
          x.stands_is,
          (
            a,
            turn,
            seat.at,
            took_grant counted (moved_to s Rest) 1 2 x refl two,
            subst (λ i. HasItsUnit a.counter (wait i turn) t.me.0.own.knows.seen) seat.token_is.number_is
                (subst (HasItsUnit a.counter (wait s.me.0.own.number turn)) (sym seen) unit),
          ),
        )
