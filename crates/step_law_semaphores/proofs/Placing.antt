-- Where the waits are: in a list or a hand as often as a parked seat awaits them, and what is known of each seat stays known.
use Rattle.std.proofs.Common.{◌≡◌, ℕ, zero, suc, ◌+◌, ◌<◌, ◌≤◌, ◌≢◌, List, [], ◌∷◌, ◌++◌, refl, sym, ap, ap₂, ◌∙◌}
use Rattle.std.proofs.Common.{subst, arith, IsTrue}
use Rattle.waiters.specs.declared.wait.WaitId.{WaitId}
use Rattle.step_table.specs.declared.effect.Effect.{Effect}
use Rattle.step_table.specs.declared.place.Acquire.{Acquire}
use Rattle.step_table.specs.declared.place.AcquireRow.TheVariants.{Parked}
use Rattle.step_table.specs.declared.place.ParkedRow.TheVariants.{P, D3}
use Rattle.step_table.specs.declared.place.Place.{Place}
use Rattle.step_table.specs.declared.place.ParkedRow.{ParkedRow}
use Rattle.step_table.specs.declared.place.Place.TheVariants.{Acquiring}
use Rattle.step_table.specs.World.{Layout, Words, SeatState, SemaWorld, put, insert_wait, wait_of, stands_in, without}
use Rattle.step_table.specs.Counting.{on, same, total, wait, times}
use Rattle.step_law_semaphores.specs.Lawful.{IsGrantOf, most_granted}
use Rattle.step_law_semaphores.specs.Invariant.{SeatsKnown, hands_at, hands, awaits, WaitsPlaced, IsSeat, Finds}
use Rattle.step_table.proofs.Sums.{put_here, put_else, put_at, on_here, on_else, on_zero, on_most, flip, total_has, total_some, owned, posted, single, pair}
use Rattle.step_table.proofs.Sums.{list_up, list_down, times_insert, on_add, length_last, times_last, on_some}
use Rattle.step_table.proofs.Withdrawing.{stands_has, wait_times, times_without}
use Rattle.step_law_semaphores.proofs.Lines.{Line, begin_acquire, begin_enter, begin_release, a7, p_one, p_two, r5, Step, own, post}
use Rattle.step_law_semaphores.proofs.Lines.{begin_many, m4_none, m4_some, m5_more, m5_last, Post, r9, r10, m7_last, m7_more, d2_queued, d3}

pub same_here : (w : WaitId) → same w w ≡ 1
same_here w = ap (on w.seat w.seat) (on_here w.turn 1) ∙ on_here w.seat 1

-- a step changes no grant word but its own seat's and its waiter's
pub grants_else : {m : Layout} {i : ℕ} {g h : Words} {p q : SeatState} {e : Effect} → Line m i g p q h e
    → (k : ℕ) → k ≢ i → h.grants k ≡ g.grants k
grants_else (begin_acquire _) k ne = refl
grants_else {i = i} {g = g} (p_one _) k ne = put_else g.grants i 0 k ne
grants_else {i = i} {g = g} (p_two _) k ne = put_else g.grants i 0 k ne
grants_else _ k ne = refl

-- what a seat has in hand, if that is one wait
hands_one : (c : ℕ) (w : WaitId) (d : ℕ) (x : WaitId) → on d c (times w (x ∷ [])) ≡ on d c (same w x)
hands_one c w d x = ap (on d c) (omega arith)

-- in a hand of d a wait counts for d
hands_on : (c d : ℕ) (w : WaitId) (hand : List WaitId) → hands_at c w d hand ≡ on d c (times w hand)
hands_on c d w [] = sym (on_zero d c)
hands_on c d w (x ∷ hand) = refl

-- the first wait of the list of d goes into a hand
taken_out : (lists : ℕ → List WaitId) (c d : ℕ) (w x : WaitId) (l hand : List WaitId) → lists d ≡ x ∷ l
    → times w (put lists d l c) + hands_at c w d (hand ++ x ∷ []) ≡ times w (lists c) + hands_at c w d hand
taken_out lists c d w x l hand first =
    let has_first = ap (times w) first in
    let shorter = list_down (times w) lists d l c (same w x) (omega arith) in
    let before = hands_on c d w hand in
    let after = hands_on c d w (hand ++ x ∷ []) in
    let one_more = ap (on d c) (times_last w x hand) in
    let both = on_add d c (times w hand) (same w x) in omega arith

rows : {m : Layout} {i : ℕ} {g h : Words} {p q : SeatState} {e : Effect} → Line m i g p q h e → IsGrantOf p.place (g.grants i)
    → (c : ℕ) (w : WaitId) → times w (h.lists c) + hands c w q + awaits c w i p.place (g.grants i)
    ≡ times w (g.lists c) + hands c w p + awaits c w i q.place (h.grants i)
rows (begin_acquire _) granted c w = refl
rows {i = i} {g = g} (a7 {a = a} {t = t}) granted c w =
    let x = wait i t in
    let l = g.lists a.counter in
    let longer = list_up (times w) g.lists a.counter (insert_wait a.lifo x l) c (same w x) (times_insert w a.lifo x l) in
    let asleep : awaits c w i (Acquiring a (Parked t P)) (g.grants i) ≡ on a.counter c (same w x)
    = ap (awaits c w i (Acquiring a (Parked t P))) granted in
    let turned : on c a.counter (same w x) ≡ on a.counter c (same w x) = flip c a.counter (same w x) in omega arith
rows {g = g} (r5 {r = r} {w = x} {l = l} first) granted c w = let out = taken_out g.lists c r.counter w x l [] first in omega arith
rows {g = g} (m5_more {r = r} {w = x} {l = l} {hand = hand} first _ _) granted c w =
    let out = taken_out g.lists c r.counter w x l hand first in omega arith
rows {g = g} (m5_last {r = r} {w = x} {l = l} {hand = hand} first _) granted c w =
    let out = taken_out g.lists c r.counter w x l hand first in omega arith
rows {i = i} {g = g} (d3 {a = a} {u = u} stands) granted c w =
    let x = wait i u in
    let l = g.lists a.counter in
    let shorter = list_down (times w) g.lists a.counter (without i l) c (same w x) (times_without w x l stands) in
    let none : g.grants i ≡ 0 = omega arith in
    let asleep : awaits c w i (Acquiring a (Parked u D3)) (g.grants i) ≡ on a.counter c (same w x)
    = ap (awaits c w i (Acquiring a (Parked u D3))) none in omega arith
rows {i = i} (p_one {a = a} {u = u} woken) granted c w = let awake = ap (awaits c w i (Acquiring a (Parked u P))) woken in omega arith
rows {i = i} (p_two {a = a} {u = u} served) granted c w = let awake = ap (awaits c w i (Acquiring a (Parked u P))) served in omega arith
rows _ granted c w = refl

-- the wait w is that of a seat that is parked on c and wasn't granted
abbrev pub Waiter : Layout → ℕ → WaitId → SemaWorld → Type 0
Waiter m c w s =
    (a : Acquire) × (a.counter ≡ c) × (row : ParkedRow) × ((s.seats w.seat).place ≡ Acquiring a (Parked w.turn row))
    × (s.words.grants w.seat ≡ 0) × (w.seat < m.seats)

awaited : (c : ℕ) (w : WaitId) (k : ℕ) (p : Place) (g : ℕ) → 0 < awaits c w k p g
    → (a : Acquire) × (a.counter ≡ c) × (row : ParkedRow) × (p ≡ Acquiring a (Parked w.turn row)) × (g ≡ 0) × (k ≡ w.seat)
awaited c w k (Acquiring a (Parked t row)) zero h =
    let on_counter = on_some a.counter c (same w (wait k t)) h in
    let at_seat = on_some w.seat k (on w.turn t 1) on_counter.1 in
    let with_turn = on_some w.turn t 1 at_seat.1 in
    (a, on_counter.0, row, ap (λ u. Acquiring a (Parked u row)) (sym with_turn.0), refl, sym at_seat.0)
awaited c w k (Acquiring a (Parked t row)) (suc g) h = absurd (omega arith)
awaited c w k _ g h = absurd (omega arith)

-- a wait that stands in a list or in a hand is that of a seat that is parked on that counter and wasn't granted
pub waiter_of : (m : Layout) (s : SemaWorld) (c : ℕ) (w : WaitId) → WaitsPlaced m s
    → 0 < times w (s.words.lists c) + total m.seats (λ k. hands c w (s.seats k)) → Waiter m c w s
waiter_of m s c w placed h =
    let counted = placed c w in
    let seat = total_some m.seats (λ k. awaits c w k (s.seats k).place (s.words.grants k)) (omega arith) in
    let found = awaited c w seat.0 (s.seats seat.0).place (s.words.grants seat.0) seat.2 in
    let is : seat.0 ≡ w.seat = found.5 in
    let parked = subst (λ k. (s.seats k).place ≡ Acquiring found.0 (Parked w.turn found.2)) is found.3 in
    let not_granted = subst (λ k. s.words.grants k ≡ 0) is found.4 in
    let in_range = subst (λ k. k < m.seats) is seat.1 in (found.0, found.1, found.2, parked, not_granted, in_range)

-- what a seat that stores a grant has in hand, and that it awaits nothing
in_hand : {p q : SeatState} {c x : ℕ} {w : WaitId} → Post p q c w x → (d : ℕ) (y : WaitId) → hands d y p ≡ hands d y q + on c d (same y w)
in_hand (r9 {r = r} {w = w}) d y = let one = hands_one d y r.counter w in omega arith
in_hand (r10 {r = r} {w = w}) d y = let one = hands_one d y r.counter w in omega arith
in_hand (m7_last {r = r} {w = w}) d y = let one = hands_one d y r.counter w in omega arith
in_hand (m7_more {r = r} {w = w} {x = x} {l = l}) d y = let both = on_add r.counter d (same y w) (times y (x ∷ l)) in omega arith

awake : {p q : SeatState} {c x : ℕ} {w : WaitId} → Post p q c w x → (d : ℕ) (y : WaitId) (k grant : ℕ) → awaits d y k p.place grant ≡ 0
awake r9 d y k grant = refl
awake r10 d y k grant = refl
awake m7_last d y k grant = refl
awake m7_more d y k grant = refl

woken : {p q : SeatState} {c x : ℕ} {w : WaitId} → Post p q c w x → (d : ℕ) (y : WaitId) (k : ℕ) (a : Acquire) (t : ℕ) (row : ParkedRow)
    → awaits d y k (Acquiring a (Parked t row)) x ≡ 0
woken r9 d y k a t row = refl
woken r10 d y k a t row = refl
woken m7_last d y k a t row = refl
woken m7_more d y k a t row = refl

still_awake : {p q : SeatState} {c x : ℕ} {w : WaitId} → Post p q c w x → (d : ℕ) (y : WaitId) (k grant : ℕ) → awaits d y k q.place grant ≡ 0
still_awake r9 d y k grant = refl
still_awake r10 d y k grant = refl
still_awake m7_last d y k grant = refl
still_awake m7_more d y k grant = refl

pub waiter_of_post : (m : Layout) (s : SemaWorld) (i c x : ℕ) (w : WaitId) {q : SeatState} → i < m.seats → WaitsPlaced m s
    → Post (s.seats i) q c w x → Waiter m c w s
waiter_of_post m s i c x w in_range placed grant =
    let own_hand = in_hand grant c w in let one = ap (on c c) (same_here w) ∙ on_here c 1 in
    let all_hands = total_has m.seats (λ k. hands c w (s.seats k)) i in_range in waiter_of m s c w placed (omega arith)

apart : {p q : SeatState} {c x t : ℕ} {a : Acquire} {row : ParkedRow} {w : WaitId} → Post p q c w x → p.place ≡ Acquiring a (Parked t row) → ⊥
apart r9 e = cc
apart r10 e = cc
apart m7_last e = cc
apart m7_more e = cc

pub other_seat : (m : Layout) (s : SemaWorld) (i c x : ℕ) (w : WaitId) {q : SeatState} → Waiter m c w s → Post (s.seats i) q c w x → w.seat ≢ i
other_seat m s i c x w waiter grant e = apart grant (ap (λ k. (s.seats k).place) (sym e) ∙ waiter.3)

pub placed_kept : (m : Layout) (s t : SemaWorld) (i : ℕ) → i < m.seats → SeatsKnown m s
    → WaitsPlaced m s → Step m s i t → WaitsPlaced m t
placed_kept m s t i in_range seats placed = by
  where
    by : {u : SemaWorld} → Step m s i u → WaitsPlaced m u
    by (own {q = q} {h = h} row) c w =
        let balance = rows row (seats i).granted c w in
        let all_hands = owned (λ k seat grant. hands c w seat) m.seats s.seats s.words.grants h.grants i q in_range (grants_else row) in
        let all_awaits = owned (λ k seat grant. awaits c w k seat.place grant) m.seats s.seats s.words.grants h.grants i q in_range (grants_else row) in
        let before = placed c w in omega arith
    by (post {c = d} {x = x} {w = y} {q = q} grant) c w =
        let waiter = waiter_of_post m s i d x y in_range placed grant in
        let other = other_seat m s i d x y waiter grant in
        let all_hands = owned (λ k seat g. hands c w seat) m.seats s.seats s.words.grants s.words.grants i q in_range (λ k ne. refl) in
        let all_awaits = posted (λ k seat g. awaits c w k seat.place g) m.seats s.seats s.words.grants i y.seat x q in_range waiter.5 other in
        let own_hand = in_hand grant c w in
        let own_awaits = awake grant c w i (s.words.grants i) in
        let still = still_awake grant c w i (s.words.grants i) in
        let slept : awaits c w y.seat (s.seats y.seat).place (s.words.grants y.seat) ≡ on waiter.0.counter c (same w (wait y.seat y.turn))
        = ap₂ (awaits c w y.seat) waiter.3 waiter.4 in
        let there : on waiter.0.counter c (same w y) ≡ on d c (same w y) = ap (λ z. on z c (same w y)) waiter.1 in
        let wakes = ap (λ p. awaits c w y.seat p x) waiter.3 ∙ woken grant c w y.seat waiter.0 y.turn waiter.2 in
        let before = placed c w in omega arith

-- what is known of a seat, after a row of its own, after a grant of its own, and after a grant to it
seat_after_row : {m : Layout} {i : ℕ} {g h : Words} {p q : SeatState} {e : Effect} → Line m i g p q h e
    → IsSeat m.counters p (g.grants i) → ((c : ℕ) → IsTrue (stands_in i (g.lists c)) → g.grants i ≡ 0)
    → IsSeat m.counters q (h.grants i)
seat_after_row (begin_acquire within) known unset = record { within = within; fits = omega arith; granted = known.granted }
seat_after_row (begin_enter within) known unset = record { within = within; fits = omega arith; granted = known.granted }
seat_after_row (begin_release within) known unset = record { within = within; fits = omega arith; granted = known.granted }
seat_after_row (begin_many within some few) known unset = record { within = (within, some, few); fits = omega arith; granted = known.granted }
seat_after_row (m4_none _) known unset = record { within = known.within; fits = omega arith; granted = known.granted }
seat_after_row (m4_some _) known unset = record { within = known.within; fits = let some = known.within.1 in omega arith; granted = known.granted }
seat_after_row (m5_more {w = w} {hand = hand} _ fewer _) known unset =
    record { within = known.within; fits = let longer = length_last w hand in omega arith; granted = known.granted }
seat_after_row (m5_last {w = w} {hand = hand} _ _) known unset =
    record { within = known.within; fits = let longer = length_last w hand in let fits = known.fits in omega arith; granted = known.granted }
seat_after_row {i = i} {g = g} (p_one _) known unset = record { within = known.within; fits = omega arith; granted = put_here g.grants i 0 }
seat_after_row {i = i} {g = g} (p_two _) known unset = record { within = tt; fits = omega arith; granted = put_here g.grants i 0 }
seat_after_row (d2_queued {a = a} {u = u} _ stands) known unset =
    let none = unset a.counter stands in record { within = known.within; fits = omega arith; granted = omega arith }
seat_after_row _ known unset = record { within = let w = known.within in assumption; fits = omega arith; granted = omega arith }

seat_after_post : {counters : ℕ} {p q : SeatState} {c x : ℕ} {w : WaitId} → Post p q c w x
    → (grant : ℕ) → IsSeat counters p grant → IsSeat counters q grant
seat_after_post r9 grant known = record { within = tt; fits = refl; granted = known.granted }
seat_after_post r10 grant known = record { within = tt; fits = refl; granted = known.granted }
seat_after_post m7_last grant known = record { within = tt; fits = refl; granted = known.granted }
seat_after_post m7_more grant known = record { within = known.within; fits = omega arith; granted = known.granted }

pub awaits_else : (c : ℕ) (w : WaitId) (k : ℕ) (p : Place) (g : ℕ) → k ≢ w.seat → awaits c w k p g ≡ 0
awaits_else c w k (Acquiring a (Parked t row)) zero ne = ap (on a.counter c) (on_else w.seat k (on w.turn t 1) (λ e. ne (sym e))) ∙ on_zero a.counter c
awaits_else c w k (Acquiring a (Parked t row)) (suc g) ne = refl
awaits_else c w k _ g ne = refl

pub awaits_most : (c : ℕ) (w : WaitId) (k : ℕ) (p : Place) (g : ℕ) → awaits c w k p g ≤ 1
awaits_most c w k (Acquiring a (Parked t row)) zero =
    let at_counter = on_most a.counter c (same w (wait k t)) in
    let at_seat = on_most w.seat k (on w.turn t 1) in
    let with_turn = on_most w.turn t 1 in omega arith
awaits_most c w k (Acquiring a (Parked t row)) (suc g) = omega arith
awaits_most c w k _ g = omega arith

-- a wait in a hand is not one that its seat has found queued
in_no_list : (m : Layout) (s : SemaWorld) (i c x : ℕ) (w : WaitId) {q : SeatState} → i < m.seats → WaitsPlaced m s
    → ((k : ℕ) → k < m.seats → Finds k s.words.lists (s.seats k).place)
    → Post (s.seats i) q c w x → (v : Waiter m c w s) → most_granted v.2 ≡ 2
in_no_list m s i c x w in_range placed finds grant v = by v.2 v.3
  where
    by : (row : ParkedRow) → (s.seats w.seat).place ≡ Acquiring v.0 (Parked w.turn row) → most_granted row ≡ 2
    by D3 at =
        let stands = wait_times w (s.words.lists v.0.counter) (subst (Finds w.seat s.words.lists) at (finds w.seat v.5)) in
        let queued = subst (λ d. 0 < times w (s.words.lists d)) v.1 stands in
        let own_hand = in_hand grant c w in let one = ap (on c c) (same_here w) ∙ on_here c 1 in
        let all_hands = total_has m.seats (λ k. hands c w (s.seats k)) i in_range in
        let alone = single m.seats (λ z. awaits c w z (s.seats z).place (s.words.grants z)) w.seat v.5
        (λ z other. awaits_else c w z (s.seats z).place (s.words.grants z) other) in
        let most = awaits_most c w w.seat (s.seats w.seat).place (s.words.grants w.seat) in
        let counted = placed c w in absurd (omega arith)
    by _ at = refl

seat_granted : {counters grant : ℕ} {z : SeatState} {a : Acquire} {t : ℕ} {row : ParkedRow} {p q : SeatState} {c x : ℕ} {w : WaitId}
    → Post p q c w x → z.place ≡ Acquiring a (Parked t row) → most_granted row ≡ 2 → IsSeat counters z grant → IsSeat counters z x
seat_granted r9 parked two known = record { within = known.within; fits = known.fits; granted = rw parked (omega arith) }
seat_granted r10 parked two known = record { within = known.within; fits = known.fits; granted = rw parked (omega arith) }
seat_granted m7_last parked two known = record { within = known.within; fits = known.fits; granted = rw parked (omega arith) }
seat_granted m7_more parked two known = record { within = known.within; fits = known.fits; granted = rw parked (omega arith) }

pub seats_kept : (m : Layout) (s t : SemaWorld) (i : ℕ) → i < m.seats → WaitsPlaced m s
    → ((k : ℕ) → k < m.seats → Finds k s.words.lists (s.seats k).place) → SeatsKnown m s → Step m s i t → (k : ℕ) → IsSeat m.counters (t.seats k) (t.words.grants k)
seats_kept m s t i in_range placed finds seats = by
  where
    unset : (c : ℕ) → IsTrue (stands_in i (s.words.lists c)) → s.words.grants i ≡ 0
    unset c stands =
        let has = stands_has i (s.words.lists c) stands in
        let queued = wait_times has.0 (s.words.lists c) (ap (λ k. wait_of k (s.words.lists c)) has.2 ∙ has.1) in
        let v = waiter_of m s c has.0 placed (omega arith) in ap s.words.grants (sym has.2) ∙ v.4

    by : {u : SemaWorld} → Step m s i u → (k : ℕ) → IsSeat m.counters (u.seats k) (u.words.grants k)
    by (own {q = q} {h = h} row) k =
        put_at (λ k seat. IsSeat m.counters seat (h.grants k)) s.seats i q k
        (seat_after_row row (seats i) unset) (λ ne. rw (grants_else row k ne) (seats k))
    by (post {c = d} {x = x} {w = y} {q = q} grant) k =
        let waiter = waiter_of_post m s i d x y in_range placed grant in
        let other = other_seat m s i d x y waiter grant in
        let rests = seat_after_post grant (s.words.grants i) (seats i) in
        let is_granted = seat_granted grant waiter.3 (in_no_list m s i d x y in_range placed finds grant waiter) (seats y.seat) in
        put_at (λ k seat. IsSeat m.counters seat (put s.words.grants y.seat x k)) s.seats i q k
        (rw (put_else s.words.grants y.seat x i (λ e. other (sym e))) rests)
        (λ ne. put_at (λ k g. IsSeat m.counters (s.seats k) g) s.words.grants y.seat x k is_granted (λ ne. seats k))

-- a wait is in one hand only
pub one_hand : (m : Layout) (s : SemaWorld) (c : ℕ) (w : WaitId) (i k : ℕ) → WaitsPlaced m s → i < m.seats → k < m.seats → i ≢ k
    → 0 < hands c w (s.seats i) → 0 < hands c w (s.seats k) → ⊥
one_hand m s c w i k placed i_in_range k_in_range ne i_has k_has =
    let two = pair m.seats (λ z. hands c w (s.seats z)) i k i_in_range k_in_range ne in
    let waiter = waiter_of m s c w placed (omega arith) in
    let alone = single m.seats (λ z. awaits c w z (s.seats z).place (s.words.grants z)) w.seat waiter.5
    (λ z other. awaits_else c w z (s.seats z).place (s.words.grants z) other) in
    let most = awaits_most c w w.seat (s.seats w.seat).place (s.words.grants w.seat) in
    let counted = placed c w in omega arith
