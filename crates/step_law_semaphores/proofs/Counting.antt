-- How many waits and turns there are: lists and hands hold a wait for each sleeper, and each turn is in a list or was let out by a unit.
use Rattle.std.proofs.Common.{◌≡◌, ℕ, suc, ◌+◌, ◌<◌, ◌≤◌, Bool, List, [], ◌∷◌, length, refl, ap, ap₂, arith, IsTrue, Some}
use Rattle.waiters.specs.declared.wait.WaitId.{WaitId}
use Rattle.step_table.specs.declared.entry.Entry.{Entry}
use Rattle.step_table.specs.declared.entry.Entry.TheVariants.{Add, AddMany, Withdraw}
use Rattle.step_table.specs.declared.effect.Effect.{Effect}
use Rattle.step_table.specs.declared.place.Acquire.{Acquire}
use Rattle.step_table.specs.declared.place.ParkedRow.{ParkedRow}
use Rattle.step_table.specs.declared.place.Place.TheVariants.{Acquiring}
use Rattle.step_table.specs.declared.place.AcquireRow.TheVariants.{Parked}
use Rattle.step_table.specs.declared.place.ParkedRow.TheVariants.{P, D3}
use Rattle.step_table.specs.World.{Layout, Words, SeatState, SemaWorld, put, insert_wait, wait_of, without}
use Rattle.step_law_semaphores.specs.Lawful.{added, withdrawals}
use Rattle.step_table.specs.Counting.{total, wait}
use Rattle.step_law_semaphores.specs.Invariant.{SeatsKnown, IsSeat, WaitsPlaced, asleep, SleepersCounted, owing, FewTurns}
use Rattle.step_table.proofs.Sums.{owned, posted, lists_change, length_insert, length_last}
use Rattle.step_table.proofs.Withdrawing.{length_without}
use Rattle.step_law_semaphores.proofs.Lines.{Line, a7, p_one, p_two, r5, m5_more, m5_last, Post, r9, r10, m7_last, m7_more, Step, own, post, d3}
use Rattle.step_law_semaphores.proofs.Placing.{grants_else, waiter_of_post, other_seat}
use Rattle.step_law_semaphores.proofs.Telling.{entries, Counts, count_after, same_turn}

-- how many waits the lists hold
abbrev queue : Layout → Words → ℕ
queue m g = total m.counters (λ c. length (g.lists c))

-- a wait more, and a wait less
one_more : (m : Layout) (g : Words) (i t c : ℕ) (lifo : Bool) → c < m.counters
    → total m.counters (λ d. length (put g.lists c (insert_wait lifo (wait i t) (g.lists c)) d)) ≡ queue m g + 1
one_more m g i t c lifo h =
    let l = g.lists c in
    let changed = lists_change length m.counters c g.lists (insert_wait lifo (wait i t) l) h in
    let inserted = length_insert lifo (wait i t) l in omega arith

one_less : (m : Layout) (g : Words) (c : ℕ) (w : WaitId) (l : List WaitId) → c < m.counters → g.lists c ≡ w ∷ l
    → total m.counters (λ d. length (put g.lists c l d)) + 1 ≡ queue m g
one_less m g c w l h first =
    let changed = lists_change length m.counters c g.lists l h in
    let removed : length (g.lists c) ≡ suc (length l) = ap length first in omega arith

-- one that stands in its list is taken out
one_out : (m : Layout) (g : Words) (w : WaitId) (c : ℕ) → c < m.counters → wait_of w.seat (g.lists c) ≡ Some w
    → total m.counters (λ d. length (put g.lists c (without w.seat (g.lists c)) d)) + 1 ≡ queue m g
one_out m g w c h stands =
    let changed = lists_change length m.counters c g.lists (without w.seat (g.lists c)) h in
    let removed = length_without w (g.lists c) stands in omega arith

-- a row moves a wait from a list to a hand, or puts one into a list when its seat falls asleep
sleepers_row : {m : Layout} {i : ℕ} {g h : Words} {p q : SeatState} {e : Effect} → Line m i g p q h e → IsSeat m.counters p (g.grants i)
    → queue m h + length q.hand + asleep p.place (g.grants i) ≡ queue m g + length p.hand + asleep q.place (h.grants i)
sleepers_row {m = m} {i = i} {g = g} (a7 {a = a} {t = t}) seat =
    let queued = one_more m g i t a.counter a.lifo seat.within in
    let sleeps : asleep (Acquiring a (Parked t P)) (g.grants i) ≡ 1 = ap (asleep (Acquiring a (Parked t P))) seat.granted in omega arith
sleepers_row {m = m} {g = g} (r5 {r = r} {w = w} {l = l} first) seat = let left = one_less m g r.counter w l seat.within first in omega arith
sleepers_row {m = m} {g = g} (m5_more {r = r} {w = w} {l = l} {hand = hand} first _ _) seat =
    let left = one_less m g r.counter w l seat.within.0 first in let longer = length_last w hand in omega arith
sleepers_row {m = m} {g = g} (m5_last {r = r} {w = w} {l = l} {hand = hand} first _) seat =
    let left = one_less m g r.counter w l seat.within.0 first in let longer = length_last w hand in omega arith
sleepers_row {m = m} {i = i} {g = g} (d3 {a = a} {u = u} stands) seat =
    let left = one_out m g (wait i u) a.counter seat.within stands in
    let none : g.grants i ≡ 0 = let most = seat.granted in omega arith in
    let sleeps : asleep (Acquiring a (Parked u D3)) (g.grants i) ≡ 1 = ap (asleep (Acquiring a (Parked u D3))) none in omega arith
sleepers_row (p_one {a = a} {u = u} one) seat = let woken : asleep (Acquiring a (Parked u P)) _ ≡ 0 = ap (asleep (Acquiring a (Parked u P))) one in omega arith
sleepers_row (p_two {a = a} {u = u} two) seat = let woken : asleep (Acquiring a (Parked u P)) _ ≡ 0 = ap (asleep (Acquiring a (Parked u P))) two in omega arith
sleepers_row _ seat = refl

-- a stored grant takes a wait out of the hand
let_go : {p q : SeatState} {c x : ℕ} {w : WaitId} → Post p q c w x → (g : ℕ) (a : Acquire) (t : ℕ) (row : ParkedRow)
    → (length p.hand ≡ length q.hand + 1) × (asleep p.place g ≡ asleep q.place g) × (asleep (Acquiring a (Parked t row)) x ≡ 0)
let_go r9 g a t row = (refl, refl, refl)
let_go r10 g a t row = (refl, refl, refl)
let_go m7_last g a t row = (refl, refl, refl)
let_go (m7_more {l = l}) g a t row = (omega arith, refl, refl)

pub sleepers_kept : {m : Layout} {s : SemaWorld} {i : ℕ} {t : SemaWorld} → i < m.seats → WaitsPlaced m s
    → SeatsKnown m s → SleepersCounted m s → Step m s i t → SleepersCounted m t
sleepers_kept {m = m} {s = s} {i = i} in_range placed seats sleepers (own {q = q} {h = h} line) =
    let hands = owned (λ k seat grant. length seat.hand) m.seats s.seats s.words.grants h.grants i q in_range (grants_else line) in
    let sleeping = owned (λ k seat grant. asleep seat.place grant) m.seats s.seats s.words.grants h.grants i q in_range (grants_else line) in
    let row = sleepers_row line (seats i) in omega arith
sleepers_kept {m = m} {s = s} {i = i} in_range placed seats sleepers (post {c = c} {x = x} {w = w} {q = q} line) =
    let v = waiter_of_post m s i c x w in_range placed line in
    let ne = other_seat m s i c x w v line in
    let hands = owned (λ k seat grant. length seat.hand) m.seats s.seats s.words.grants s.words.grants i q in_range (λ k ne. refl) in
    let sleeping = posted (λ k seat grant. asleep seat.place grant) m.seats s.seats s.words.grants i w.seat x q in_range v.5 ne in
    let row = let_go line (s.words.grants i) v.0 w.turn v.2 in
    let before : asleep (s.seats w.seat).place (s.words.grants w.seat) ≡ 1 = ap₂ asleep v.3 v.4 in
    let after = ap (λ p. asleep p x) v.3 in omega arith

pub added_counts : Counts added
added_counts = (refl, by)
  where
    by : (e : Entry) (es : List Entry) → added (e ∷ es) ≡ added (e ∷ []) + added es
    by (Add c s) es = omega arith
    by (AddMany c n s) es = omega arith
    by _ es = omega arith

pub withdrawals_counts : Counts withdrawals
withdrawals_counts = (refl, by)
  where
    by : (e : Entry) (es : List Entry) → withdrawals (e ∷ es) ≡ withdrawals (e ∷ []) + withdrawals es
    by (Withdraw c w) es = omega arith
    by _ es = omega arith

-- a row that queues a wait makes a turn, and one that takes a wait out of a list has done with what it owed for an added unit
turns_row : {m : Layout} {i : ℕ} {g h : Words} {p q : SeatState} {e : Effect} → Line m i g p q h e → IsSeat m.counters p (g.grants i)
    → queue m g + q.turn + owing q.place (length q.hand)
    ≤ queue m h + p.turn + owing p.place (length p.hand) + added (entries e) + withdrawals (entries e)
turns_row {m = m} {i = i} {g = g} (a7 {a = a} {t = t}) seat = let queued = one_more m g i t a.counter a.lifo seat.within in omega arith
turns_row {m = m} {g = g} (r5 {r = r} {w = w} {l = l} first) seat = let left = one_less m g r.counter w l seat.within first in omega arith
turns_row {m = m} {g = g} (m5_more {r = r} {w = w} {l = l} {hand = hand} first fewer _) seat =
    let left = one_less m g r.counter w l seat.within.0 first in let longer = length_last w hand in omega arith
turns_row {m = m} {g = g} (m5_last {r = r} {w = w} {l = l} {hand = hand} first _) seat =
    let left = one_less m g r.counter w l seat.within.0 first in let fits = seat.fits in omega arith
turns_row {m = m} {i = i} {g = g} (d3 {a = a} {u = u} stands) seat = let left = one_out m g (wait i u) a.counter seat.within stands in omega arith
turns_row _ seat = omega arith

owes_none : {p q : SeatState} {c x : ℕ} {w : WaitId} → Post p q c w x → owing p.place (length p.hand) ≡ owing q.place (length q.hand)
owes_none r9 = refl
owes_none r10 = refl
owes_none m7_last = refl
owes_none m7_more = refl

pub turns_kept : {m : Layout} {s : SemaWorld} {i : ℕ} {t : SemaWorld} → i < m.seats → SeatsKnown m s
    → FewTurns m s → Step m s i t → FewTurns m t
turns_kept {m = m} {s = s} {i = i} in_range seats few (own {q = q} {h = h} {e = e} line) =
    let turns = owned (λ k seat grant. seat.turn) m.seats s.seats s.words.grants h.grants i q in_range (grants_else line) in
    let owed = owned (λ k seat grant. owing seat.place (length seat.hand)) m.seats s.seats s.words.grants h.grants i q in_range (grants_else line) in
    let row = turns_row line (seats i) in
    let units = count_after added added_counts e s.journal in
    let gone = count_after withdrawals withdrawals_counts e s.journal in omega arith
turns_kept {m = m} {s = s} {i = i} in_range seats few (post {q = q} line) =
    let turns = owned (λ k seat grant. seat.turn) m.seats s.seats s.words.grants s.words.grants i q in_range (λ k ne. refl) in
    let owed = owned (λ k seat grant. owing seat.place (length seat.hand)) m.seats s.seats s.words.grants s.words.grants i q in_range (λ k ne. refl) in
    let same = same_turn line in let none = owes_none line in omega arith
