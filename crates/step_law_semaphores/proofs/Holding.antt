-- What a seat finds that lowers a waiter word, gives a lock back or stores a grant; and that a lock's holder is alone.
use Rattle.std.proofs.Common.{◌≡◌, ◌⊎◌, ℕ, ◌<◌, List, [], ◌∷◌, length, refl, sym, ap, ◌∙◌, subst, inl, inr, arith}
use Rattle.waiters.specs.declared.wait.WaitId.{WaitId}
use Rattle.step_table.specs.declared.place.Acquire.{Acquire}
use Rattle.step_table.specs.declared.place.AcquireRow.TheVariants.{A3, A4, A7, A8, A9, Parked, D4}
use Rattle.step_table.specs.declared.place.ParkedRow.TheVariants.{P, D2, D3, D5}
use Rattle.step_table.specs.declared.place.ReleaseRow.TheVariants.{R2, R3, R4, R5, R6, R9, R10}
use Rattle.step_table.specs.declared.place.ManyRow.TheVariants.{M2, M3, M4, M5, M6, M7}
use Rattle.step_table.specs.declared.place.Place.{Place}
use Rattle.step_table.specs.declared.place.ParkedRow.{ParkedRow}
use Rattle.step_table.specs.declared.place.Place.TheVariants.{Rest, Acquiring, Releasing, ReleasingMany}
use Rattle.step_table.specs.declared.word.Word.TheVariants.{Lock, Waiters, Grant}
use Rattle.step_table.specs.World.{Layout, SeatState, SemaWorld}
use Rattle.step_table.specs.EventOf.{store, lower, give_lock}
use Rattle.step_table.specs.Event.{Event, Next, waiter}
use Rattle.step_table.specs.Table.{event_at}
use Rattle.step_table.specs.Counting.{on, total, wait, counter_at, times, IsWithin}
use Rattle.step_law_semaphores.specs.Lawful.{holds, raises}
use Rattle.step_law_semaphores.specs.Invariant.{HandFits, Finds, IsInvariant}
use Rattle.step_table.proofs.Sums.{on_here, total_has, total_le, pair}
use Rattle.step_table.proofs.Withdrawing.{length_without}
use Rattle.step_law_semaphores.proofs.Promises.{raises_held}
use Rattle.step_law_semaphores.proofs.Raising.{lists_below}
use Rattle.step_law_semaphores.proofs.Placing.{same_here, Waiter}
use Rattle.step_law_semaphores.proofs.Parking.{in_a_hand}
use Rattle.step_law_semaphores.specs.Holders.{LowersSome, GivesHeld, HolderAlone, GrantsParked, AllGrantParked, WaitersNear}

-- the event at this place is this one
abbrev Does : ℕ → SeatState → (ℕ → List WaitId) → Place → (Next → Event) → Type 0
Does i seat lists p event = (next : Next) × (event_at i seat lists p ≡ event next)

-- of one word
same_counter : (c d : ℕ) → Waiters c ≡ Waiters d → c ≡ d
same_counter c d e = cc

same_lock : (c d : ℕ) → Lock c ≡ Lock d → c ≡ d
same_lock c d e = cc

same_seat : (k l : ℕ) → Grant k ≡ Grant l → k ≡ l
same_seat k l e = cc

-- an event on the waiter word or the lock of d is on the root of c, where it is on that of c
raised_here : (root : ℕ → ℕ) (d c : ℕ) → Waiters d ≡ Waiters c → on (root d) (root c) 1 ≡ 1
raised_here root d c is = ap (λ z. on (root z) (root c) 1) (same_counter d c is) ∙ on_here (root c) 1

held_here : (root : ℕ → ℕ) (d c : ℕ) → Lock d ≡ Lock c → on (root d) (root c) 1 ≡ 1
held_here root d c is = ap (λ z. on (root z) (root c) 1) (same_lock d c is) ∙ on_here (root c) 1

-- a seat that lowers a waiter word has raised it, or has a wait to take out
abbrev MayLower : Layout → (ℕ → List WaitId) → Place → ℕ → Type 0
MayLower m lists p c = (raises m.root (m.root c) p ≡ 1) ⊎ ((c < m.counters) × (0 < length (lists c)))

lowering : (m : Layout) (i : ℕ) (seat : SeatState) (lists : ℕ → List WaitId) (p : Place) (c : ℕ) → Does i seat lists p (lower (Waiters c) 1)
    → IsWithin m.counters p → Finds i lists p → MayLower m lists p c
lowering m i seat lists (Acquiring a A4) c is within finds = let differs = ap (λ e. e.becomes 0) is.1 in absurd (omega arith)
lowering m i seat lists (Acquiring a A8) c is within finds =
    inl (raised_here m.root a.counter c (ap (λ e. e.word) is.1))
lowering m i seat lists (Acquiring a (Parked u D3)) c is within finds =
    let fewer = length_without (wait i u) (lists a.counter) finds in
    inr (subst (λ d. (d < m.counters) × (0 < length (lists d))) (same_counter a.counter c (ap (λ e. e.word) is.1)) (within, omega arith))
lowering m i seat lists (Releasing r R2) c is within finds = let differs = ap (λ e. e.becomes 1) is.1 in absurd (omega arith)
lowering m i seat lists (Releasing r R4) c is within finds = let differs = ap (λ e. e.becomes 1) is.1 in absurd (omega arith)
lowering m i seat lists (Releasing r R5) c is within finds =
    inr (subst (λ d. (d < m.counters) × (0 < length (lists d))) (same_counter r.counter c (ap (λ e. e.word) is.1)) (within, finds))
lowering m i seat lists (ReleasingMany r M2) c is within finds = let differs = ap (λ e. e.becomes 1) is.1 in absurd (omega arith)
lowering m i seat lists (ReleasingMany r M4) c is within finds = let differs = ap (λ e. e.becomes 1) is.1 in absurd (omega arith)
lowering m i seat lists (ReleasingMany r M5) c is within finds =
    inr (subst (λ d. (d < m.counters) × (0 < length (lists d))) (same_counter r.counter c (ap (λ e. e.word) is.1)) (within.0, finds))
lowering m i seat lists _ c is within finds = let word = ap (λ e. e.word) is.1 in absurd cc

pub lowered : (m : Layout) (s : SemaWorld) → IsInvariant m s → LowersSome m s
lowered m s inv i r h is =
    subst (λ r. 0 < s.words.waiters r) is.2
    (by (lowering m i (s.seats i) s.words.lists (s.seats i).place is.0 (is.1, is.3) (inv.seats i).within (inv.finds i h)))
  where
    by : MayLower m s.words.lists (s.seats i).place is.0 → 0 < s.words.waiters (m.root is.0)
    by (inl raised) =
        let all = total_has m.seats (λ k. raises m.root (m.root is.0) (s.seats k).place) i h in
        let word = inv.waiters (m.root is.0) in omega arith
    by (inr some) =
        let below = lists_below m s (λ r. total m.seats (λ k. raises m.root r (s.seats k).place)) inv.waiters is.0 some.0 in
        let waits = some.1 in omega arith

-- a seat that gives a lock back holds it
giving : (root : ℕ → ℕ) (i : ℕ) (seat : SeatState) (lists : ℕ → List WaitId) (p : Place) (c : ℕ) → Does i seat lists p (give_lock (Lock c))
    → holds root (root c) p ≡ 1
giving root i seat lists (Acquiring a A3) c is = let differs = ap (λ e. e.becomes 0) is.1 in absurd (omega arith)
giving root i seat lists (Acquiring a A7) c is = held_here root a.counter c (ap (λ e. e.word) is.1)
giving root i seat lists (Acquiring a A9) c is = held_here root a.counter c (ap (λ e. e.word) is.1)
giving root i seat lists (Acquiring a (Parked u D2)) c is = let differs = ap (λ e. e.becomes 0) is.1 in absurd (omega arith)
giving root i seat lists (Acquiring a D4) c is = held_here root a.counter c (ap (λ e. e.word) is.1)
giving root i seat lists (Acquiring a (Parked u D5)) c is = held_here root a.counter c (ap (λ e. e.word) is.1)
giving root i seat lists (Releasing r R3) c is = let differs = ap (λ e. e.becomes 0) is.1 in absurd (omega arith)
giving root i seat lists (Releasing r R6) c is = held_here root r.counter c (ap (λ e. e.word) is.1)
giving root i seat lists (ReleasingMany r M3) c is = let differs = ap (λ e. e.becomes 0) is.1 in absurd (omega arith)
giving root i seat lists (ReleasingMany r M6) c is = held_here root r.counter c (ap (λ e. e.word) is.1)
giving root i seat lists _ c is = let word = ap (λ e. e.word) is.1 in absurd cc

pub alone : (m : Layout) (s : SemaWorld) → IsInvariant m s → HolderAlone m s
alone m s inv i r h one = (
  (let all = total_has m.seats (λ k. holds m.root r (s.seats k).place) i h in let lock = inv.locks r in omega arith),
  (λ k hk ne. let two = pair m.seats (λ k. holds m.root r (s.seats k).place) k i hk h ne in let lock = inv.locks r in omega arith),
)

pub given : (m : Layout) (s : SemaWorld) → IsInvariant m s → GivesHeld m s
given m s inv i r h is =
    let held : holds m.root r (s.seats i).place ≡ 1
    = subst (λ r. holds m.root r (s.seats i).place ≡ 1) is.2
    (giving m.root i (s.seats i) s.words.lists (s.seats i).place is.0 (is.1, is.3)) in
    (held, (alone m s inv i r h held).0)

-- a seat that stores a grant has the wait of that seat in hand, and isn't parked itself
record MayGrant (i k n : ℕ) (p : Place) (hand : List WaitId) : Type 0 where
  pub some : 0 < length hand
  pub whom : waiter i hand ≡ k
  pub stored : (n ≡ 1) ⊎ (n ≡ 2)
  pub awake : (a : Acquire) (t : ℕ) (row : ParkedRow) → p ≡ Acquiring a (Parked t row) → ⊥

granting : (i k n : ℕ) (seat : SeatState) (lists : ℕ → List WaitId) (p : Place) → Does i seat lists p (store (Grant k) n)
    → HandFits p (length seat.hand) → MayGrant i k n p seat.hand
granting i k n seat lists Rest is fits = let never = ap (λ e. e.can 0) is.1 in absurd cc
granting i k n seat lists (Acquiring a (Parked t P)) is fits = let not_at_zero = ap (λ e. e.can 0) is.1 in absurd cc
granting i k n seat lists (Releasing r R9) is fits =
    let two = ap (λ e. e.becomes 0) is.1 in
    let whom = same_seat (waiter i seat.hand) k (ap (λ e. e.word) is.1) in
    record { some = omega arith; whom = whom; stored = inr (omega arith); awake = λ a t row e. cc }
granting i k n seat lists (Releasing r R10) is fits =
    let one = ap (λ e. e.becomes 0) is.1 in
    let whom = same_seat (waiter i seat.hand) k (ap (λ e. e.word) is.1) in
    record { some = omega arith; whom = whom; stored = inl (omega arith); awake = λ a t row e. cc }
granting i k n seat lists (ReleasingMany r M7) is fits =
    let one = ap (λ e. e.becomes 0) is.1 in
    let whom = same_seat (waiter i seat.hand) k (ap (λ e. e.word) is.1) in
    record { some = fits; whom = whom; stored = inl (omega arith); awake = λ a t row e. cc }
granting i k n seat lists _ is fits = let word = ap (λ e. e.word) is.1 in absurd cc

pub granted : (m : Layout) (s : SemaWorld) → IsInvariant m s → AllGrantParked m s
granted m s inv i k n h is = by (s.seats i).hand refl (granting i k n (s.seats i) s.words.lists (s.seats i).place is (inv.seats i).fits)
  where
    by : (hand : List WaitId) → (s.seats i).hand ≡ hand → MayGrant i k n (s.seats i).place hand → GrantsParked m s i k n
    by [] at may = let none = may.some in absurd (omega arith)
    by (w ∷ l) at may =
        let has = ap (times w) at in
        let one = same_here w in
        let whom : w.seat ≡ k = may.whom in
        let v : Waiter m (counter_at (s.seats i).place) w s = in_a_hand m s inv.placed i w h (omega arith) in
        let is_parked : (s.seats k).place ≡ Acquiring v.0 (Parked w.turn v.2) = ap (λ z. (s.seats z).place) (sym whom) ∙ v.3 in
        record {
          turn = w.turn;
          rest = l;
          hand = at ∙ ap (λ z. wait z w.turn ∷ l) whom;
          parked = (v.0, v.1, v.2, is_parked);
          other = λ e. may.awake v.0 w.turn v.2 (ap (λ z. (s.seats z).place) (sym e) ∙ is_parked);
          there = subst (λ z. z < m.seats) whom v.5;
          unset = ap s.words.grants (sym whom) ∙ v.4;
          stored = may.stored;
        }

pub near : (m : Layout) (s : SemaWorld) → IsInvariant m s → WaitersNear m s
near m s inv r =
    let few = total_le m.seats (λ k. raises m.root r (s.seats k).place) (λ k. holds m.root r (s.seats k).place)
    (λ k h. raises_held m.root r (s.seats k).place) in
    let lock = inv.locks r in
    let word = inv.waiters r in (omega arith, omega arith)
