-- Where all rest nothing is left; each call is on a counter that is there; and what is added by few seats wraps no word.
use Rattle.std.proofs.Common.{◌≡◌, ℕ, zero, suc, ◌*◌, ◌^◌, ◌≤◌, List, [], ◌∷◌, length}
use Rattle.std.proofs.Common.{refl, sym, ap, ◌∙◌, subst, arith, ◌+◌}
use Rattle.waiters.specs.declared.wait.WaitId.{WaitId}
use Rattle.step_table.specs.declared.place.AcquireRow.TheVariants.{Parked}
use Rattle.step_table.specs.declared.place.ParkedRow.TheVariants.{P}
use Rattle.step_table.specs.declared.place.Place.{Place}
use Rattle.step_table.specs.declared.place.ParkedRow.{ParkedRow}
use Rattle.step_table.specs.declared.place.Place.TheVariants.{Rest, Acquiring}
use Rattle.step_table.specs.World.{Layout, SemaWorld}
use Rattle.step_table.specs.Steps.{IsReached}
use Rattle.step_table.specs.Counting.{on, total, times}
use Rattle.step_law_semaphores.specs.Lawful.{holds, raises, IsGrantOf, added, withdrawals}
use Rattle.step_law_semaphores.specs.Invariant.{asleep, HandFits, IsInvariant}
use Rattle.step_table.proofs.Sums.{on_zero, total_same, nothing}
use Rattle.step_law_semaphores.proofs.Placing.{same_here}
use Rattle.step_law_semaphores.proofs.Parking.{in_a_list}
use Rattle.step_law_semaphores.proofs.Bounding.{bounded}
use Rattle.step_table.proofs.SumsOfSums.{at_most_ones, total_most, total_add}
use Rattle.step_law_semaphores.proofs.Promises as law
use Rattle.step_law_semaphores.specs.Balances.{added_by, withdrawn_by}
use Rattle.step_law_semaphores.specs.Bounds.{IsCleared, AllRest, IsSmall, IsUnwrapped}
use Rattle.step_law_semaphores.proofs.Balancing as balances

no_hand : (l : List WaitId) → length l ≡ 0 → l ≡ []
no_hand [] none = refl
no_hand (w ∷ l) none = absurd (omega arith)

pub cleared : (m : Layout) (s : SemaWorld) → IsInvariant m s → AllRest m s → IsCleared m s
cleared m s inv rest = record {
  lists = λ c. listed c (s.words.lists c) refl;
  locks = lock;
  waiters = waiter;
  grants = λ k h. subst (λ p. IsGrantOf p (s.words.grants k)) (rest k h) (inv.seats k).granted;
  hands = λ k h. no_hand (s.seats k).hand (subst (λ p. HandFits p (length (s.seats k).hand)) (rest k h) (inv.seats k).fits);
}
  where
    listed : (c : ℕ) (l : List WaitId) → s.words.lists c ≡ l → s.words.lists c ≡ []
    listed c [] is = is
    listed c (w ∷ l) is =
        let has = ap (times w) is in
        let one = same_here w in
        let v = in_a_list m s inv.placed c w (omega arith) in
        let apart : Rest ≡ Acquiring v.0 (Parked w.turn v.2) = sym (rest w.seat v.5) ∙ v.3 in absurd cc

    lock : (r : ℕ) → s.words.locks r ≡ 0
    lock r =
        let none = nothing m.seats (λ k. 0) (λ k. refl) in
        let same = total_same m.seats (λ k. holds m.root r (s.seats k).place) (λ k. 0) (λ k h. ap (holds m.root r) (rest k h)) in
        let word = inv.locks r in omega arith

    waiter : (r : ℕ) → s.words.waiters r ≡ 0
    waiter r =
        let none = nothing m.seats (λ k. 0) (λ k. refl) in
        let same = total_same m.seats (λ k. raises m.root r (s.seats k).place) (λ k. 0) (λ k h. ap (raises m.root r) (rest k h)) in
        let waits = nothing m.counters (λ c. on (m.root c) r (length (s.words.lists c)))
        (λ c. ap (λ l. on (m.root c) r (length l)) (listed c (s.words.lists c) refl) ∙ on_zero (m.root c) r) in
        let word = inv.waiters r in omega arith

pub asleep_most : (p : Place) (g : ℕ) → asleep p g ≤ 1
asleep_most (Acquiring a (Parked t row)) zero = omega arith
asleep_most (Acquiring a (Parked t row)) (suc g) = omega arith
asleep_most _ g = omega arith

pub unwrapped : (m : Layout) (share : ℕ) (s : SemaWorld) → IsReached m s → IsSmall m share s → IsUnwrapped m s
unwrapped m share s reached small =
    let inv = law.reached m s reached in
    let units : added s.journal ≡ total m.seats (λ k. added_by k s.journal) = balances.added m s reached in
    let gone : withdrawals s.journal ≡ total m.seats (λ k. withdrawn_by k s.journal) = balances.withdrawn m s reached in
    let both = total_add m.seats (λ k. added_by k s.journal) (λ k. withdrawn_by k s.journal) in
    let each : total m.seats (λ k. added_by k s.journal + withdrawn_by k s.journal) ≤ m.seats * share
    = total_most m.seats share (λ k. added_by k s.journal + withdrawn_by k s.journal) small.few in
    let sleepers : total m.seats (λ k. asleep (s.seats k).place (s.words.grants k)) ≤ m.seats
    = at_most_ones m.seats (λ k. asleep (s.seats k).place (s.words.grants k))
    (λ k h. asleep_most (s.seats k).place (s.words.grants k)) in
    let waits = inv.sleepers in
    let turns = inv.turns in
    let seats = small.seats in
    let shares = small.shares in
    let few : added s.journal + withdrawals s.journal ≤ 2 ^ 62 = omega arith in
    let bounds = bounded m s inv in record {
      numbers = λ c. let most = bounds.0 c in let start = small.starts c in omega arith;
      turns = λ k h. let most = bounds.2 k h in omega arith;
      all_turns = omega arith;
    }
