-- The semaphores keep form and bounds: each step of the table does, and so does a seat that goes on where a changed table leads.
use Rattle.std.proofs.Common.{◌≡◌, ℕ, ◌<◌, length, refl, sym, ap, ◌∙◌, arith}
use Rattle.waiters.specs.declared.wait.WaitId.{WaitId}
use Rattle.step_table.specs.declared.place.Place.{Place}
use Rattle.step_table.specs.World.{Layout, SeatState, SemaWorld, put, first_world}
use Rattle.step_table.specs.Steps.{moved}
use Rattle.step_table.specs.Steps as steps
use Rattle.step_law_semaphores.specs.Lawful.{holds}
use Rattle.step_table.specs.Counting.{total}
use Rattle.step_law_semaphores.specs.Invariant.{hands_at, hands, awaits, asleep, owing, Finds, IsSeat}
use Rattle.step_law_semaphores.specs.WellFormed.{IsWellFormedWorld}
use Rattle.step_table.proofs.Sums.{put_at, total_same}
use Rattle.step_law_semaphores.proofs.Lines.{Step}
use Rattle.step_law_semaphores.proofs.Cases.{step_of}
use Rattle.step_law_semaphores.proofs.Locks.{locks_kept}
use Rattle.step_law_semaphores.proofs.Placing.{placed_kept, seats_kept}
use Rattle.step_law_semaphores.proofs.Finding.{finds_kept}
use Rattle.step_law_semaphores.proofs.Telling.{replays_kept}
use Rattle.step_law_semaphores.proofs.Counting.{sleepers_kept, turns_kept}
use Rattle.step_law_semaphores.proofs.Bounding.{well_formed}
use Rattle.step_law_semaphores.proofs.Promises.{at_first}
use Rattle.step_law_alike.proofs.ChangedPlaces.{IsAsGood}

pub well_formed_first : (m : Layout) → IsWellFormedWorld m (first_world m.starts)
well_formed_first m = well_formed m (first_world m.starts) (at_first m)

kept_by : (m : Layout) (s t : SemaWorld) (i : ℕ) → i < m.seats → IsWellFormedWorld m s → Step m s i t → IsWellFormedWorld m t
kept_by m s t i in_range inv step = record {
  locks = locks_kept m s t i in_range inv.locks step;
  placed = placed_kept m s t i in_range inv.seats inv.placed step;
  sleepers = sleepers_kept in_range inv.placed inv.seats inv.sleepers step;
  turns = turns_kept in_range inv.seats inv.turns step;
  seats = seats_kept m s t i in_range inv.placed inv.finds inv.seats step;
  finds = finds_kept m s t i in_range inv.locks inv.placed inv.finds step;
  replays = replays_kept inv.replays step;
}

pub well_formed_kept : (m : Layout) (s t : SemaWorld) (i : ℕ) → i < m.seats → IsWellFormedWorld m s → steps.Step m s i t → IsWellFormedWorld m t
well_formed_kept m s t i in_range inv step = kept_by m s t i in_range inv (step_of m s t i (inv.seats i) (inv.finds i in_range) step)

-- a seat at a place that is as good
module _ (m : Layout) (s : SemaWorld) (i : ℕ) (here : i < m.seats) (place : Place) (good : IsAsGood (s.seats i).place place) where
  abbrev seat : SeatState
  seat = record (s.seats i) { place = place }

  abbrev t : SemaWorld
  t = moved s i place

  -- what is the same of the seat is the same of all
  all_same : (f : ℕ → SeatState → ℕ) → f i seat ≡ f i (s.seats i) → (k : ℕ) → f k (put s.seats i seat k) ≡ f k (s.seats k)
  all_same f same k = put_at (λ k z. f k z ≡ f k (s.seats k)) s.seats i seat k same (λ ne. refl)

  sum_same : (f : ℕ → SeatState → ℕ) → f i seat ≡ f i (s.seats i)
      → total m.seats (λ k. f k (put s.seats i seat k)) ≡ total m.seats (λ k. f k (s.seats k))
  sum_same f same = total_same m.seats (λ k. f k (put s.seats i seat k)) (λ k. f k (s.seats k)) (λ k lt. all_same f same k)

  hands_same : (c : ℕ) (w : WaitId) → hands c w seat ≡ hands c w (s.seats i)
  hands_same c w = ap (λ d. hands_at c w d (s.seats i).hand) good.counter

  pub well_formed_moved : IsWellFormedWorld m s → IsWellFormedWorld m t
  well_formed_moved inv = record {
    locks = λ r. (let is = sum_same (λ k z. holds m.root r z.place) (good.holds m.root r) in (inv.locks r).0 ∙ sym is, (inv.locks r).1);
    placed = λ c w.
        (let held = sum_same (λ k z. hands c w z) (hands_same c w) in
        let awaited = sum_same (λ k z. awaits c w k z.place (s.words.grants k)) (good.awaits c w i (s.words.grants i)) in
        let before = inv.placed c w in omega arith);
    sleepers =
        let held = sum_same (λ k z. length z.hand) refl in
        let sleeping = sum_same (λ k z. asleep z.place (s.words.grants k)) (good.asleep (s.words.grants i)) in
        let before = inv.sleepers in omega arith;
    turns =
        let turns = sum_same (λ k z. z.turn) refl in
        let owed = sum_same (λ k z. owing z.place (length z.hand)) (good.owing (length (s.seats i).hand)) in
        let before = inv.turns in omega arith;
    seats = λ k. put_at (λ k z. IsSeat m.counters z (s.words.grants k)) s.seats i seat k
        (let known = inv.seats i in
        record {
          within = good.within m.counters known.within;
          fits = good.fits (length (s.seats i).hand) known.fits;
          granted = good.granted (s.words.grants i) known.granted;
        })
        (λ ne. inv.seats k);
    finds = λ k there. put_at (λ k z. Finds k s.words.lists z.place) s.seats i seat k
        (good.finds i s.words.lists (inv.finds i here)) (λ ne. inv.finds k there);
    replays = inv.replays;
  }
