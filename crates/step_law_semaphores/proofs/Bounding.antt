-- No word outgrows its bound.
use Rattle.std.proofs.Common.{◌≡◌, ℕ, zero, suc, ◌+◌, ◌-◌, ◌<◌, ◌≤◌, List, [], ◌∷◌, length, ap, arith}
use Rattle.step_table.specs.declared.entry.Entry.{Entry}
use Rattle.step_table.specs.declared.entry.Entry.TheVariants.{Add, AddMany, Take}
use Rattle.step_table.specs.declared.place.Place.{Place}
use Rattle.step_table.specs.declared.place.ParkedRow.{ParkedRow}
use Rattle.step_table.specs.declared.place.Place.TheVariants.{Acquiring}
use Rattle.step_table.specs.declared.place.AcquireRow.TheVariants.{A5, A6, A7, A8, Parked}
use Rattle.step_table.specs.declared.place.ParkedRow.TheVariants.{P}
use Rattle.step_table.specs.World.{Layout, SemaWorld}
use Rattle.step_table.specs.Journal.{Plain, plain_start, effect_of, replay}
use Rattle.step_table.specs.Counting.{on, total}
use Rattle.step_law_semaphores.specs.Lawful.{waits_of, raises, added, AllBounded, withdrawals}
use Rattle.step_law_semaphores.specs.Invariant.{asleep, IsInvariant}
use Rattle.step_law_semaphores.specs.WellFormed.{IsWellFormedWorld}
use Rattle.step_table.proofs.Sums.{total_le, total_has, put_at, on_most}
use Rattle.step_law_semaphores.proofs.Counting.{added_counts}

-- an entry adds to a number at most its units
entry_adds : (x : Plain) (e : Entry) (c : ℕ) → (effect_of e x).numbers c ≤ x.numbers c + added (e ∷ [])
entry_adds x (Add d s) c = put_at (λ c n. n ≤ x.numbers c + 1) x.numbers d (x.numbers d + 1) c (omega arith) (λ ne. omega arith)
entry_adds x (AddMany d n s) c = put_at (λ c y. y ≤ x.numbers c + (n + 0)) x.numbers d (x.numbers d + n) c (omega arith) (λ ne. omega arith)
entry_adds x (Take d s) c = put_at (λ c n. n ≤ x.numbers c + 0) x.numbers d (x.numbers d - 1) c (omega arith) (λ ne. omega arith)
entry_adds x _ c = omega arith

replay_adds : (x : Plain) (j : List Entry) (c : ℕ) → (replay x j).numbers c ≤ x.numbers c + added j
replay_adds x [] c = omega arith
replay_adds x (e ∷ j) c =
    let rest : (replay (effect_of e x) j).numbers c ≤ (effect_of e x).numbers c + added j = replay_adds (effect_of e x) j c in
    let first = entry_adds x e c in
    let both = added_counts.1 e j in omega arith

-- two sums of which each seat has one term at most
one_each : (n : ℕ) (f g : ℕ → ℕ) → ((k : ℕ) → f k + g k ≤ 1) → total n f + total n g ≤ n
unfolding total
one_each zero f g e = omega arith
one_each (suc n) f g e = let before : total n f + total n g ≤ n = one_each n f g e in let last = e n in omega arith

-- a sleeper has no waiter word raised
pub asleep_or_raises : (root : ℕ → ℕ) (r : ℕ) (p : Place) (grant : ℕ) → asleep p grant + raises root r p ≤ 1
asleep_or_raises root r (Acquiring a A5) grant = let one = on_most (root a.counter) r 1 in omega arith
asleep_or_raises root r (Acquiring a (A6 n)) grant = let one = on_most (root a.counter) r 1 in omega arith
asleep_or_raises root r (Acquiring a A7) grant = let one = on_most (root a.counter) r 1 in omega arith
asleep_or_raises root r (Acquiring a A8) grant = let one = on_most (root a.counter) r 1 in omega arith
asleep_or_raises root r (Acquiring a (Parked t row)) zero = omega arith
asleep_or_raises root r (Acquiring a (Parked t row)) (suc g) = omega arith
asleep_or_raises root r _ grant = omega arith

-- wherever seats raise a waiter word, if none does that sleeps
pub well_formed_bounded : (m : Layout) (s : SemaWorld) (raising : ℕ → Place → ℕ)
    → ((r : ℕ) (p : Place) (grant : ℕ) → asleep p grant + raising r p ≤ 1)
    → IsWellFormedWorld m s → ((r : ℕ) → s.words.waiters r ≡ waits_of m r s.words + total m.seats (λ k. raising r (s.seats k).place))
    → AllBounded m s
well_formed_bounded m s raising apart inv raised = (numbers, (λ r. ((inv.locks r).1, waiters r)), turns)
  where
    numbers : (c : ℕ) → s.words.numbers c ≤ m.starts c + added s.journal
    numbers c = let told = ap (λ x. x.numbers c) inv.replays in let most = replay_adds (plain_start m.starts) s.journal c in omega arith

    -- the waits in lists, and the seats that have raised a waiter word, are at most the seats
    few_waits : (r : ℕ) → total m.counters (λ c. length (s.words.lists c)) + total m.seats (λ k. raising r (s.seats k).place) ≤ m.seats
    few_waits r =
        let counted = inv.sleepers in
        let most = one_each m.seats (λ k. asleep (s.seats k).place (s.words.grants k)) (λ k. raising r (s.seats k).place)
        (λ k. apart r (s.seats k).place (s.words.grants k)) in omega arith

    waiters : (r : ℕ) → s.words.waiters r ≤ m.seats
    waiters r =
        let counted = raised r in
        let of_root = total_le m.counters (λ c. on (m.root c) r (length (s.words.lists c))) (λ c. length (s.words.lists c))
        (λ c h. on_most (m.root c) r (length (s.words.lists c))) in
        let most = few_waits r in omega arith

    turns : (k : ℕ) → k < m.seats → (s.seats k).turn ≤ added s.journal + withdrawals s.journal + m.seats
    turns k h = let one = total_has m.seats (λ k. (s.seats k).turn) k h in let few = inv.turns in let waits = few_waits 0 in omega arith

-- what is kept by the table is well formed
pub well_formed : (m : Layout) (s : SemaWorld) → IsInvariant m s → IsWellFormedWorld m s
well_formed m s inv = record {
  locks = inv.locks;
  placed = inv.placed;
  sleepers = inv.sleepers;
  turns = inv.turns;
  seats = inv.seats;
  finds = inv.finds;
  replays = inv.replays;
}

pub bounded : (m : Layout) (s : SemaWorld) → IsInvariant m s → AllBounded m s
bounded m s inv = well_formed_bounded m s (raises m.root) (asleep_or_raises m.root) (well_formed m s inv) inv.waiters
