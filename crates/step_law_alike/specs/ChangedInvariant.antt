-- What each run keeps of form and bounds, by the table or by a changed one.
use Rattle.std.specs.Prelude.{◌≡◌, ℕ, ◌+◌}
use Rattle.step_table.specs.declared.place.AcquireRow.TheVariants.{A7, A8}
use Rattle.step_table.specs.declared.place.Place.{Place}
use Rattle.step_table.specs.declared.place.Place.TheVariants.{Acquiring}
use Rattle.step_law_alike.specs.declared.variant.Variant.{Variant}
use Rattle.step_law_alike.specs.declared.variant.Variant.TheVariants.{LateCount}
use Rattle.step_table.specs.World.{Layout, SemaWorld}
use Rattle.step_table.specs.Counting.{on, total}
use Rattle.step_law_semaphores.specs.Lawful.{raises, waits_of}
use Rattle.step_table.specs.Core.{CoreLayout, Core, counters_of}
use Rattle.step_law_whole.specs.CoreLaw.{IsKept}
use Rattle.step_law_semaphores.specs.WellFormed.{IsWellFormedWorld}
use Rattle.step_law_lists.specs.ListWellFormed.{IsWellFormedWhileFew}

-- 1 where the seat has raised the waiter word of the root r, and neither queued its wait nor lowered the word
abbrev pub raises_late : (ℕ → ℕ) → ℕ → Place → ℕ
raises_late root r (Acquiring a A7) = on (root a.counter) r 1
raises_late root r (Acquiring a A8) = on (root a.counter) r 1
raises_late root r _ = 0

abbrev pub raises_in : Variant → (ℕ → ℕ) → ℕ → Place → ℕ
raises_in LateCount = raises_late
raises_in v = raises

-- a waiter word counts the root's waits, and the seats that have raised it
abbrev pub WaitersRaisedIn : Variant → Layout → SemaWorld → Type 0
WaitersRaisedIn v m s =
    (r : ℕ) → s.words.waiters r
    ≡ waits_of m r s.words + total m.seats (λ k. raises_in v m.root r (s.seats k).place)

abbrev pub IsWellFormedCore : CoreLayout → Core → Type 0
IsWellFormedCore m s =
    IsKept (IsWellFormedWorld (counters_of m)) (λ l w. IsWellFormedWhileFew (m.firsts l) m.seats w) m s
