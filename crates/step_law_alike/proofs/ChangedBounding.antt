-- No word outgrows its bound by a changed table either.
use Rattle.std.proofs.Common.{ℕ, zero, suc, ◌+◌, ◌≤◌, arith}
use Rattle.step_table.specs.declared.place.Place.{Place}
use Rattle.step_table.specs.declared.place.Place.TheVariants.{Acquiring}
use Rattle.step_table.specs.declared.place.AcquireRow.TheVariants.{A7, A8, Parked}
use Rattle.step_law_alike.specs.declared.variant.Variant.{Variant}
use Rattle.step_law_alike.specs.declared.variant.Variant.TheVariants.{NoLook, LateCount, PlainLess}
use Rattle.step_table.specs.World.{Layout, SemaWorld}
use Rattle.step_law_semaphores.specs.Lawful.{AllBounded}
use Rattle.step_law_semaphores.specs.Invariant.{asleep}
use Rattle.step_law_semaphores.specs.WellFormed.{IsWellFormedWorld}
use Rattle.step_law_alike.specs.ChangedInvariant.{raises_late, raises_in, WaitersRaisedIn}
use Rattle.step_table.proofs.Sums.{on_most}
use Rattle.step_law_semaphores.proofs.Bounding.{asleep_or_raises, well_formed_bounded}

asleep_or_raises_late : (root : ℕ → ℕ) (r : ℕ) (p : Place) (grant : ℕ) → asleep p grant + raises_late root r p ≤ 1
asleep_or_raises_late root r (Acquiring a A7) grant = let one = on_most (root a.counter) r 1 in omega arith
asleep_or_raises_late root r (Acquiring a A8) grant = let one = on_most (root a.counter) r 1 in omega arith
asleep_or_raises_late root r (Acquiring a (Parked t row)) zero = omega arith
asleep_or_raises_late root r (Acquiring a (Parked t row)) (suc g) = omega arith
asleep_or_raises_late root r _ grant = omega arith

asleep_or_raises_in : (v : Variant) (root : ℕ → ℕ) (r : ℕ) (p : Place) (grant : ℕ) → asleep p grant + raises_in v root r p ≤ 1
asleep_or_raises_in NoLook root r p grant = asleep_or_raises root r p grant
asleep_or_raises_in LateCount root r p grant = asleep_or_raises_late root r p grant
asleep_or_raises_in PlainLess root r p grant = asleep_or_raises root r p grant

pub changed_bounded : (v : Variant) (m : Layout) (s : SemaWorld) → IsWellFormedWorld m s → WaitersRaisedIn v m s → AllBounded m s
changed_bounded v m s inv raised = well_formed_bounded m s (raises_in v m.root) (asleep_or_raises_in v m.root) inv raised
