-- Three tables that differ from the step table in one row, and by which a seat may go on for ever.
use Rattle.std.specs.Prelude.{ℕ, ◌<◌, List}
use Rattle.waiters.specs.declared.wait.WaitId.{WaitId}
use Rattle.step_table.specs.declared.place.AcquireRow.TheVariants.{A1, A2, A10, A11}
use Rattle.step_table.specs.declared.place.ReleaseRow.TheVariants.{R4, R5}
use Rattle.step_table.specs.declared.place.Place.{Place}
use Rattle.step_table.specs.declared.place.Place.TheVariants.{Acquiring, Releasing}
use Rattle.step_table.specs.declared.word.Word.{Word}
use Rattle.step_table.specs.declared.word.Word.TheVariants.{Counter, Waiters}
use Rattle.step_table.specs.EventOf.{load}
use Rattle.step_table.specs.Event.{Event, Next, to, zero_or, by_first}
use Rattle.step_table.specs.World.{Layout, SeatState, SemaWorld}
use Rattle.step_table.specs.Table.{event_at}
use Rattle.step_table.specs.Turn.{Rules, TurnOf}
use Rattle.step_table.specs.Steps.{rules, IsReached}

-- a retry that reads 0 looks again, and doesn't go to the lock; a try is lost, whatever it finds; a release
-- that finds nobody under the lock looks again
pub data Astray : Type 0 where
  retry_looks_again_for_ever : Astray
  try_loses_for_no_reason : Astray
  release_looks_again_for_ever : Astray

abbrev pub astray_event : Astray → ℕ → SeatState → (ℕ → List WaitId) → Place → Event
astray_event retry_looks_again_for_ever s seat lists (Acquiring a A10) =
    load (Counter a.counter) (λ v. to (zero_or (Acquiring a A10) (λ left. Acquiring a (A11 left)) v))
astray_event try_loses_for_no_reason s seat lists (Acquiring a (A2 left)) =
    load (Counter a.counter) (λ v. to (Acquiring a A1))
astray_event release_looks_again_for_ever s seat lists (Releasing r R4) =
    load (Waiters r.counter)
    (λ v. to (zero_or (Releasing r R4)
    (λ left. by_first (lists r.counter) (Releasing r R4) (λ w. Releasing r R5)) v))
astray_event table s seat lists place = event_at s seat lists place

-- the rows of such a table
abbrev pub astray_rules : Astray → (ℕ → ℕ) → Rules SemaWorld Word ℕ Next
astray_rules table root =
    record (rules root) { event_of = λ s i. astray_event table i (s.seats i) s.words.lists (s.seats i).place }

-- there is no number of a world that each row of this table lowers, from each world that the step table
-- reaches
abbrev pub HasNoWeight : Layout → Astray → Type 0
HasNoWeight m table =
    (weight : SemaWorld → ℕ)
    → ((s t : SemaWorld) (i : ℕ) → i < m.seats → IsReached m s → TurnOf (astray_rules table m.root) s i t
    → weight t < weight s)
    → ⊥

-- each of them has none, in some layout
abbrev pub NoneHasWeight : Type 0
NoneHasWeight = (table : Astray) → (m : Layout) × HasNoWeight m table
