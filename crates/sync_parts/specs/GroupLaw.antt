-- What the rule of a state word says of the rows on it: they are those of its seats.
use Rattle.std.specs.Prelude.{◌≡◌, ◌⊎◌, ℕ, ◌<◌, List, slice_index}
use mathlib.Core.Option.{some}
use lib.ListN.{get_elem?}
use Rattle.running_rows.specs.Table.{State}
use Rattle.step_table.specs.Group.{empty_word}
use Rattle.step_table.specs.GroupBits.{word_in}
use Rattle.running_rows.specs.declared.view.Seated.{Seated}
use Rattle.running_rows.specs.History.{SeatStride, strides_of}
use Rattle.running_rows.specs.Rule.{In}
use Rattle.sync_parts.specs.declared.group_view.GroupKnown.{GroupKnown}
use Rattle.sync_parts.specs.declared.group_view.GroupStep.{GroupStep}
use Rattle.sync_parts.specs.GroupPlays.{GroupView}
use Rattle.sync_parts.specs.GroupRule.{Leads}

abbrev pub WordState : Type 0
WordState = State (Unit {0}) GroupView

-- the row is one that a seat of the word has run
pub record IsOfASeat (seats : ℕ) (s : WordState) (m : SeatStride GroupStep) : Type 0 where
  pub there : m.seat < seats
  pub place : ℕ
  pub view : GroupView
  pub at : get_elem? s.views place ≡ some view
  pub seat : Seated GroupKnown GroupStep
  pub sits : (view.own ≡ seat) ⊎ In seat view.guests
  pub number : seat.number ≡ m.seat
  pub ran : In m.stride seat.gone

-- there is one history of rows, which left the word as it is. Each of them is one that a seat has run, and
-- each seat has run its own of them
pub record IsLawfulGroup (seats : ℕ) (s : WordState) : Type 0 where
  pub history : List (SeatStride GroupStep)
  pub leads : Leads empty_word history (word_in (slice_index s.words 0))
  pub each : (m : SeatStride GroupStep) → In m history → IsOfASeat seats s m
  pub own : (place : ℕ) (view : GroupView) → get_elem? s.views place ≡ some view → 0 < view.own.knows.seats
      → strides_of view.own.number history ≡ view.own.gone

-- whatever a rule holds of is so
abbrev pub TheGroup : (ℕ → WordState → Type 0) → Type 0
TheGroup holds = (seats : ℕ) (s : WordState) → holds seats s → IsLawfulGroup seats s
