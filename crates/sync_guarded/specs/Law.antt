-- What the rule of a guarded value says: no two seats have it at once, and who locks takes the value that was
-- given back last.
use Rattle.std.specs.Prelude.{◌≡◌, ◌⊎◌, ℕ, ◌<◌, true, false, List, slice_index}
use mathlib.Core.Option as slot
use lib.ListN.{get_elem?}
use Rattle.running_rows.specs.Table.{State}
use Rattle.running_rows.specs.declared.view.View.{View}
use Rattle.running_rows.specs.declared.view.Seated.{Seated}
use Rattle.running_rows.specs.History.{SeatStride, strides_of}
use Rattle.running_rows.specs.Rule.{In}
use Rattle.sync_guarded.specs.declared.view.GuardKnown.{GuardKnown}
use Rattle.sync_guarded.specs.declared.view.GuardCall.{GuardCall}
use Rattle.sync_guarded.specs.Rule.{Place, home, InTurns, is_with, holds_after, turns_of, LiesAt}

abbrev pub WordState : Type 0 → Type 0
WordState T = State T (View (GuardKnown T) (GuardCall T))

-- a seat of the words, at this place among the views
pub record IsSeatAt {T : Type 0} (s : WordState T) (place : ℕ) (u : Seated (GuardKnown T) (GuardCall T))
    : Type 0 where
  pub view : View (GuardKnown T) (GuardCall T)
  pub at : get_elem? s.views place ≡ slot.some view
  pub someones : 0 < view.own.knows.seats
  pub sits : (view.own ≡ u) ⊎ In u view.guests

-- the call is one that a seat of the words has made
pub record IsOfASeat {T : Type 0} (s : WordState T) (m : SeatStride (GuardCall T)) : Type 0 where
  pub place : ℕ
  pub seat : Seated (GuardKnown T) (GuardCall T)
  pub sits : IsSeatAt s place seat
  pub number : seat.number ≡ m.seat
  pub made : In m.stride seat.gone

-- there is one history of what was locked and unlocked, in turn, from a first value on. Who locks takes the
-- value that was given back last, and the first where none was. The history left the value where it is: in
-- its slot while the word is 0, and out while it is 1. Each call in it is one that a seat has made, and each
-- seat has made its own of them. The seat whose last call locked is the one that has the value: so no two
-- have it at once
pub record IsLawfulGuard {T : Type 0} (s : WordState T) : Type 0 where
  pub first : T
  pub at : Place T
  pub history : List (SeatStride (GuardCall T))
  pub in_turns : InTurns (home first) history at
  pub lies : LiesAt at (slice_index s.words 0) s.homes
  pub each : (m : SeatStride (GuardCall T)) → In m history → IsOfASeat s m
  pub own : (place : ℕ) (u : Seated (GuardKnown T) (GuardCall T)) → IsSeatAt s place u
      → (strides_of u.number history ≡ turns_of u.gone) × (holds_after false u.gone ≡ is_with u.number at)
  pub one : (place other : ℕ) (u w : Seated (GuardKnown T) (GuardCall T))
      → IsSeatAt s place u → IsSeatAt s other w
      → holds_after false u.gone ≡ true → holds_after false w.gone ≡ true → u.number ≡ w.number

-- whatever a rule holds of is so
abbrev pub TheGuard : {T : Type 0} → (ℕ → WordState T → Type 0) → Type 0
TheGuard {T} holds = (seats : ℕ) (s : WordState T) → holds seats s → IsLawfulGuard s
