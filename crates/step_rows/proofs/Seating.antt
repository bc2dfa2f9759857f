-- A row puts a wait into a list only at A7, and into a hand only at R5 and M5, where one fits; and its word is stored.
use Rattle.std.proofs.Common.{ℕ, ◌+◌, ◌==◌, length, Bool, true, false, if◌then◌else◌, List, [], ◌∷◌, Option, Some, None, IfSome, subst}
use Rattle.std.proofs.Common.{sym}
use Rattle.waiters.specs.declared.wait.WaitId.{WaitId}
use Rattle.step_outcomes.specs.declared.outcome.Outcome.{Outcome}
use Rattle.step_table.specs.declared.place.AcquireRow.TheVariants.{A2, A6, A7, A11, Parked}
use Rattle.step_table.specs.declared.place.ParkedRow.TheVariants.{P}
use Rattle.step_table.specs.declared.place.ReleaseRow.TheVariants.{R5, R8}
use Rattle.step_table.specs.declared.place.ManyRow.TheVariants.{M5}
use Rattle.step_table.specs.declared.place.Place.{Place}
use Rattle.step_table.specs.declared.place.Place.TheVariants.{Rest, Acquiring, Releasing, ReleasingMany}
use Rattle.step_table.specs.World.{SeatState}
use Rattle.step_table.specs.Event.{Next, by_first}
use Rattle.step_table.specs.Table.{event_at}
use Rattle.step_outcomes.specs.Outcomes.{Does, IsWordWithin}
use Rattle.step_table.specs.declared.word.Word.{Word}
use Rattle.step_table.specs.declared.word.Word.TheVariants.{Counter, Lock, Waiters, Grant}
use Rattle.step_rows.specs.Stored.{Stored, HasSeat, MayMove, HasRowsOf, HasWord}

module _ (h : Stored) where
  either : (b : Bool) (won lost : Next) → HasSeat h won.1 → HasSeat h lost.1 → HasSeat h (if b then won else lost).1
  either true won lost first second = first
  either false won lost first second = second

  by_wait : (l : List WaitId) (none : Next) (some : WaitId → Next) → HasSeat h none.1 → ((w : WaitId) → HasSeat h (some w).1)
      → HasSeat h (by_first l none some).1
  by_wait [] none some first second = first
  by_wait (w ∷ l) none some first second = second w

  moves : (s : ℕ) (seat : SeatState) (lists : ℕ → List WaitId) (p : Place) (n : ℕ) → MayMove h p → HasSeat h ((event_at s seat lists p).leads n).1
  moves s seat lists Rest n may = tt
  moves s seat lists (Acquiring a (A2 left)) n may = either (n == left + 1) _ _ tt tt
  moves s seat lists (Acquiring a (A6 left)) n may = either (n == left + 1) _ _ tt tt
  moves s seat lists (Acquiring a (A11 left)) n may = either (n == left + 1) _ _ tt tt
  moves s seat lists (Acquiring a A7) n may = may
  moves s seat lists (Acquiring a (Parked turn P)) n may = tt
  moves s seat lists (Acquiring a (Parked turn row)) n may = tt
  moves s seat lists (Acquiring a row) n may = tt
  moves s seat lists (Releasing r (R8 left)) n may = either (n == left + 1) _ _ tt tt
  moves s seat lists (Releasing r R5) n may = by_wait (lists r.counter) _ _ tt (λ w. may)
  moves s seat lists (Releasing r row) n may = tt
  moves s seat lists (ReleasingMany r M5) n may = by_wait (lists r.counter) _ _ tt (λ w. may)
  moves s seat lists (ReleasingMany r row) n may = tt

  pub seat_fits : (s : ℕ) (seat : SeatState) (lists : ℕ → List WaitId) (p : Place) (n : ℕ) (outcome : Option Outcome) → MayMove h p
      → Does (event_at s seat lists p) n outcome → IfSome outcome (λ o. HasSeat h o.effect)
  seat_fits s seat lists p n None may does = tt
  seat_fits s seat lists p n (Some o) may does = subst (HasSeat h) (sym does.effect) (moves s seat lists p n may)

  pub word_stored : (s : ℕ) (p : Place) (in_hand : Option WaitId) (word : Word) → HasRowsOf h s p in_hand
      → IsWordWithin (length h.numbers) (length h.grants) word → HasWord h word
  word_stored s p in_hand (Counter c) rows within = within
  word_stored s p in_hand (Lock c) rows within = rows.locks c within
  word_stored s p in_hand (Waiters c) rows within = rows.waiters c within
  word_stored s p in_hand (Grant i) rows within = within
