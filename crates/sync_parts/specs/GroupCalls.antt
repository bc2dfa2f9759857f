-- The rows that the calls of a wait group ran: on the state word, the semaphore's left out, and on the
-- semaphore.
use Rattle.std.specs.Prelude.{◌≡◌, ◌≢◌, ◌⊎◌, ℕ, zero, suc, ◌+◌, ◌<◌, Bool, true, false, List, [], ◌∷◌, ◌++◌}
use Rattle.std.specs.Prelude.{map, ℤ, pos, MatchResult, Result, Ok, Err, IfOk}
use Rattle.step_table.specs.declared.group_word.GroupWord.{GroupWord}
use Rattle.step_table.specs.declared.misuse.Misuse.{Misuse}
use Rattle.step_table.specs.declared.misuse.Misuse.TheVariants.{Reused}
use Rattle.step_table.specs.declared.standing.GroupRow.{GroupRow}
use Rattle.step_table.specs.declared.standing.GroupRow.TheVariants.{G1, V1, V3, V4, V5}
use Rattle.step_table.specs.declared.standing.GroupNext.{GroupNext}
use Rattle.step_table.specs.declared.standing.GroupNext.TheVariants.{Ends, Goes, Fails, Acquires, Releases}
use Rattle.step_table.specs.declared.standing.GroupNext.TheVariants.{SleepsOn, Withdraws}
use Rattle.step_table.specs.declared.standing.Ending.TheVariants.{NextCall}
use Rattle.step_table.specs.Group.{empty_word, plus}
use Rattle.step_table.specs.GroupPath.{GroupPath, going}
use Rattle.sema_table.specs.declared.answers.Wake.{Wake}
use Rattle.sema_table.specs.Seats.{SeatModel}
use Rattle.sema_table.specs.Callers.{AcquiresUnit}
use Rattle.sema_table.specs.CallersLeaving.{EndsGivingUp}
use Rattle.sema_table.specs.CallersTimed.{GivesUpHolding}
use Rattle.sema_table.specs.Whole.{IsAcquired, IsReleased}
use Rattle.sync_parts.specs.declared.group_view.GroupStep.{GroupStep}
use Rattle.sync_parts.specs.GroupRule.{stride_of}
use Rattle.sync_parts.specs.GroupPlays.{step, given_up}
use Rattle.sync_parts.specs.GroupSeats.{GroupSeatModel}
use Rattle.sync_parts.specs.GroupCallers.{waits_at_zero}

-- these rows are one path of the step table from this row on, and led here
abbrev pub Walks : ℕ → GroupRow → List GroupStep → GroupNext → Type 0
Walks number row steps next = GroupPath number (going (Goes row)) (map stride_of steps) (going next)

-- the seat ran just these rows on the state word
pub record RanSteps (s : GroupSeatModel) (steps : List GroupStep) (t : GroupSeatModel) : Type 0 where
  pub group : t.group ≡ s.group
  pub steps_are : t.steps ≡ s.steps ++ steps

-- V1 found counter 0, at the first look or after lost exchanges. The semaphore was left alone
pub record IsUncounted (s t : GroupSeatModel) : Type 0 where
  pub before : List GroupStep
  pub word : GroupWord
  pub zero : word.counter ≡ pos 0
  pub ran : RanSteps s (before ++ step (V1 NextCall) word ∷ []) t
  pub path : Walks s.sema.number (V1 NextCall) (before ++ step (V1 NextCall) word ∷ []) Ends
  pub alone : t.sema ≡ s.sema

-- V2 was won, and one whole acquire took a unit of the semaphore. Then V3 found this word
pub record IsCounted (s : GroupSeatModel) (word : GroupWord) (next : GroupNext) (t : GroupSeatModel)
    : Type 0 where
  pub before : List GroupStep
  pub ran : RanSteps s (before ++ step (V3 NextCall) word ∷ []) t
  pub path : Walks s.sema.number (V1 NextCall) before (Acquires NextCall)
  pub acquired : IsAcquired s.sema 0 false t.sema
  pub looked : Walks s.sema.number (V3 NextCall) (step (V3 NextCall) word ∷ []) next

-- a wait comes back where it found counter 0, uncounted, or counted and then with nobody counted or waiting;
-- or else the group was used again
abbrev pub IsWaited : GroupSeatModel → GroupSeatModel → Result (Unit {0}) Misuse → Type 0
IsWaited s t answer =
    MatchResult answer
    (λ done. IsUncounted s t ⊎ IsCounted s empty_word Ends t)
    (λ misuse. (misuse ≡ Reused)
    × ((word : GroupWord) × (word ≢ empty_word) × IsCounted s word (Fails Reused) t))

-- V2 was won, and a unit of the semaphore taken. Before that the seat may have given up, and found the counter at 0
-- under the lock. Then V3 found this word
pub record IsCountedInTime (s : GroupSeatModel) (word : GroupWord) (next : GroupNext) (t : GroupSeatModel)
    : Type 0 where
  pub before : List GroupStep
  pub looks : List GroupStep
  pub ran : RanSteps s ((before ++ looks) ++ step (V3 NextCall) word ∷ []) t
  pub path : Walks s.sema.number (V1 NextCall) before (Acquires NextCall)
  pub stayed : (looks ≡ []) ⊎ Walks s.sema.number (V4 given_up) looks (SleepsOn given_up)
  pub acquired : AcquiresUnit s.sema 0 false t.sema
  pub looked : Walks s.sema.number (V3 NextCall) (step (V3 NextCall) word ∷ []) next

-- V2 was won, and the seat's wait queued on the semaphore, where there was no unit. Under the lock V4 found this
-- word, whose counter isn't 0, and V5 was won. Then the wait was taken out of the queue
pub record IsUncountedAgain (s t : GroupSeatModel) : Type 0 where
  pub before : List GroupStep
  pub looks : List GroupStep
  pub word : GroupWord
  pub some : (word.counter ≢ pos 0) × (0 < word.waits)
  pub ran : RanSteps s (before ++ (looks ++ step (V5 given_up word) word ∷ [])) t
  pub path : Walks s.sema.number (V1 NextCall) before (Acquires NextCall)
  pub left :
      Walks s.sema.number (V4 given_up) (looks ++ step (V5 given_up word) word ∷ []) (Withdraws given_up)
  pub withdrew : (l : SeatModel) × GivesUpHolding s.sema 0 false l × EndsGivingUp l t.sema

-- a wait with a time-out comes back where it found counter 0, as one without; or its time was over, and it is
-- counted no more; or else the group was used again
abbrev pub IsWaitedInTime : GroupSeatModel → GroupSeatModel → Result Bool Misuse → Type 0
IsWaitedInTime s t (Ok true) = IsUncounted s t ⊎ IsCountedInTime s empty_word Ends t
IsWaitedInTime s t (Ok false) = IsUncountedAgain s t
IsWaitedInTime s t (Err misuse) =
    (misuse ≡ Reused) × ((word : GroupWord) × (word ≢ empty_word) × IsCountedInTime s word (Fails Reused) t)

-- so many releases of a unit of the semaphore, without handoff, one after the other
abbrev pub HasReleased : ℕ → SeatModel → SeatModel → Type 0
HasReleased zero s t = t ≡ s
HasReleased (suc n) s t = (u : SeatModel) × HasReleased n s u × ((wake : Wake) × IsReleased u 0 false t wake)

-- what an add answers whose rows led here, and what it did on the semaphore
abbrev pub Answers : GroupNext → SeatModel → SeatModel → Result ℕ Misuse → Type 0
Answers Ends s t answer = (answer ≡ Ok 0) × (t ≡ s)
Answers (Releases n) s t answer = (answer ≡ Ok n) × HasReleased n s t
Answers (Fails misuse) s t answer = (answer ≡ Err misuse) × (t ≡ s)
Answers _ s t answer = ⊥

-- G1 found this word, and what followed led here, and to this answer. It is a number of releases exactly
-- where that is what is left to wake in the word that G1 left
pub record IsAdded (s : GroupSeatModel) (d : ℤ) (t : GroupSeatModel) (answer : Result ℕ Misuse) : Type 0 where
  pub found : GroupWord
  pub after : List GroupStep
  pub next : GroupNext
  pub ran : RanSteps s (step (G1 d) found ∷ after) t
  pub path : Walks s.sema.number (G1 d) (step (G1 d) found ∷ after) next
  pub answers : Answers next s.sema t.sema answer
  pub made : IfOk answer (λ n. (n ≡ waits_at_zero (plus found d)) × (t.sema.left + n ≡ s.sema.left))
