-- What the calls of a wait group are to their caller: what the word became, how many waits were released, and
-- whether the caller's own was.
use Rattle.std.specs.Prelude.{◌≡◌, ◌≢◌, ◌⊎◌, ℕ, ◌+◌, ◌<◌, if◌then◌else◌, Bool, true, false, List, [], ◌∷◌, ◌++◌}
use Rattle.std.specs.Prelude.{ℤ, pos, int_lt, Result, Ok, Err}
use Rattle.std.specs.Ordering.{int_eq}
use Rattle.step_table.specs.declared.group_word.GroupWord.{GroupWord}
use Rattle.step_table.specs.declared.misuse.Misuse.{Misuse}
use Rattle.step_table.specs.declared.misuse.Misuse.TheVariants.{Negative, AddWithWait, Reused}
use Rattle.step_table.specs.declared.standing.GroupRow.TheVariants.{G1, V5}
use Rattle.step_table.specs.Group.{empty_word, plus}
use Rattle.sync_parts.specs.declared.group_view.GroupStep.{GroupStep}
use Rattle.sync_parts.specs.GroupPlays.{given_up}
use Rattle.sync_parts.specs.GroupSeats.{GroupSeatModel}

-- t is the seat s of the same group, after it has spent so much, for the waits that it released and one for each
-- of its own that it took back, and was released so often
pub record IsGroupSeatAfter (s : GroupSeatModel) (spent woken : ℕ) (t : GroupSeatModel) : Type 0 where
  pub group : t.group ≡ s.group
  pub number : t.sema.number ≡ s.sema.number
  pub left : t.sema.left + spent ≡ s.sema.left
  pub taken : t.sema.taken ≡ s.sema.taken + woken

-- how many wait in a word whose counter is 0
abbrev pub waits_at_zero : GroupWord → ℕ
waits_at_zero w = if int_eq w.counter (pos 0) then w.waits else 0

-- how many waits were released, by what an add answers
abbrev pub released_by : Result ℕ Misuse → ℕ
released_by (Ok n) = n
released_by (Err misuse) = 0

-- what an add of d that left this word answers: how many wait in it, if its counter is 0; that its counter is
-- below 0; or, where some wait in it, that it had been 0, or that it is 0 and another call came between
abbrev pub TellsOfAdd : ℤ → GroupWord → Result ℕ Misuse → Type 0
TellsOfAdd d left (Ok n) = (int_lt left.counter (pos 0) ≡ false) × (n ≡ waits_at_zero left)
TellsOfAdd d left (Err Negative) = int_lt left.counter (pos 0) ≡ true
TellsOfAdd d left (Err AddWithWait) =
    (0 < left.waits) × (((int_lt (pos 0) d ≡ true) × (left.counter ≡ d)) ⊎ (left.counter ≡ pos 0))
TellsOfAdd d left (Err Reused) = ⊥

-- the seat found this word, added d to its counter, and answers by what that left. It released as many waits
-- as it answers
pub record AddsToGroup (s : GroupSeatModel) (d : ℤ) (t : GroupSeatModel) (answer : Result ℕ Misuse)
    : Type 0 where
  pub found : GroupWord
  pub rest : List GroupStep
  pub added : t.steps ≡ s.steps ++ record { row = G1 d; found = found } ∷ rest
  pub tells : TellsOfAdd d (plus found d) answer
  pub after : IsGroupSeatAfter s (released_by answer) 0 t

-- what a wait answers that found this word last of all: that its counter is 0, and the wait had not been
-- counted, or was released and found nobody waiting; or that it was released, and found the group used again
abbrev pub TellsOfWait : ℕ → GroupWord → Result (Unit {0}) Misuse → Type 0
TellsOfWait woken word (Ok done) = (word.counter ≡ pos 0) × ((woken ≡ 0) ⊎ ((woken ≡ 1) × (word.waits ≡ 0)))
TellsOfWait woken word (Err misuse) = (misuse ≡ Reused) × (woken ≡ 1) × (word ≢ empty_word)

-- the seat looked at the word, was released at most once, and answers by what it found last
pub record WaitsForZero (s t : GroupSeatModel) (answer : Result (Unit {0}) Misuse) : Type 0 where
  pub before : List GroupStep
  pub last : GroupStep
  pub looked : t.steps ≡ s.steps ++ (before ++ last ∷ [])
  pub woken : ℕ
  pub tells : TellsOfWait woken last.found answer
  pub after : IsGroupSeatAfter s 0 woken t

-- the seat is counted no more in the word that it found last, whose counter wasn't 0. It wasn't released, and took
-- its wait back
pub record TakesWaitBack (s t : GroupSeatModel) : Type 0 where
  pub before : List GroupStep
  pub word : GroupWord
  pub looked : t.steps ≡ s.steps ++ (before ++ record { row = V5 given_up word; found = word } ∷ [])
  pub some : (word.counter ≢ pos 0) × (0 < word.waits)
  pub after : IsGroupSeatAfter s 1 0 t

-- the seat comes back as from a wait without a time-out; or the time was over
abbrev pub WaitsForZeroInTime : GroupSeatModel → GroupSeatModel → Result Bool Misuse → Type 0
WaitsForZeroInTime s t (Ok true) = WaitsForZero s t (Ok tt)
WaitsForZeroInTime s t (Ok false) = TakesWaitBack s t
WaitsForZeroInTime s t (Err misuse) = WaitsForZero s t (Err misuse)
