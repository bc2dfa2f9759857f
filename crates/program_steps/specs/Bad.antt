-- Which worlds of a lock program are bad, and how.
use Rattle.std.specs.Prelude.{◌≡◌, ◌≢◌, ℕ, zero, suc, ◌+◌, ◌<◌, pos, false, cond, IsTrue}
use Rattle.std.specs.Prelude.{length, slice_get, Some, None}
use Rattle.program_code.specs.declared.program.CodeLine.{CodeLine}
use Rattle.program_code.specs.declared.program.Program.{Program}
use Rattle.program_code.specs.declared.program.ProgramProperty.{ProgramProperty}
use Rattle.program_code.specs.declared.program.ProgramProperty.TheVariants.{Most, Apart, FinallyWord}
use Rattle.program_code.specs.declared.program.ProgramProperty.TheVariants.{FinallyCounter, Passed}
use Rattle.program_code.specs.declared.program.Asked.{Asked}
use Rattle.program_steps.specs.declared.failure.Failure.{Failure}
use Rattle.program_steps.specs.declared.bad_kind.BadKind.{BadKind}
use Rattle.program_steps.specs.declared.bad_kind.BadKind.TheVariants.{Failed, Crowded, Together, Stuck, Final}
use Rattle.program_steps.specs.Numbers.{holds}
use Rattle.program_steps.specs.declared.stand.Stand.TheVariants.{Ended, FailedAt}
use Rattle.program_steps.specs.World.{ProgramWorld, ProgramSeat, code_of}
use Rattle.program_steps.specs.Steps.{row_of}

-- how many of the first n seats are in the section
unfoldable pub inside : (ℕ → ProgramSeat) → ℕ → ℕ → ℕ
inside seats k zero = 0
inside seats k (suc n) = inside seats k n + cond ((seats n).sections k) 1 0

-- another seat than i is in the section
abbrev pub HasAnother : Program → ProgramWorld → ℕ → ℕ → Type 0
HasAnother p s i k = (j : ℕ) × (j < length p.seats) × (j ≢ i) × IsTrue ((s.seats j).sections k)

-- a seat is in the first section, and another in the second. One that is in both is no other
abbrev pub AreTogether : Program → ProgramWorld → ℕ → ℕ → Type 0
AreTogether p s k j =
    (i : ℕ) × (i < length p.seats) × IsTrue ((s.seats i).sections k) × HasAnother p s i j

abbrev pub HaveEnded : Program → ProgramWorld → Type 0
HaveEnded p s = (i : ℕ) → i < length p.seats → (s.seats i).stand ≡ Ended

-- no seat can step, and one hasn't ended
pub record IsStuck (p : Program) (s : ProgramWorld) : Type 0 where
  pub none : (i : ℕ) → i < length p.seats → row_of p s i ≡ None
  pub some : HaveEnded p s → ⊥

-- seat i failed at the line of this number in the text
abbrev pub HasFailedAt : Program → ProgramWorld → ℕ → ℕ → Type 0
HasFailedAt p s i number =
    (n : ℕ) × (why : Failure) × (l : CodeLine) × ((s.seats i).stand ≡ FailedAt n why)
    × (slice_get (code_of p i) n ≡ Some l) × (l.line ≡ number)

-- the first seat that has failed did so there
pub record FailsFirstAt (p : Program) (s : ProgramWorld) (number : ℕ) : Type 0 where
  pub seat : ℕ
  pub below : seat < length p.seats
  pub at : HasFailedAt p s seat number
  pub first : (i number : ℕ) → i < seat → HasFailedAt p s i number → ⊥

-- what a line asks doesn't hold in the world; that of `passed` speaks of schedules, and no world breaks it
abbrev pub Breaks : Program → ProgramWorld → ℕ → ProgramProperty → BadKind → Type 0
Breaks p s number (Most k n) kind = (kind ≡ Crowded number) × (n < inside s.seats k (length p.seats))
Breaks p s number (Apart k j) kind = (kind ≡ Together number) × AreTogether p s k j
Breaks p s number (FinallyWord w rel n) kind =
    (kind ≡ Final number) × HaveEnded p s × (holds rel (s.words w) n ≡ false)
Breaks p s number (FinallyCounter c rel n) kind =
    (kind ≡ Final number) × HaveEnded p s × (holds rel (pos (s.layer.semaphores.words.numbers c)) n ≡ false)
Breaks p s number (Passed k n) kind = ⊥

-- the order in which kinds are asked
abbrev pub order : BadKind → ℕ
order (Failed n) = 0
order (Crowded n) = 1
order (Together n) = 1
order Stuck = 2
order (Final n) = 3

-- the line of this kind breaks
abbrev pub BreaksAt : Program → ProgramWorld → ℕ → BadKind → Type 0
BreaksAt p s k kind =
    (asked : Asked) × (slice_get p.properties k ≡ Some asked) × Breaks p s asked.line asked.property kind

-- some line of this kind breaks, and none of the kind above it
abbrev pub BreaksFirst : Program → ProgramWorld → BadKind → Type 0
BreaksFirst p s kind =
    (k : ℕ) × BreaksAt p s k kind
    × ((j : ℕ) (other : BadKind) → j < k → BreaksAt p s j other → order other ≡ order kind → ⊥)

-- the world is bad in this way
abbrev pub IsBadAs : Program → ProgramWorld → BadKind → Type 0
IsBadAs p s (Failed number) = FailsFirstAt p s number
IsBadAs p s Stuck = IsStuck p s
IsBadAs p s kind = BreaksFirst p s kind

-- and in no way that is asked before
pub record IsBad (p : Program) (s : ProgramWorld) (kind : BadKind) : Type 0 where
  pub so : IsBadAs p s kind
  pub first : (other : BadKind) → order other < order kind → IsBadAs p s other → ⊥
