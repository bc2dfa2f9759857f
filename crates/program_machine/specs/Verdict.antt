-- How the world of a moment is bad, or that it isn't: what is found of it seat by seat and line by line, and
-- the verdict.
use Rattle.std.specs.Prelude.{◌≡◌, ℕ, ◌<◌, [], length, Option, Some, None}
use Rattle.program_code.specs.declared.program.Asked.{Asked}
use Rattle.program_machine.specs.Moment.{ProgramMoment}
use Rattle.program_machine.specs.Shared.{world_of}
use Rattle.program_steps.specs.declared.bad_kind.BadKind.{BadKind}
use Rattle.program_steps.specs.Bad.{IsBad, Breaks, BreaksAt, BreaksFirst, FailsFirstAt, HasFailedAt, order}
use Rattle.program_steps.specs.Steps.{row_of}
use Rattle.program_steps.specs.World.{ProgramWorld}

-- the world that a moment shows
abbrev pub shown : ProgramMoment → ProgramWorld
shown m = world_of m.shared []

-- the line at which the seat has failed, by its number in the text, if it has
abbrev pub IsFailureOf : ProgramMoment → ℕ → Option ℕ → Type 0
IsFailureOf m i (Some number) = HasFailedAt m.program (shown m) i number
IsFailureOf m i None = (number : ℕ) → HasFailedAt m.program (shown m) i number → ⊥

-- that of the first seat that has failed, if one has
abbrev pub IsFirstFailure : ProgramMoment → Option ℕ → Type 0
IsFirstFailure m (Some number) = FailsFirstAt m.program (shown m) number
IsFirstFailure m None =
    (i number : ℕ) → i < length m.program.seats → HasFailedAt m.program (shown m) i number → ⊥

-- no seat can step
abbrev pub NoneCanStep : ProgramMoment → Type 0
NoneCanStep m = (i : ℕ) → i < length m.program.seats → row_of m.program (shown m) i ≡ None

-- how this line breaks by a kind of that order, if it does
abbrev pub IsBreachOf : ProgramMoment → ℕ → Asked → Option BadKind → Type 0
IsBreachOf m o asked (Some kind) =
    Breaks m.program (shown m) asked.line asked.property kind × (order kind ≡ o)
IsBreachOf m o asked None =
    (kind : BadKind) → Breaks m.program (shown m) asked.line asked.property kind → order kind ≡ o → ⊥

-- how the first line does that breaks by a kind of that order, if one does
abbrev pub IsFirstBreach : ProgramMoment → ℕ → Option BadKind → Type 0
IsFirstBreach m o (Some kind) = BreaksFirst m.program (shown m) kind × (order kind ≡ o)
IsFirstBreach m o None = (k : ℕ) (kind : BadKind) → BreaksAt m.program (shown m) k kind → order kind ≡ o → ⊥

-- the world is bad in this way, or in none
abbrev pub IsVerdictOf : ProgramMoment → Option BadKind → Type 0
IsVerdictOf m (Some kind) = IsBad m.program (shown m) kind
IsVerdictOf m None = (kind : BadKind) → IsBad m.program (shown m) kind → ⊥
