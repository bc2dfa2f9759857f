-- What a line makes of a draft.
use Rattle.std.proofs.Common.{◌≡◌, ℕ, Bool, true, cond, length, Result, Ok, Err, ap, sym, ◌∙◌}
use Rattle.program_text.specs.declared.lines.SpelledLine.{SpelledLine}
use Rattle.program_text.specs.declared.cause.ProgramCause.{ProgramCause}
use Rattle.program_text.specs.declared.cause.ProgramCause.TheVariants.{Place, TooMany, Twice}
use Rattle.program.specs.declared.meant.Meant.{Meant}
use Rattle.program.specs.declared.draft.ProgramDraft.{ProgramDraft}
use Rattle.program.specs.declared.stage.Stage.{Stage}
use Rattle.program.specs.declared.stage.LineGroup.{LineGroup}
use Rattle.program.specs.Causes.{map_ok, too_if}
use Rattle.program.specs.Places.{group_of, may_stand, stage_after}
use Rattle.program.specs.Limits.{is_too_many, is_again}
use Rattle.program.specs.Meanings.{meant_of}
use Rattle.program.specs.Drafts.{closed_by, with_meant, at_stage, made_of, next}
use Rattle.program.specs.Fitting.{IsFitting, FitsMeant}
use Rattle.program.proofs.Rooms.{too_none, room_closed}

-- what a line means, or the least of what is wrong with it where it stands
abbrev pub told : ProgramDraft → SpelledLine → Result Meant ProgramCause
told d line = too_if (is_too_many d line) TooMany (too_if (is_again d line) Twice (meant_of d.names (length d.codes) line))

pub told_from : (d : ProgramDraft) (line : SpelledLine) (over again : Bool) (n : ℕ) (m1 m2 m3 : Result Meant ProgramCause)
    → over ≡ is_too_many d line → again ≡ is_again d line
    → n ≡ length d.codes → m1 ≡ meant_of d.names n line → m2 ≡ too_if again Twice m1 → m3 ≡ too_if over TooMany m2 → m3 ≡ told d line
told_from d line over again n m1 m2 m3 o a l e f g =
    let p : m1 ≡ meant_of d.names (length d.codes) line = e ∙ ap (λ (k : ℕ). meant_of d.names k line) l in
    let q : m2 ≡ too_if (is_again d line) Twice (meant_of d.names (length d.codes) line) = f ∙ (λ i. too_if (a i) Twice (p i)) in
    g ∙ (λ i. too_if (o i) TooMany (q i))

pub told_room : (d : ProgramDraft) (line : SpelledLine) (m : Meant) → IsFitting d → told d line ≡ Ok m → FitsMeant (closed_by d.stage (group_of line) d) m
told_room d line m k e =
    let over = too_none (is_too_many d line) TooMany (too_if (is_again d line) Twice (meant_of d.names (length d.codes) line)) m e in
    let again = too_none (is_again d line) Twice (meant_of d.names (length d.codes) line) m over.1 in
    room_closed d.stage d line m k.few_words k.few_counters k.short over.0 again.1

pub made : (d e f : ProgramDraft) (n : ℕ) (k : LineGroup) (m : Meant) (behind : Stage)
    → e ≡ closed_by d.stage k d → f ≡ with_meant e n m → behind ≡ stage_after d.stage k
    → at_stage f behind ≡ made_of d n k m
made d e f n k m behind closing adding after =
    let added : f ≡ with_meant (closed_by d.stage k d) n m = adding ∙ ap (λ (g : ProgramDraft). with_meant g n m) closing in
    (λ i. at_stage (added i) (after i))

pub taken : (d f : ProgramDraft) (n : ℕ) (line : SpelledLine) (m : Meant)
    → may_stand d.stage (group_of line) ≡ true → told d line ≡ Ok m → f ≡ made_of d n (group_of line) m
    → Ok f ≡ next d n line
taken d f n line m stands means making =
    let by : Result Meant ProgramCause → Result ProgramDraft ProgramCause = map_ok (λ (k : Meant). made_of d n (group_of line) k) in
    let mapped : Ok f ≡ by (told d line) = (λ i. Ok (making i)) ∙ sym (ap by means) in
    mapped ∙ sym (ap (λ (b : Bool). cond b (by (told d line)) (Err Place)) stands)
