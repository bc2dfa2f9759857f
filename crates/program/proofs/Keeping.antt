-- A line more keeps what a draft declares and says there, and few.
use Rattle.std.proofs.Common.{◌≡◌, ℕ, ◌+◌, Bool, true, false, cond, List, [], ◌∷◌, length, Result, Ok, Err, refl, subst}
use Rattle.program_text.specs.declared.lines.SpelledLine.{SpelledLine}
use Rattle.program_text.specs.declared.cause.ProgramCause.{ProgramCause}
use Rattle.program_text.specs.declared.cause.ProgramCause.TheVariants.{Place as Misplaced, TooMany, Twice}
use Rattle.program.specs.declared.meant.Meant.{Meant}
use Rattle.program.specs.declared.draft.ProgramDraft.{ProgramDraft}
use Rattle.program.specs.Causes.{map_ok, too_if}
use Rattle.program.specs.Places.{group_of, may_stand, stage_after}
use Rattle.program.specs.Limits.{is_too_many, is_again}
use Rattle.program.specs.Meanings.{meant_of}
use Rattle.program.specs.Drafts.{no_lines, closed_by, with_meant, made_of, next}
use Rattle.program.specs.Fitting.{IsFitting}
use Rattle.program.specs.Text.{with_lines}
use Rattle.program.proofs.Fits.{fits_none, fits_closed_by, fits_with, fits_stage}
use Rattle.program.proofs.Forming.{IsFormed, StandsAt, IsMeant, formed_none, formed_closed_by, formed_with, formed_stage}
use Rattle.program.proofs.Oks.{oks_at}
use Rattle.program.proofs.Rooms.{too_none, made}
use Rattle.program.proofs.Standing.{Stands, meant_in, staged_in}
use Rattle.program.proofs.Steps.{told, told_room}
use Rattle.program.proofs.Texts.{then_ok}

pub record IsKept (d : ProgramDraft) : Type 0 where
  pub fitting : IsFitting d
  pub formed : IsFormed d
  pub staged : StandsAt d.stage d

pub kept_none : IsKept no_lines
kept_none = record { fitting = fits_none; formed = formed_none; staged = (refl, refl, refl) }

-- a line that may stand there and is told to mean something
kept_made : (d : ProgramDraft) (number : ℕ) (line : SpelledLine) (m : Meant) → IsKept d → may_stand d.stage (group_of line) ≡ true → told d line ≡ Ok m
    → IsKept (made_of d number (group_of line) m)
kept_made d number line m k stands is =
    let over = too_none (is_too_many d line) TooMany (too_if (is_again d line) Twice (meant_of d.names (length d.codes) line)) m is in
    let again = too_none (is_again d line) Twice (meant_of d.names (length d.codes) line) m over.1 in
    let c : ProgramDraft = closed_by d.stage (group_of line) d in
    let w : ProgramDraft = with_meant (closed_by d.stage (group_of line) d) number m in
    record {
      fitting =
          fits_stage w (stage_after d.stage (group_of line))
          (fits_with c number m (fits_closed_by d.stage (group_of line) d k.fitting) (told_room d line m k.fitting is));
      formed =
          formed_stage w (stage_after d.stage (group_of line))
          (formed_with c number m (formed_closed_by d.stage (group_of line) d k.formed)
          (oks_at (IsMeant c) (meant_of d.names (length d.codes) line) m again.1 (meant_in d.stage d line stands k.staged k.formed over.0)));
      staged =
          oks_at (Stands (stage_after d.stage (group_of line)) number c) (meant_of d.names (length d.codes) line) m again.1
          (staged_in d.stage d number line stands k.staged);
    }

standing : (b : Bool) (r : Result ProgramDraft ProgramCause) (e : ProgramDraft) → cond b r (Err Misplaced) ≡ Ok e → (b ≡ true) × (r ≡ Ok e)
standing true r e h = (refl, h)
standing false r e h = absurd cc

pub kept_next : (d e : ProgramDraft) (number : ℕ) (line : SpelledLine) → IsKept d → next d number line ≡ Ok e → IsKept e
kept_next d e number line k h =
    let stands = standing (may_stand d.stage (group_of line)) (map_ok (λ m. made_of d number (group_of line) m) (told d line)) e h in
    made IsKept (λ m. made_of d number (group_of line) m) (told d line) e (λ m is. kept_made d number line m k stands.0 is) stands.1

pub kept_lines : (lines : List SpelledLine) (d e : ProgramDraft) (number : ℕ) → IsKept d → with_lines d number lines ≡ Ok e → IsKept e
kept_lines [] d e number k h = let is : d ≡ e = cc in subst IsKept is k
kept_lines (l ∷ ls) d e number k h =
    let first = then_ok (next d number l) (λ g. with_lines g (number + 1) ls) e h in
    kept_lines ls first.0 e (number + 1) (kept_next d first.0 number l k first.1) first.2
