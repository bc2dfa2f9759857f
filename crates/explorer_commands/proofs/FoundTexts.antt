-- What a search of a lock program found has a text, since each kind of bad world has.
use Rattle.std.proofs.Common.{◌≡◌, ℕ, List, Option, Some, refl}
use Rattle.search.specs.declared.found_in_all.FoundInAll.{FoundInAll}
use Rattle.search.specs.declared.found_in_all.FoundInAll.TheVariants as finds
use Rattle.explorer_answers.specs.CheckText.{bad_text_of, found_among_text}
use Rattle.explorer_commands.specs.OutlookTexts.{broken_text}
use Rattle.explorer_commands.specs.ProgramCommands.{bad_text, tried_text}
use Rattle.liveness.specs.declared.dead_end.DeadEnd.{DeadEnd}
use Rattle.liveness.specs.DeadEndText.{dead_end_text}
use Rattle.program_steps.specs.declared.bad_kind.BadKind.{BadKind}
use Rattle.program_steps.specs.KindText.{kind_text}

pub found_texts : (most : ℕ) (worlds : Option ℕ) (found : FoundInAll BadKind)
    → found_among_text (λ kind. Some (kind_text kind)) most worlds found ≡ Some (tried_text most worlds found)
found_texts most worlds (finds.Bad schedule kind) = refl
found_texts most worlds (finds.None all deepest) = refl
found_texts most worlds (finds.GaveUp complete) = refl

-- and what is told of a dead end too
pub dead_texts : (schedule : List ℕ) (kind : DeadEnd) → bad_text_of (Some (dead_end_text kind)) schedule ≡ Some (bad_text schedule (dead_end_text kind))
dead_texts schedule kind = refl

-- and of a line that is broken
pub broken_texts : (schedule : List ℕ) (line : ℕ) → bad_text_of (Some (broken_text line)) schedule ≡ Some (bad_text schedule (broken_text line))
broken_texts schedule line = refl
