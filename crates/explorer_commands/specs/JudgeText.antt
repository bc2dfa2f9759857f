-- What `judge` answers to the text of a journal.
use Rattle.std.specs.Prelude.{◌≡◌, ℕ, ◌*◌, ◌<◌, ◌≤◌, List, ◌++◌, ◌⊎◌, Option, Some, None, length, slice_index}
use Rattle.std.specs.Prelude.{codes}
use Rattle.std.specs.Fmt.{decimal}
use Rattle.explorer_answers.specs.declared.exit.Exit.{Exit}
use Rattle.explorer_answers.specs.declared.exit.Exit.TheVariants.{NothingBad, BadFound, Refused}
use Rattle.explorer_answers.specs.Line.{line}
use Rattle.explorer_answers.specs.Told.{WantsMemory}
use Rattle.explorer_answers.specs.Reading.{Reads, ReadsAll}
use Rattle.journal.specs.declared.journal.Journal.{Journal}
use Rattle.journal.specs.Cutting.{first_lines}
use Rattle.explorer_answers.specs.JournalHelp.{journal_help, line_shown}
use Rattle.journal.specs.declared.journal_fault.JournalFault.{JournalFault}
use Rattle.journal.specs.declared.journal_fault.JournalFault.TheVariants.{Form, NoMemory}
use Rattle.journal.specs.FaultTexts.{fault_text}
use Rattle.journal.specs.JournalText.{IsJournalOf, IsFaultOf}
use Rattle.journal.specs.declared.judgement.Demands.{Demands}
use Rattle.journal.specs.declared.judgement.Judgement.{Judgement}
use Rattle.journal.specs.declared.judgement.Judgement.TheVariants.{Lawful, Unlawful, Misheld}
use Rattle.journal.specs.declared.judgement.Judgement.TheVariants.{LeftAsleep}
use Rattle.journal.specs.Judged.{IsJudgementOf}
use Rattle.journal.specs.Texts.{judgement_text}

abbrev pub judgement_exit : Judgement → Exit
judgement_exit Lawful = NothingBad
judgement_exit judgement = BadFound

-- the text is refused for this fault, which is told, and what was expected beside; memory that was short is
-- no fault of it
abbrev pub RefusesFault : List ℕ → JournalFault → List ℕ → Exit → Option (List ℕ) → Type 0
RefusesFault input (Form number) text exit aside =
    (text ≡ line (codes "refused: " ++ fault_text (Form number))) × (exit ≡ Refused)
    × (aside ≡ Some (journal_help input number))
RefusesFault input NoMemory text exit aside = ⊥

-- the first faulty line is refused
abbrev pub RefusesLine : List ℕ → List ℕ → Exit → Option (List ℕ) → Type 0
RefusesLine input text exit aside =
    (number : ℕ) × IsFaultOf input number × RefusesFault input (Form number) text exit aside

-- each of the locks is a counter of the journal
abbrev pub DeclaresLocks : Journal → List ℕ → Type 0
DeclaresLocks journal locks = (k : ℕ) → k < length locks → slice_index locks k < length journal.starts

-- this one isn't
abbrev pub IsUndeclared : Journal → List ℕ → ℕ → Type 0
IsUndeclared journal locks lock =
    (k : ℕ) × (k < length locks) × (lock ≡ slice_index locks k) × (length journal.starts ≤ lock)

-- the lock is refused, and it is told beside
abbrev pub RefusesLock : ℕ → List ℕ → Exit → Option (List ℕ) → Type 0
RefusesLock lock text exit aside =
    (text ≡ line (codes "refused: lock")) × (exit ≡ Refused)
    × (aside ≡ Some (codes "--lock " ++ (decimal lock ++ line (codes ": the journal has no such counter"))))

-- one of the locks is no counter of the journal that the input spells, and is refused
abbrev pub RefusesSomeLock : Demands → List ℕ → List ℕ → Exit → Option (List ℕ) → Type 0
RefusesSomeLock demands input text exit aside =
    (journal : Journal) × IsJournalOf input journal × (lock : ℕ)
    × IsUndeclared journal demands.locks.items lock
    × RefusesLock lock text exit aside

-- the line of which a judgement tells is shown beside it
abbrev pub line_beside : List ℕ → Judgement → Option (List ℕ)
line_beside input Lawful = None
line_beside input (Unlawful number rule) = Some (line_shown input number)
line_beside input (Misheld number rule) = Some (line_shown input number)
line_beside input (LeftAsleep counter) = None

-- what is asked is judged of the journal that the input spells, and told
abbrev pub TellsJudgement : Demands → List ℕ → List ℕ → Exit → Option (List ℕ) → Type 0
TellsJudgement demands input text exit aside =
    (journal : Journal) × IsJournalOf input journal × DeclaresLocks journal demands.locks.items
    × (judgement : Judgement) × IsJudgementOf journal demands judgement
    × (text ≡ line (judgement_text judgement)) × (exit ≡ judgement_exit judgement)
    × (aside ≡ line_beside input judgement)

-- what `judge` replies to the input, want of memory aside
abbrev pub RepliesJudgement : Demands → List ℕ → List ℕ → Exit → Option (List ℕ) → Type 0
RepliesJudgement demands input text exit aside =
    RefusesLine input text exit aside
    ⊎ (RefusesSomeLock demands input text exit aside ⊎ TellsJudgement demands input text exit aside)

-- the text and the exit are what it answers to the input
abbrev pub IsJudgeAnswer : Demands → List ℕ → List ℕ → Exit → Type 0
IsJudgeAnswer demands input text exit =
    (aside : Option (List ℕ)) × RepliesJudgement demands input text exit aside

-- this is judged of a source with these bytes before and after: all that was read, to its end; or where so
-- many lines are told these, of so many times the bytes that a line has at most
abbrev pub IsJudgeInput : Option ℕ → Option (List ℕ) → Option (List ℕ) → List ℕ → Type 0
IsJudgeInput None old new input = ReadsAll old new input
IsJudgeInput (Some most) old new input =
    (bytes : List ℕ) × Reads (most * 90) old new bytes × (input ≡ first_lines most bytes)

-- they answer that, or say that memory was short
abbrev pub IsJudgeToldOf : Demands → Option ℕ → Option (List ℕ) → Option (List ℕ) → List ℕ → Exit → Type 0
IsJudgeToldOf demands most old new text exit =
    ((input : List ℕ) × IsJudgeInput most old new input × IsJudgeAnswer demands input text exit)
    ⊎ WantsMemory text exit

-- and so does what is told beside
abbrev pub IsJudgeReplyOf : Demands → Option ℕ → Option (List ℕ) → Option (List ℕ) → Option (List ℕ) → List ℕ
    → Exit → Type 0
IsJudgeReplyOf demands most old new aside text exit =
    ((input : List ℕ) × IsJudgeInput most old new input × RepliesJudgement demands input text exit aside)
    ⊎ (WantsMemory text exit × (aside ≡ None))
