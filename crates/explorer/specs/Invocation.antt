-- What the program answers to what its words ask for, and what it tells beside.
use Rattle.std.specs.Prelude.{◌≡◌, ℕ, ◌⊎◌, Bool, true, false, IsTrue, List, [], string_bytes, codes}
use Rattle.std.specs.Prelude.{Option, Some, None, IfSome, Result, Ok, Err, option_map}
use Rattle.std.specs.Io.KnownBytes.{Appends}
use Rattle.explorer_answers.specs.declared.exit.Exit.{Exit}
use Rattle.explorer_answers.specs.declared.exit.Exit.TheVariants.{NothingBad, Refused}
use Rattle.explorer_answers.specs.declared.fault.IoFault.{IoFault}
use Rattle.explorer_answers.specs.declared.fault.IoFault.TheVariants.{Read, Write}
use Rattle.explorer_answers.specs.declared.reply.Answered.{Answered}
use Rattle.explorer_answers.specs.Exit.{status_of}
use Rattle.explorer_commands.specs.Commands.{IsAnswerOf, IsReplyOf}
use Rattle.explorer_answers.specs.Line.{line}
use Rattle.explorer_answers.specs.Writing.{WritesBeginning}
use Rattle.explorer_answers.specs.Told.{IsToldOf, WantsMemory, TellsAll, TellsBeginning}
use Rattle.explorer.specs.declared.invocation.Invocation.{Invocation}
use Rattle.explorer.specs.declared.invocation.Invocation.TheVariants.{Once, OfText}
use Rattle.explorer.specs.declared.invocation.Invocation.TheVariants.{Judge, Threads}
use Rattle.explorer.specs.declared.invocation.Invocation.TheVariants.{Help}
use Rattle.explorer.specs.declared.invocation.Invocation.TheVariants.{Mistake, NoText, NoMemory}
use Rattle.explorer.specs.Asked.{IsFromOne, IsWithinLimits}
use Rattle.explorer.specs.Columns.{IsFitted}
use Rattle.explorer_commands.specs.JudgeText.{IsJudgeReplyOf, IsJudgeToldOf}
use Rattle.explorer_commands.specs.OnceText.{IsOnceAnswer}
use Rattle.explorer_commands.specs.ThreadsText.{IsThreadsAnswer}

-- the text and the exit answer what is asked, of a source with these bytes before and after. A mistake in the
-- words has no answer
abbrev pub IsTextFor : Invocation → Option (List ℕ) → Option (List ℕ) → List ℕ → Exit → Type 0
IsTextFor Once old new text exit = IsOnceAnswer text exit
IsTextFor (OfText command file answer threads) old new text exit =
    IsToldOf (IsAnswerOf command) old new text exit
IsTextFor (Judge file demands most) old new text exit = IsJudgeToldOf demands most old new text exit
IsTextFor (Threads workers rounds) old new text exit = IsThreadsAnswer workers rounds text exit
IsTextFor (Help told) old new text exit = (text ≡ string_bytes told) × (exit ≡ NothingBad)
IsTextFor (Mistake told) old new text exit = (text ≡ []) × (exit ≡ Refused)
IsTextFor NoText old new text exit = (text ≡ []) × (exit ≡ Refused)
IsTextFor NoMemory old new text exit = WantsMemory text exit

-- and this is told beside: only a command that reads a text tells anything there
abbrev pub IsAnswerTo : Invocation → Option (List ℕ) → Option (List ℕ) → Option (List ℕ) → List ℕ → Exit
    → Type 0
IsAnswerTo (OfText command file answer threads) old new aside text exit =
    IsReplyOf command old new aside text exit
IsAnswerTo (Judge file demands most) old new aside text exit =
    IsJudgeReplyOf demands most old new aside text exit
IsAnswerTo asked old new aside text exit = IsTextFor asked old new text exit × (aside ≡ None)

-- a text and an exit answer what is asked, and this is told beside. Where so many columns are told, the text's
-- tables are cut to these; or there was no memory to cut them, which is told alone
abbrev pub IsAnswerWithin : ℕ → Invocation → Option (List ℕ) → Option (List ℕ) → Option (List ℕ) → List ℕ → Exit
    → Type 0
IsAnswerWithin most asked old new aside text exit =
    ((whole : List ℕ) × IsAnswerTo asked old new aside whole exit × IsFitted most whole text)
    ⊎ WantsMemory text exit

abbrev pub IsShownAnswer : Option ℕ → Invocation → Option (List ℕ) → Option (List ℕ) → Option (List ℕ) → List ℕ
    → Exit → Type 0
IsShownAnswer None asked old new aside text exit = IsAnswerTo asked old new aside text exit
IsShownAnswer (Some most) asked old new aside text exit = IsAnswerWithin most asked old new aside text exit

-- the same of the text alone
abbrev pub IsTextWithin : ℕ → Invocation → Option (List ℕ) → Option (List ℕ) → List ℕ → Exit → Type 0
IsTextWithin most asked old new text exit =
    (aside : Option (List ℕ)) × IsAnswerWithin most asked old new aside text exit

abbrev pub IsShownText : Option ℕ → Invocation → Option (List ℕ) → Option (List ℕ) → List ℕ → Exit → Type 0
IsShownText None asked old new text exit = IsTextFor asked old new text exit
IsShownText (Some most) asked old new text exit = IsTextWithin most asked old new text exit

-- the command reads an input
abbrev pub reads_input : Invocation → Bool
reads_input (OfText command file answer threads) = true
reads_input (Judge file demands most) = true
reads_input _ = false

-- what is wrong with the words, or with the file that they name
abbrev pub mistake_text : Invocation → Option (List ℕ)
mistake_text (Mistake told) = Some (string_bytes told)
mistake_text NoText = Some (line (codes "error: invalid UTF-8 was detected in one or more arguments"))
mistake_text _ = None

-- what goes to standard error beside an answer: what the command tells beside, or else what is wrong with the
-- words
abbrev pub or_mistake : Option (List ℕ) → Invocation → Option (List ℕ)
or_mistake (Some told) asked = Some told
or_mistake None asked = mistake_text asked

-- where a stream has failed, that alone
abbrev pub fault_text : IoFault → List ℕ
fault_text Read = line (codes "parklot: read failed")
fault_text Write = line (codes "parklot: write failed")

-- of a write that failed nothing is said where it found that nobody reads what goes out
abbrev pub unless_closed : Bool → Option (List ℕ)
unless_closed true = None
unless_closed false = Some (fault_text Write)

abbrev pub beside : Invocation → Result Answered IoFault → Bool → Option (List ℕ)
beside asked (Ok told) closed = or_mistake (option_map string_bytes told.aside) asked
beside asked (Err Read) closed = Some (fault_text Read)
beside asked (Err Write) closed = unless_closed closed

-- the status after a command that ended so, or in which a read or a write failed
abbrev pub status_after : Result Answered IoFault → ℕ
status_after (Ok told) = status_of told.exit
status_after (Err fault) = 2

-- the text went out, or where the sink has failed a beginning of it
abbrev pub WritesAsFar : Option (List ℕ) → Option (List ℕ) → Bool → List ℕ → Type 0
WritesAsFar old new failed text = Appends old new text ⊎ (IsTrue failed × WritesBeginning old new text)

-- the program did what is asked, in so many columns where these are told, on a source with these bytes before
-- and after, which failed or not; and so with its output
pub record HasDone (asked : Invocation) (columns : Option ℕ) (read unread : Option (List ℕ)) (broken : Bool)
    (old new : Option (List ℕ)) (cut : Bool)
    (status : ℕ) : Type 0 where
  pub whole : broken ≡ false → cut ≡ false
      → (exit : Exit) × (aside : Option (List ℕ)) × (status ≡ status_of exit)
      × TellsAll (IsShownAnswer columns asked read unread aside) old new exit
  pub begun : IsTrue cut → (status ≡ 2) × TellsBeginning (IsShownText columns asked read unread) old new
  pub unwritten : IsTrue broken → (status ≡ 2) × (new ≡ old)

-- whatever its words, it did something that words may ask for, within its limits, on some source; or it ended
-- with 2, and nothing went out
abbrev pub HasDoneSome : Option (List ℕ) → Option (List ℕ) → Bool → ℕ → Type 0
HasDoneSome old new cut status =
    ((status ≡ 2) × (new ≡ old))
    ⊎ ((asked : Invocation) × IsWithinLimits asked × (columns : Option ℕ) × IfSome columns (IsFromOne 9999)
    × (read : Option (List ℕ)) × (unread : Option (List ℕ))
    × (broken : Bool)
    × HasDone asked columns read unread broken old new cut status)
