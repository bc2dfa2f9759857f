-- What a command on the text of a lock program replies.
use Rattle.std.specs.Prelude.{⊤, ◌≡◌, ℕ, ◌<◌, ◌≤◌, ◌⊎◌, List, [], ◌++◌, Option, Some, None, IsTrue, length, codes}
use Rattle.search.specs.declared.found_in_all.FoundInAll.{FoundInAll}
use Rattle.search.specs.declared.found_in_all.FoundInAll.TheVariants as finds
use Rattle.scenario_text.specs.ScheduleText.{SpellsSeats}
use Rattle.explorer_answers.specs.declared.exit.Exit.{Exit}
use Rattle.explorer_answers.specs.declared.exit.Exit.TheVariants.{NothingBad, BadFound}
use Rattle.explorer_answers.specs.declared.exit.Exit.TheVariants as exits
use Rattle.explorer_answers.specs.CheckText.{none_text, gave_up_text}
use Rattle.explorer_answers.specs.CheckText.{found_in_all_exit, found_in_all_schedule}
use Rattle.explorer_answers.specs.FoundText.{seats_text}
use Rattle.explorer_answers.specs.InputText.{Refuses}
use Rattle.program_code.specs.declared.program.Program.{Program}
use Rattle.explorer_commands.specs.RoundText.{SpellsRound}
use Rattle.explorer_commands.specs.declared.on_program.command.ProgramCommand.{ProgramCommand}
use Rattle.explorer_commands.specs.declared.on_program.command.ProgramCommand.TheVariants.{Try, Retrace}
use Rattle.explorer_commands.specs.declared.on_program.reading.Unread.{Unread}
use Rattle.explorer_commands.specs.declared.on_program.reading.Unread.TheVariants as unread
use Rattle.explorer_commands.specs.declared.on_program.refusal.ProgramRefusal.{ProgramRefusal}
use Rattle.explorer_commands.specs.declared.on_program.refusal.ProgramRefusal.TheVariants.{TooLong, Faulty, Schedule}
use Rattle.program_text.specs.declared.cause.ProgramCause.{ProgramCause}
use Rattle.program_text.specs.declared.cause.ProgramCause.TheVariants.{NoMemory as MemoryCause}
use Rattle.program_text.specs.declared.fault.ProgramFault.{ProgramFault}
use Rattle.program.specs.declared.named_program.NamedProgram.{NamedProgram}
use Rattle.program.specs.declared.names.DeclaredNames.{DeclaredNames}
use Rattle.program_text.specs.FaultTexts.{fault_text}
use Rattle.program.specs.Text.{IsFaultOf, IsProgramOf}
use Rattle.program_retrace.specs.declared.retold.Ending.{Ending}
use Rattle.program_retrace.specs.declared.retold.Ending.TheVariants.{World, Refused}
use Rattle.program_retrace.specs.Ends.{EndsBy}
use Rattle.liveness.specs.declared.dead_end.FirstDeadEnd.{FirstDeadEnd}
use Rattle.liveness.specs.declared.starving.FirstStarving.{FirstStarving}
use Rattle.liveness.specs.DeadEndText.{dead_end_text}
use Rattle.program_search.specs.declared.broken_lines.BrokenLine.{BrokenLine}
use Rattle.program_search.specs.BrokenLines.{NeverBroken}
use Rattle.program_search.specs.DeadEnds.{NeverDeadEnds}
use Rattle.program_search.specs.declared.outlooks.Aims.{Aims}
use Rattle.program_search.specs.declared.outlooks.Outlook.{Outlook}
use Rattle.program_search.specs.declared.outlooks.Outlook.TheVariants.{DeadEnd, Starving, Broken, Alive}
use Rattle.program_search.specs.declared.outlooks.SectionPasses.{SectionPasses}
use Rattle.program_search.specs.Outlooks.{ArePassesOfAll, IsOutlook}
use Rattle.program_search.specs.StarvedSchedules.{NeverStarves}
use Rattle.program_search.specs.StarvedBy.{IsStarvedBy}
use Rattle.program_search.specs.Tried.{IsTried}
use Rattle.explorer_commands.specs.OutlookTexts.{told_bad, broken_text, round_text, starved_text, sections_text}
use Rattle.program_steps.specs.declared.bad_kind.BadKind.{BadKind}
use Rattle.program_steps.specs.KindText.{kind_text}

-- ---- what is read

-- the text says this program, whose parts have these names
abbrev pub IsRead : List ℕ → DeclaredNames → Program → Type 0
IsRead text names program =
    (named : NamedProgram) × IsProgramOf text named × (names ≡ named.names) × (program ≡ named.program)

abbrev pub program_refusal_text : ProgramRefusal → List ℕ
program_refusal_text TooLong = codes "too long"
program_refusal_text (Faulty fault) = fault_text fault
program_refusal_text Schedule = codes "schedule"

abbrev unread_for : ProgramFault → ProgramCause → Unread
unread_for fault MemoryCause = unread.NoMemory
unread_for fault cause = unread.Refused (Faulty fault)

-- a fault of the text; want of memory is told without a line
abbrev pub unread_of : ProgramFault → Unread
unread_of fault = unread_for fault fault.cause

-- why an input is refused: it is too long, or its text has this fault. A schedule is no part of it
abbrev pub IsProgramRefusedFor : List ℕ → ProgramRefusal → Type 0
IsProgramRefusedFor input TooLong = 65536 < length input
IsProgramRefusedFor input (Faulty fault) = (length input ≤ 65536) × IsFaultOf input fault
IsProgramRefusedFor input Schedule = ⊥

-- why it wasn't read: it is refused, or memory was short, as it may be for any
abbrev pub IsUnread : List ℕ → Unread → Type 0
IsUnread input (unread.Refused refusal) = IsProgramRefusedFor input refusal
IsUnread input unread.NoMemory = ⊤

-- ---- a search

-- how many worlds are reached, where all are
abbrev pub worlds_of : FoundInAll BadKind → Option ℕ
worlds_of (finds.Bad schedule kind) = None
worlds_of (finds.None worlds deepest) = Some worlds
worlds_of (finds.GaveUp complete) = None

-- how it is bad, which has this text, and the schedule that leads there
abbrev pub bad_text : List ℕ → List ℕ → List ℕ
bad_text schedule kind = told_bad kind (seats_text schedule)

-- what is found, where so many worlds may be kept at most, and so many are reached
abbrev pub tried_text : ℕ → Option ℕ → FoundInAll BadKind → List ℕ
tried_text most worlds (finds.Bad schedule kind) = bad_text schedule.items (kind_text kind)
tried_text most worlds (finds.None all deepest) = none_text worlds deepest
tried_text most worlds (finds.GaveUp complete) = gave_up_text most complete

-- nothing bad was found
abbrev pub IsNone : FoundInAll BadKind → Type 0
IsNone (finds.Bad schedule kind) = ⊥
IsNone (finds.None worlds deepest) = ⊤
IsNone (finds.GaveUp complete) = ⊥

-- there is nothing of what is asked for, and this is told of how often seats are passed
abbrev pub IsAlive : Program → Aims → List SectionPasses → Type 0
IsAlive program aims all = NeverDeadEnds program aims.dead_ends × (IsTrue aims.starved → NeverStarves program)
    × NeverBroken program × (IsTrue aims.passes → ArePassesOfAll program all)

-- where nothing bad was found there is nothing of what is asked for either, nor is any section
abbrev pub IsNothing : Program → Aims → FoundInAll BadKind → Type 0
IsNothing program aims found = IsNone found → IsAlive program aims []

-- passes are told where they are asked for, and of some section
abbrev IsToBeTold : Aims → Outlook → Type 0
IsToBeTold aims (DeadEnd dead) = ⊤
IsToBeTold aims (Starving starving) = ⊤
IsToBeTold aims (Broken broken) = ⊤
IsToBeTold aims (Alive all) = IsTrue aims.passes × (0 < length all.items)

-- or this is there, which is to be told
abbrev pub IsSeen : Program → Aims → FoundInAll BadKind → Outlook → Type 0
IsSeen program aims found seen = IsNone found × IsOutlook program aims seen × IsToBeTold aims seen

-- what is replied to a program: what is found in all schedules, among so many worlds at most, and behind a
-- schedule that is found what it does; of that text nothing is said
pub record RepliesTried (most : ℕ) (aims : Aims) (program : Program) (text : List ℕ) (exit : Exit) : Type 0 where
  pub found : FoundInAll BadKind
  pub right : IsTried program most found
  pub alive : IsNothing program aims found
  pub behind : List ℕ
  pub alone : found_in_all_schedule found ≡ None → behind ≡ []
  pub told : text ≡ tried_text most (worlds_of found) found ++ behind
  pub exit_is : exit ≡ found_in_all_exit found

-- or the first dead end, where nothing is bad
pub record RepliesDeadEnd (most : ℕ) (aims : Aims) (program : Program) (text : List ℕ) (exit : Exit) : Type 0 where
  pub found : FoundInAll BadKind
  pub right : IsTried program most found
  pub dead : FirstDeadEnd
  pub first : IsSeen program aims found (DeadEnd dead)
  pub behind : List ℕ
  pub told : text ≡ bad_text dead.schedule.items (dead_end_text dead.kind) ++ behind
  pub exit_is : exit ≡ BadFound

-- or the first round that passes a seat over, where there is no dead end either
pub record RepliesStarving (most : ℕ) (aims : Aims) (program : Program) (text : List ℕ) (exit : Exit) : Type 0 where
  pub found : FoundInAll BadKind
  pub right : IsTried program most found
  pub starving : FirstStarving
  pub first : IsSeen program aims found (Starving starving)
  pub behind : List ℕ
  pub told : text ≡ told_bad (starved_text starving.seat) (round_text starving.schedule.items starving.round.items) ++ behind
  pub exit_is : exit ≡ BadFound

-- or the first line `passed` that is broken, where nobody starves either
pub record RepliesBroken (most : ℕ) (aims : Aims) (program : Program) (text : List ℕ) (exit : Exit) : Type 0 where
  pub found : FoundInAll BadKind
  pub right : IsTried program most found
  pub broken : BrokenLine
  pub first : IsSeen program aims found (Broken broken)
  pub behind : List ℕ
  pub told : text ≡ bad_text broken.schedule.items (broken_text broken.line) ++ behind
  pub exit_is : exit ≡ BadFound

-- or how often seats are passed for each section that is asked for, if one is, where there is nothing of these
pub record RepliesPasses (most : ℕ) (aims : Aims) (names : DeclaredNames) (program : Program) (text : List ℕ) (exit : Exit)
    : Type 0 where
  pub found : FoundInAll BadKind
  pub right : IsTried program most found
  pub all : List SectionPasses
  pub none : IsNone found
  pub asked : IsTrue aims.passes
  pub some : 0 < length all
  pub alive : IsAlive program aims all
  pub told : text ≡ sections_text names.sections all
  pub exit_is : exit ≡ NothingBad

abbrev pub RepliesToTry : ℕ → Aims → DeclaredNames → Program → List ℕ → Exit → Type 0
RepliesToTry most aims names program text exit =
    RepliesTried most aims program text exit ⊎ RepliesDeadEnd most aims program text exit
    ⊎ RepliesStarving most aims program text exit ⊎ RepliesBroken most aims program text exit
    ⊎ RepliesPasses most aims names program text exit

-- ---- what a schedule does

-- how the command ends: with the verdict of the world, or since a step is refused
abbrev exit_of_verdict : Option BadKind → Exit
exit_of_verdict None = NothingBad
exit_of_verdict (Some kind) = BadFound

abbrev pub exit_of : Ending → Exit
exit_of (World verdict) = exit_of_verdict verdict
exit_of (Refused cause) = exits.Refused

-- how it ends with a round behind the schedule: a seat starves by it, or none does
abbrev pub exit_of_starved : Option ℕ → Exit
exit_of_starved None = NothingBad
exit_of_starved (Some seat) = BadFound

-- where both can be run it ends with whom the round passes over, and else since a step is refused
abbrev pub IsExitOfRound : Program → List ℕ → List ℕ → Exit → Ending → Type 0
IsExitOfRound program schedule round exit (World verdict) =
    (starved : Option ℕ) × IsStarvedBy program schedule round starved × (exit ≡ exit_of_starved starved)
IsExitOfRound program schedule round exit (Refused cause) = exit ≡ exits.Refused

-- what is replied to a text that spells no schedule, with or without a round behind it
abbrev pub RepliesNoSchedule : List ℕ → List ℕ → Exit → Type 0
RepliesNoSchedule spelled text exit =
    ((schedule : List ℕ) → SpellsSeats spelled schedule → ⊥)
    × ((schedule round : List ℕ) → SpellsRound spelled schedule round → ⊥)
    × Refuses (codes "schedule") text exit

-- to the text of a schedule: how it ends
abbrev pub RepliesSchedule : List ℕ → Program → Exit → Type 0
RepliesSchedule spelled program exit =
    (schedule : List ℕ) × SpellsSeats spelled schedule
    × (ending : Ending) × EndsBy program schedule ending × (exit ≡ exit_of ending)

-- and to that of a schedule with a round behind it: how both end, one behind the other
abbrev pub RepliesRound : List ℕ → Program → Exit → Type 0
RepliesRound spelled program exit =
    (schedule : List ℕ) × (round : List ℕ) × SpellsRound spelled schedule round
    × (ending : Ending) × EndsBy program (schedule ++ round) ending
    × IsExitOfRound program schedule round exit ending

-- what is replied to a program and the text of a schedule, of however many steps: that it is none, or how it
-- ends; of the text that tells what it does nothing is said
abbrev pub RepliesRetraced : List ℕ → Program → List ℕ → Exit → Type 0
RepliesRetraced spelled program text exit =
    RepliesNoSchedule spelled text exit ⊎ RepliesSchedule spelled program exit ⊎ RepliesRound spelled program exit

-- ---- the whole

-- what the command replies to a program, whose parts have these names
abbrev pub RepliesToProgram : ProgramCommand → DeclaredNames → Program → List ℕ → Exit → Type 0
RepliesToProgram (Try worlds aims layout counted live) names program text exit = RepliesToTry worlds aims names program text exit
RepliesToProgram (Retrace spelled layout) names program text exit = RepliesRetraced spelled.now program text exit

-- what it replies to a text: its fault, or what it replies to its program
abbrev pub RepliesToProgramText : ProgramCommand → List ℕ → List ℕ → Exit → Type 0
RepliesToProgramText command input text exit =
    ((fault : ProgramFault) × IsFaultOf input fault × Refuses (fault_text fault) text exit)
    ⊎ ((names : DeclaredNames) × (program : Program) × IsRead input names program × RepliesToProgram command names program text exit)

-- what it replies to an input: that it is longer than a text may be, or what it replies to the text
abbrev pub RepliesOnProgram : ProgramCommand → List ℕ → List ℕ → Exit → Type 0
RepliesOnProgram command input text exit =
    ((65536 < length input) × Refuses (codes "too long") text exit)
    ⊎ ((length input ≤ 65536) × RepliesToProgramText command input text exit)
