-- What a command that reads a text replies, whichever kind of text.
use Rattle.std.specs.Prelude.{◌≡◌, ◌≤◌, ◌⊎◌, List, ℕ, Option, Some, None}
use Rattle.explorer_answers.specs.declared.exit.Exit.{Exit}
use Rattle.explorer_answers.specs.InputText.{IsInput}
use Rattle.explorer_answers.specs.Told.{WantsMemory}
use Rattle.explorer_commands.specs.declared.command.Command.{Command}
use Rattle.explorer_commands.specs.declared.command.Command.TheVariants.{OnScenario, OnProgram}
use Rattle.explorer_commands.specs.declared.on_program.command.ProgramCommand.TheVariants.{Try}
use Rattle.explorer_commands.specs.declared.on_scenario.command.ScenarioCommand.TheVariants.{Explore, Check}
use Rattle.explorer_commands.specs.ScenarioCommands.{IsWithinDepth, RepliesOnScenario}
use Rattle.explorer_commands.specs.ProgramCommands.{RepliesOnProgram}

-- a search of a scenario that has a depth goes to 64 at most
abbrev pub IsWithinBounds : Command → Type 0
IsWithinBounds (OnScenario command) = IsWithinDepth command
IsWithinBounds (OnProgram command) = Unit {0}

-- how many worlds its search may keep, where it searches
abbrev pub kept_by : Command → Option ℕ
kept_by (OnScenario (Explore bounds table extras)) = Some bounds.worlds
kept_by (OnScenario (Check worlds every extras)) = Some worlds
kept_by (OnProgram (Try worlds aims layout counted live)) = Some worlds
kept_by _ = None

-- what it replies to an input; what is told beside the answer to a lock program is free
abbrev pub RepliesTo : Command → List ℕ → List ℕ → Exit → Option (List ℕ) → Type 0
RepliesTo (OnScenario command) input text exit aside = RepliesOnScenario command input text exit aside
RepliesTo (OnProgram command) input text exit aside = RepliesOnProgram command input text exit

-- the text and the exit are what it answers to the input, want of memory aside
abbrev pub IsAnswerOf : Command → List ℕ → List ℕ → Exit → Type 0
IsAnswerOf command input text exit = (aside : Option (List ℕ)) × RepliesTo command input text exit aside

-- of a source with these bytes before and after: the text, the exit and what is told beside reply to what was
-- read; or memory was short, and that is told alone
abbrev pub IsReplyOf : Command → Option (List ℕ) → Option (List ℕ) → Option (List ℕ) → List ℕ → Exit → Type 0
IsReplyOf command old new aside text exit =
    ((input : List ℕ) × IsInput old new input × RepliesTo command input text exit aside)
    ⊎ (WantsMemory text exit × (aside ≡ None))
