-- What `once` answers.
use Rattle.std.specs.Prelude.{◌≡◌, ◌⊎◌, ℕ, List}
use Rattle.explorer_answers.specs.declared.exit.Exit.{Exit}
use Rattle.explorer_answers.specs.declared.exit.Exit.TheVariants.{NothingBad}
use Rattle.explorer_answers.specs.Told.{WantsMemory}
use Rattle.sema_table.specs.Seats.{TableModel, SeatModel}
use Rattle.explorer_commands.specs.declared.once_answers.OnceAnswers.{OnceAnswers}
use Rattle.explorer_commands.specs.Answer.{once_lines}
use Rattle.explorer_commands.specs.Once.{IsOnceTable, IsOnceRun}

-- the text is a line for each call of a run by the two seats of such a table
pub record IsOnceText (text : List ℕ) : Type 0 where
  pub table : TableModel
  pub first : SeatModel
  pub second : SeatModel
  pub answers : OnceAnswers
  pub made : IsOnceTable table first second
  pub ran : IsOnceRun first second answers
  pub told : text ≡ once_lines answers

-- the text and the exit are an answer of `once`: such a text, and nothing bad, or that memory was short
abbrev pub IsOnceAnswer : List ℕ → Exit → Type 0
IsOnceAnswer text exit = (IsOnceText text × (exit ≡ NothingBad)) ⊎ WantsMemory text exit
