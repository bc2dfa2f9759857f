-- What the refusals of `run_threads` print, and what `threads` answers.
use Rattle.std.specs.Prelude.{◌≡◌, ◌⊎◌, ℕ, List, ◌*◌, ◌++◌, slice_index, codes}
use Rattle.std.specs.Fmt.{decimal}
use Rattle.explorer_answers.specs.declared.exit.Exit.{Exit}
use Rattle.explorer_answers.specs.declared.exit.Exit.TheVariants.{NothingBad}
use Rattle.explorer_answers.specs.Line.{line}
use Rattle.explorer_answers.specs.Told.{WantsMemory}
use Rattle.sema_table.specs.Closing.{ClosedModel}
use Rattle.explorer_commands.specs.Threads.{IsThreadsRun}
use Rattle.explorer_commands.specs.declared.threads.ThreadsRefused.{ThreadsRefused}
use Rattle.explorer_commands.specs.declared.threads.ThreadsRefused.TheVariants.{OutOfLimits, NoMemory}

abbrev pub threads_refused_text : ThreadsRefused → List ℕ
threads_refused_text OutOfLimits = codes "out of limits"
threads_refused_text NoMemory = codes "no memory"

-- how many units were added, how many were given, and how many are left on the counter, a line each
abbrev pub threads_lines : ℕ → ℕ → ℕ → List ℕ
threads_lines releases acquires value =
    line (codes "releases " ++ decimal releases) ++ line (codes "acquires " ++ decimal acquires)
    ++ line (codes "value " ++ decimal value)

-- the text is the lines of a table that was closed after such a run: a unit added and a unit given for each
-- worker and round, and none left
pub record TellsRun (workers rounds : ℕ) (text : List ℕ) : Type 0 where
  pub closed : ClosedModel
  pub ran : IsThreadsRun workers rounds closed
  pub told : text ≡ threads_lines closed.releases closed.acquires (slice_index closed.values 0)
  pub sums : text ≡ threads_lines (workers * rounds) (workers * rounds) 0

-- the text and the exit are an answer of `threads`: what was counted, and nothing bad, or that memory was
-- short
abbrev pub IsThreadsAnswer : ℕ → ℕ → List ℕ → Exit → Type 0
IsThreadsAnswer workers rounds text exit =
    (TellsRun workers rounds text × (exit ≡ NothingBad)) ⊎ WantsMemory text exit
