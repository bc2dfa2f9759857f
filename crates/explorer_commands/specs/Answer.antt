-- The lines of `parklot once`.
use Rattle.std.specs.Prelude.{ℕ, List, [], ◌++◌, Option, Some, None, codes}
use Rattle.sema_table.specs.Texts.{tried_text, wake_text}
use Rattle.explorer_answers.specs.Line.{line}
use Rattle.explorer_commands.specs.declared.once_answers.Released.{Released}
use Rattle.explorer_commands.specs.declared.once_answers.Released.TheVariants.{Done, Owed}
use Rattle.explorer_commands.specs.declared.once_answers.OnceRetried.{OnceRetried}
use Rattle.explorer_commands.specs.declared.once_answers.OnceRetried.TheVariants.{Taken, Asleep}
use Rattle.explorer_commands.specs.declared.once_answers.OnceAnswers.{OnceAnswers}
use Rattle.explorer_commands.specs.declared.once_answers.OnceAnswers.TheVariants.{Tried, Entered, Slept}

-- the post, and where that owed a look for a wait, the wake
abbrev pub released_lines : Released → List ℕ
released_lines Done = line (codes "seat 1 post: Done")
released_lines (Owed wake) =
    line (codes "seat 1 post: Owes") ++ line (codes "seat 1 wake: " ++ wake_text wake)

abbrev pub retried_text : OnceRetried → List ℕ
retried_text Taken = codes "Taken"
retried_text Asleep = codes "Asleep"

-- the retry, if it was made
abbrev pub retried_lines : Option OnceRetried → List ℕ
retried_lines None = []
retried_lines (Some retried) = line (codes "seat 0 retry: " ++ retried_text retried)

-- a line for each call that was made
abbrev pub once_lines : OnceAnswers → List ℕ
once_lines (Tried tried) = line (codes "seat 0 try: " ++ tried_text tried)
once_lines Entered = line (codes "seat 0 try: Zero") ++ line (codes "seat 0 enter: Taken")
once_lines (Slept released retried) =
    line (codes "seat 0 try: Zero") ++ line (codes "seat 0 enter: Asleep") ++ released_lines released
    ++ retried_lines retried
