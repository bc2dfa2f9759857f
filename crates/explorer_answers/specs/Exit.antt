-- The statuses of the program.
use Rattle.std.specs.Prelude.{ℕ}
use Rattle.explorer_answers.specs.declared.exit.Exit.{Exit}
use Rattle.explorer_answers.specs.declared.exit.Exit.TheVariants.{NothingBad, BadFound, Refused, GaveUp}

abbrev pub status_of : Exit → ℕ
status_of NothingBad = 0
status_of BadFound = 1
status_of Refused = 2
status_of GaveUp = 3
