-- What the refusals and the answers print.
use Rattle.std.specs.Prelude.{ℕ, List, ◌∷◌, ◌++◌, codes}
use Rattle.std.specs.Fmt.{decimal}
use Rattle.waiters.specs.declared.wait.WaitId.{WaitId}
use Rattle.sema_table.specs.declared.setup_error.SetupError.{SetupError}
use Rattle.sema_table.specs.declared.setup_error.SetupError.TheVariants.{Counters, Seats, Roots, ReleaseLimit}
use Rattle.sema_table.specs.declared.setup_error.SetupError.TheVariants.{NoMemory}
use Rattle.sema_table.specs.declared.answers.Tried.{Tried}
use Rattle.sema_table.specs.declared.answers.Tried.TheVariants.{Taken, Zero, Lost}
use Rattle.sema_table.specs.declared.answers.Wake.{Wake}
use Rattle.sema_table.specs.declared.answers.Wake.TheVariants.{Nobody, One, Handed}

abbrev pub setup_error_text : SetupError → List ℕ
setup_error_text Counters = codes "counters"
setup_error_text Seats = codes "seats"
setup_error_text Roots = codes "roots"
setup_error_text ReleaseLimit = codes "release limit"
setup_error_text NoMemory = codes "no memory"

abbrev pub tried_text : Tried → List ℕ
tried_text Taken = codes "Taken"
tried_text Zero = codes "Zero"
tried_text Lost = codes "Lost"

-- a wait's seat, a dot and its turn
abbrev pub wait_text : WaitId → List ℕ
wait_text wait = decimal wait.seat ++ 46 ∷ decimal wait.turn

abbrev pub wake_text : Wake → List ℕ
wake_text Nobody = codes "Nobody"
wake_text (One wait) = codes "One " ++ wait_text wait
wake_text (Handed wait) = codes "Handed " ++ wait_text wait
