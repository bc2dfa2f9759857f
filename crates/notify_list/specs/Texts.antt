-- What the refusals print.
use Rattle.std.specs.Prelude.{ℕ, List, codes}
use Rattle.notify_list.specs.declared.setup_error.SetupError.{SetupError}
use Rattle.notify_list.specs.declared.setup_error.SetupError.TheVariants.{Seats, NoMemory}

abbrev pub setup_error_text : SetupError → List ℕ
setup_error_text Seats = codes "seats"
setup_error_text NoMemory = codes "no memory"
