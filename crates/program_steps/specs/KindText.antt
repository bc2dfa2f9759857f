-- What the ways in which a world is bad print.
use Rattle.std.specs.Prelude.{ℕ, List, ◌++◌, codes}
use Rattle.std.specs.Fmt.{decimal}
use Rattle.program_steps.specs.declared.bad_kind.BadKind.{BadKind}
use Rattle.program_steps.specs.declared.bad_kind.BadKind.TheVariants.{Failed, Crowded, Together, Stuck, Final}

abbrev pub kind_text : BadKind → List ℕ
kind_text (Failed line) = codes "failed, line " ++ decimal line
kind_text (Crowded line) = codes "crowded, line " ++ decimal line
kind_text (Together line) = codes "together, line " ++ decimal line
kind_text Stuck = codes "stuck"
kind_text (Final line) = codes "final, line " ++ decimal line
