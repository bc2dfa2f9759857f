-- Where no passes are to be told there is nothing to tell.
use Rattle.std.proofs.Common.{◌≡◌, List, [], ◌∷◌, length}
use Rattle.std.specs.Prelude.{IsTrue}
use Rattle.std.proofs.Math.Nat.{suc-ne-zero}
use Rattle.program_code.specs.declared.program.Program.{Program}
use Rattle.program_search.specs.declared.outlooks.Aims.{Aims}
use Rattle.program_search.specs.declared.outlooks.SectionPasses.{SectionPasses}
use Rattle.program_search.specs.Outlooks.{ArePassesOfAll}
use Rattle.explorer_commands.specs.ProgramCommands.{IsAlive}

none_told : (p : Program) (all : List SectionPasses) → length all ≡ 0 → ArePassesOfAll p all → ArePassesOfAll p []
none_told p [] e passes = passes
none_told p (one ∷ rest) e passes = absurd (suc-ne-zero (length rest) e)

pub nothing_told : (p : Program) (aims : Aims) (all : List SectionPasses) → (IsTrue aims.passes → length all ≡ 0)
    → IsAlive p aims all → IsAlive p aims []
nothing_told p aims all none alive = (alive.0, alive.1, alive.2, λ asked. none_told p all (none asked) (alive.3 asked))
