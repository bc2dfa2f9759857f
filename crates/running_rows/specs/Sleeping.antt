-- What sleeping asks for.
use Rattle.std.specs.Prelude.{ℕ, ◌<◌, ◌≤◌, ◌^◌}
use Rattle.running_rows.specs.declared.sleeping.Patience.{Patience}
use Rattle.running_rows.specs.declared.sleeping.GivesWay.{GivesWay}
use Rattle.running_rows.specs.declared.sleeping.GivesWay.TheVariants.{Never, Crowded}

-- the words are there that it looks at
abbrev pub AreThere : ℕ → GivesWay → Type 0
AreThere words Never = Unit {0}
AreThere words (Crowded ahead behind) = (ahead < words) × (behind < words)

-- nobody looks for longer
abbrev pub IsShort : Patience → Type 0
IsShort p = (p.rounds ≤ 16) × (p.looks ≤ 2 ^ 12)
