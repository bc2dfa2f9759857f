-- What holds after a try, by what it came to.
use Rattle.sema_table.specs.declared.answers.Tried.{Tried}
use Rattle.sema_table.specs.declared.answers.Tried.TheVariants.{Taken, Zero, Lost}

abbrev pub MatchTried : Tried → Type 0 → Type 0 → Type 0 → Type 0
MatchTried Taken taken zero lost = taken
MatchTried Zero taken zero lost = zero
MatchTried Lost taken zero lost = lost

-- what a lost try tells besides
abbrev pub IfLost : Tried → Type 0 → Type 0
IfLost Lost lost = lost
IfLost _ lost = Unit {0}
