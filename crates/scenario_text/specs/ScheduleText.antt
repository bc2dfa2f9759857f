-- The text of a schedule: the numbers of its seats, one space apart.
use Rattle.std.specs.Prelude.{◌≡◌, ℕ, ◌<◌, ◌≤◌, List, [], ◌∷◌, ◌++◌, length}
use Rattle.std.specs.List.{AllByRecursion}
use Rattle.std.specs.Fmt.{decimal}

abbrev pub schedule_text : List ℕ → List ℕ
schedule_text [] = []
schedule_text (seat ∷ []) = decimal seat
schedule_text (seat ∷ next ∷ more) = decimal seat ++ (32 ∷ schedule_text (next ∷ more))

-- a number of one or two digits
abbrev pub IsShortNumber : ℕ → Type 0
IsShortNumber seat = seat < 100

-- seats with numbers of one or two digits, however many, and the text is theirs
pub record SpellsSeats (text seats : List ℕ) : Type 0 where
  pub short : AllByRecursion IsShortNumber seats
  pub spelled : text ≡ schedule_text seats

-- at most 256 seats with numbers of one or two digits, and the text is theirs
pub record IsSchedule (text schedule : List ℕ) : Type 0 where
  pub few : length schedule ≤ 256
  pub short : AllByRecursion IsShortNumber schedule
  pub spelled : text ≡ schedule_text schedule
