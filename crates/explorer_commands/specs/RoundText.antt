-- The text of a schedule with a round behind it: the seats of the schedule, a space behind them if there are any, and
-- those of the round in parentheses.
use Rattle.std.specs.Prelude.{◌≡◌, ◌≢◌, ◌<◌, ℕ, List, [], ◌∷◌, ◌++◌, length}
use Rattle.std.specs.List.{AllByRecursion}
use Rattle.scenario_text.specs.ScheduleText.{SpellsSeats}

-- with a space behind it, if there is any
abbrev pub spaced : List ℕ → List ℕ
spaced [] = []
spaced (c ∷ text) = (c ∷ text) ++ 32 ∷ []

-- both texts, as they stand behind one another
abbrev pub in_parentheses : List ℕ → List ℕ → List ℕ
in_parentheses before inner = before ++ 40 ∷ (inner ++ 41 ∷ [])

abbrev pub with_round : List ℕ → List ℕ → List ℕ
with_round front inner = in_parentheses (spaced front) inner

-- no parenthesis opens in it
abbrev pub IsFree : List ℕ → Type 0
IsFree text = AllByRecursion (λ c. c ≢ 40) text

-- the text is that of this schedule and this round, which has a step
pub record SpellsRound (text schedule round : List ℕ) : Type 0 where
  pub front : List ℕ
  pub inner : List ℕ
  pub schedule_is : SpellsSeats front schedule
  pub round_is : SpellsSeats inner round
  pub some : 0 < length round
  pub spelled : text ≡ with_round front inner
