-- Turns of seats, each at a row of a table whose rows are events, and the worlds to which they lead.
use Rattle.std.specs.Prelude.{◌≡◌, ℕ, ◌<◌, Bool, IsTrue}
use Rattle.step_table.specs.EventOf.{EventOf}

-- the event of each seat's row, what is found in each word, and the world after seat i wrote this there and
-- went on so
pub record Rules (World Word Value Next : Type 0) : Type 0 where
  pub event_of : World → ℕ → EventOf Word Value Next
  pub found : World → Word → Value
  pub after : World → ℕ → Word → Value → Next → World

-- what the row of seat i finds
abbrev pub finds : {World Word Value Next : Type 0} → Rules World Word Value Next → World → ℕ → Value
finds rules s i = rules.found s (rules.event_of s i).word

-- whether seat i can run its row
abbrev pub can_turn : {World Word Value Next : Type 0} → Rules World Word Value Next → World → ℕ → Bool
can_turn rules s i = (rules.event_of s i).can (finds rules s i)

-- the world after the row of seat i
abbrev pub turned : {World Word Value Next : Type 0} → Rules World Word Value Next → World → ℕ → World
turned rules s i =
    rules.after s i (rules.event_of s i).word ((rules.event_of s i).becomes (finds rules s i))
    ((rules.event_of s i).leads (finds rules s i))

-- seat i runs its row
pub record TurnOf {World Word Value Next : Type 0} (rules : Rules World Word Value Next) (s : World) (i : ℕ)
    (t : World) : Type 0 where
  pub can : IsTrue (can_turn rules s i)
  pub is : t ≡ turned rules s i

-- the worlds to which steps of the seats below `seats` lead from s
pub data LeadsBy {World : Type 0} (Step : World → ℕ → World → Type 0) (seats : ℕ) (s : World) : World
    → Type 0 where
  none : LeadsBy Step seats s s
  more : {t u : World} (i : ℕ) → i < seats → LeadsBy Step seats s t → Step t i u → LeadsBy Step seats s u

-- no seat can run a row
abbrev pub IsEndOf : {World Word Value Next : Type 0} → Rules World Word Value Next → ℕ → World → Type 0
IsEndOf rules seats s = (i : ℕ) → i < seats → IsTrue (can_turn rules s i) → ⊥
