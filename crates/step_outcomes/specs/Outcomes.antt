-- What a row of the semaphores does, and on which words.
use Rattle.std.specs.Prelude.{◌≡◌, ℕ, ◌<◌, Option, MatchOption, IsTrue}
use Rattle.step_table.specs.declared.entry.Entry.TheVariants.{Queue, Leave, Withdraw}
use Rattle.step_table.specs.declared.effect.Effect.{Effect}
use Rattle.step_table.specs.declared.effect.Effect.TheVariants.{Tells}
use Rattle.step_table.specs.declared.word.Word.{Word}
use Rattle.step_table.specs.declared.word.Word.TheVariants.{Counter, Lock, Waiters, Grant}
use Rattle.step_table.specs.Event.{Event}
use Rattle.step_outcomes.specs.declared.outcome.Outcome.{Outcome}

-- the outcome is what the event says of the number that was found
pub record IsOutcome (e : Event) (n : ℕ) (o : Outcome) : Type 0 where
  pub can : IsTrue (e.can n)
  pub becomes : o.becomes ≡ e.becomes n
  pub place : o.place ≡ (e.leads n).0
  pub effect : o.effect ≡ (e.leads n).1

abbrev pub Does : Event → ℕ → Option Outcome → Type 0
Does e n r = MatchOption r (IsTrue (e.can n) → ⊥) (IsOutcome e n)

-- the word is of one of so many counters, or of one of so many seats
abbrev pub IsWordWithin : ℕ → ℕ → Word → Type 0
IsWordWithin counters seats (Counter c) = c < counters
IsWordWithin counters seats (Lock c) = c < counters
IsWordWithin counters seats (Waiters c) = c < counters
IsWordWithin counters seats (Grant s) = s < seats

-- the counter of a place, and the list that an effect changes, are among so many
abbrev pub HasRoom : ℕ → Effect → Type 0
HasRoom counters (Tells (Queue c w lifo)) = c < counters
HasRoom counters (Tells (Leave c w s)) = c < counters
HasRoom counters (Tells (Withdraw c w)) = c < counters
HasRoom counters _ = Unit {0}
