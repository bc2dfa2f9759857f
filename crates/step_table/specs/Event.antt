-- Events of the semaphores.
use Rattle.std.specs.Prelude.{ℕ, zero, suc, List, [], ◌∷◌}
use Rattle.waiters.specs.declared.wait.WaitId.{WaitId}
use Rattle.step_table.specs.declared.effect.Effect.{Effect}
use Rattle.step_table.specs.declared.effect.Effect.TheVariants.{Nothing}
use Rattle.step_table.specs.declared.place.Place.{Place}
use Rattle.step_table.specs.declared.word.Word.{Word}
use Rattle.step_table.specs.EventOf.{EventOf}

-- where the seat goes, and the effect
abbrev pub Next : Type 0
Next = Place × Effect

abbrev pub Event : Type 0
Event = EventOf Word ℕ Next

-- it goes there, and nothing else
abbrev pub to : Place → Next
to place = (place, Nothing)

-- 0 leads to one place, another number to a place that is told what would be left of it
abbrev pub zero_or : Place → (ℕ → Place) → ℕ → Place
zero_or at_zero above zero = at_zero
zero_or at_zero above (suc left) = above left

-- the first of a list of waits, or what stands for none
abbrev pub by_first : {A : Type 0} → List WaitId → A → (WaitId → A) → A
by_first [] none some = none
by_first (w ∷ l) none some = some w

-- the seat whose wait is the first in hand; without one, the seat itself
abbrev pub waiter : ℕ → List WaitId → ℕ
waiter s [] = s
waiter s (w ∷ l) = w.seat
