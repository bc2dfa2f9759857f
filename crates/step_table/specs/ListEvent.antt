-- Events of a notify list.
use Rattle.std.specs.Prelude.{ℕ, true, List, [], ◌∷◌, Option, Some, None}
use Rattle.waiters.specs.declared.wait.Wait.{Wait}
use Rattle.step_table.specs.declared.list_place.ListEffect.{ListEffect}
use Rattle.step_table.specs.declared.list_place.ListEffect.TheVariants.{Nothing, HandsOut}
use Rattle.step_table.specs.declared.list_place.ListPlace.{ListPlace}
use Rattle.step_table.specs.declared.list_place.ListPlace.TheVariants.{Rest}
use Rattle.step_table.specs.declared.list_place.ListWord.{ListWord}
use Rattle.step_table.specs.declared.list_place.ListWord.TheVariants.{Wait as WaitWord}
use Rattle.step_table.specs.EventOf.{EventOf}
use Rattle.step_table.specs.Wrapping.{next_word}

-- where the seat goes, and the effect
abbrev pub ListNext : Type 0
ListNext = ListPlace × ListEffect

abbrev pub ListEvent : Type 0
ListEvent = EventOf ListWord ℕ ListNext

-- it goes there, and nothing else
abbrev pub to : ListPlace → ListNext
to place = (place, Nothing)

-- the word that was found is that of the ticket, which has this number
abbrev pub take_ticket : ℕ → ListEvent
take_ticket number =
    record {
      word = WaitWord;
      can = λ v. true;
      becomes = next_word;
      leads = λ v. (Rest, HandsOut (record { word = v; number = number }));
    }

-- what stands for no wait, or what is told the wait
abbrev pub by_found : {A : Type 0} → Option Wait → A → (Wait → A) → A
by_found None none some = none
by_found (Some w) none some = some w

-- what stands for an empty list, or for one with waits
abbrev pub if_any : {A : Type 0} → List Wait → A → A → A
if_any [] some none = none
if_any (w ∷ l) some none = some

-- the seat whose wait is the first in hand; without one, the seat itself
abbrev pub waiter : ℕ → List Wait → ℕ
waiter s [] = s
waiter s (w ∷ l) = w.id.seat
