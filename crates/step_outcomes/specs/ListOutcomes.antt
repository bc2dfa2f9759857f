-- What a row of a notify list sees, what it does, and on which words.
use Rattle.std.specs.Prelude.{◌≡◌, ℕ, ◌<◌, Bool, [], ◌∷◌, ◌++◌, Option, MatchOption, IsTrue, List, length, slice_get}
use Rattle.waiters.specs.declared.wait.Wait.{Wait}
use Rattle.waiters.specs.Lists.{first_with}
use Rattle.step_table.specs.declared.list_place.ListPlace.{ListPlace}
use Rattle.step_table.specs.declared.list_place.ListPlace.TheVariants.{Waiting, NotifyingOne}
use Rattle.step_table.specs.declared.list_place.ListParkedRow.TheVariants.{E1, E3}
use Rattle.step_table.specs.declared.list_place.WaitRow.TheVariants.{Parked}
use Rattle.step_table.specs.declared.list_place.ListWord.{ListWord}
use Rattle.step_table.specs.declared.list_place.ListWord.TheVariants.{Grant}
use Rattle.step_table.specs.declared.list_place.OneRow.TheVariants.{O7, O8}
use Rattle.step_table.specs.ListWorld.{ListWords, with_gone, first_left, is_queued}
use Rattle.step_table.specs.Wrapping.{next_word, less}
use Rattle.step_table.specs.ListEvent.{ListEvent}
use Rattle.step_outcomes.specs.declared.list_outcome.ListOutcome.{ListOutcome}
use Rattle.step_outcomes.specs.declared.list_outcome.ListSight.{ListSight}

-- the wait that a notification of one looks for under the lock
abbrev pub IsAsked : List Wait → ListPlace → Option Wait → Type 0
IsAsked queue (NotifyingOne h (O8 t)) asked = first_with t queue ≡ asked
IsAsked queue _ asked = Unit {0}

-- whether the list has a wait of a seat that gives up
abbrev pub IsInQueue : ℕ → List Wait → ListPlace → Bool → Type 0
IsInQueue s queue (Waiting t (Parked E1)) waits = is_queued s queue ≡ waits
IsInQueue s queue _ waits = Unit {0}

-- the first ticket from there on that isn't gone
abbrev pub IsNext : List ℕ → ListPlace → ℕ → Type 0
IsNext gone (NotifyingOne h (O7 t)) next = first_left next_word gone (next_word t) ≡ next
IsNext gone (Waiting t (Parked (E3 v))) next = first_left next_word (with_gone less t.word gone) v ≡ next
IsNext gone _ next = Unit {0}

-- the seat s, with these waits in hand, sees this beside the word of its row
pub record IsSeen (s : ℕ) (g : ListWords) (hand : List Wait) (place : ListPlace) (sight : ListSight) : Type 0 where
  pub handed : g.numbers.handed ≡ sight.handed
  pub passed : g.numbers.passed ≡ sight.passed
  pub gone : length g.gone ≡ sight.gone
  pub queued : slice_get g.queue 0 ≡ sight.queued
  pub asked : IsAsked g.queue place sight.asked
  pub waits : IsInQueue s g.queue place sight.waits
  pub next : IsNext g.gone place sight.next
  pub in_hand : slice_get hand 0 ≡ sight.in_hand
  pub held : length hand ≡ sight.held

-- the outcome is what the event says of the number that was found
pub record IsListOutcome (e : ListEvent) (n : ℕ) (o : ListOutcome) : Type 0 where
  pub can : IsTrue (e.can n)
  pub becomes : o.becomes ≡ e.becomes n
  pub place : o.place ≡ (e.leads n).0
  pub effect : o.effect ≡ (e.leads n).1

abbrev pub ListDoes : ListEvent → ℕ → Option ListOutcome → Type 0
ListDoes e n r = MatchOption r (IsTrue (e.can n) → ⊥) (IsListOutcome e n)

-- the word is one of a list with so many seats
abbrev pub HasListWord : ℕ → ListWord → Type 0
HasListWord seats (Grant s) = s < seats
HasListWord seats _ = Unit {0}
