-- The world that the step table speaks of: words, lists, seats and the journal, by their numbers.
use Rattle.std.specs.Prelude.{ℕ, ◌+◌, ◌-◌, ◌%◌, Bool, true, false, List, [], ◌∷◌, ◌++◌, drop, eqb, cond}
use Rattle.std.specs.Prelude.{nat_lt, ◌||◌, if◌then◌else◌, Option, Some, None}
use Rattle.waiters.specs.declared.wait.WaitId.{WaitId}
use Rattle.step_table.specs.declared.entry.Entry.{Entry}
use Rattle.step_table.specs.declared.entry.Entry.TheVariants.{Queue, Leave, Withdraw}
use Rattle.step_table.specs.declared.effect.Effect.{Effect}
use Rattle.step_table.specs.declared.effect.Effect.TheVariants.{Tells, Wakes}
use Rattle.step_table.specs.declared.place.Place.{Place}
use Rattle.step_table.specs.declared.place.Place.TheVariants.{Rest}
use Rattle.step_table.specs.declared.word.Word.{Word}
use Rattle.step_table.specs.declared.word.Word.TheVariants.{Counter, Lock, Waiters, Grant}

-- how many counters and seats there are, the root of each counter, and the number at which each counter
-- starts
pub record Layout : Type 0 where
  pub counters : ℕ
  pub seats : ℕ
  pub root : ℕ → ℕ
  pub starts : ℕ → ℕ

-- the root of counter c: one of the first so many, which are no group's, has c modulo the number of their
-- roots, and each of the others has one of its own after those
abbrev pub root_number : ℕ → ℕ → ℕ → ℕ
root_number own roots c = cond (nat_lt c own) (c % roots) (roots + (c - own))

-- the words that seats share, and the list of waits of each counter
pub record Words : Type 0 where
  pub numbers : ℕ → ℕ
  pub locks : ℕ → ℕ
  pub waiters : ℕ → ℕ
  pub grants : ℕ → ℕ
  pub lists : ℕ → List WaitId

-- where a seat stands, how many waits it has queued, and the waits that it has taken out and not granted
pub record SeatState : Type 0 where
  pub place : Place
  pub turn : ℕ
  pub hand : List WaitId

pub record SemaWorld : Type 0 where
  pub words : Words
  pub seats : ℕ → SeatState
  pub journal : List Entry

-- f with x at i
unfoldable pub put : {A : Type 0} → (ℕ → A) → ℕ → A → ℕ → A
put f i x k = cond (eqb k i) x (f k)

-- a list with a wait put in: at the front, or at the end
unfoldable pub insert_wait : Bool → WaitId → List WaitId → List WaitId
insert_wait true w l = w ∷ l
insert_wait false w l = l ++ w ∷ []

-- the wait of the seat k that stands in the list. A seat has one at most, and so no row looks at turns
abbrev pub wait_of : ℕ → List WaitId → Option WaitId
wait_of k [] = None
wait_of k (w ∷ l) = if eqb w.seat k then Some w else wait_of k l

abbrev pub stands_in : ℕ → List WaitId → Bool
stands_in k [] = false
stands_in k (w ∷ l) = eqb w.seat k || stands_in k l

-- the list without it, the others in their order
abbrev pub without : ℕ → List WaitId → List WaitId
without k [] = []
without k (w ∷ l) = if eqb w.seat k then l else w ∷ without k l

-- the number in a word
abbrev pub found : (ℕ → ℕ) → Words → Word → ℕ
found root g (Counter c) = g.numbers c
found root g (Lock c) = g.locks (root c)
found root g (Waiters c) = g.waiters (root c)
found root g (Grant s) = g.grants s

-- the words, with x in one
abbrev pub written : (ℕ → ℕ) → Words → Word → ℕ → Words
written root g (Counter c) x = record g { numbers = put g.numbers c x }
written root g (Lock c) x = record g { locks = put g.locks (root c) x }
written root g (Waiters c) x = record g { waiters = put g.waiters (root c) x }
written root g (Grant s) x = record g { grants = put g.grants s x }

-- the lists after an entry
abbrev pub listed : Entry → (ℕ → List WaitId) → ℕ → List WaitId
listed (Queue c w lifo) lists = put lists c (insert_wait lifo w (lists c))
listed (Leave c w s) lists = put lists c (drop 1 (lists c))
listed (Withdraw c w) lists = put lists c (without w.seat (lists c))
listed _ lists = lists

abbrev pub lists_after : Effect → (ℕ → List WaitId) → ℕ → List WaitId
lists_after (Tells e) lists = listed e lists
lists_after _ lists = lists

-- the journal with the entry, if there is one
abbrev pub journal_after : Effect → List Entry → List Entry
journal_after (Tells e) journal = journal ++ e ∷ []
journal_after _ journal = journal

-- how many waits the seat has queued
abbrev pub turn_after : Effect → ℕ → ℕ
turn_after (Tells (Queue c w lifo)) turn = turn + 1
turn_after _ turn = turn

-- what it has in hand
abbrev pub hand_after : Effect → List WaitId → List WaitId
hand_after (Tells (Leave c w s)) hand = hand ++ w ∷ []
hand_after Wakes hand = drop 1 hand
hand_after _ hand = hand

abbrev pub seat_after : Effect → Place → SeatState → SeatState
seat_after effect place seat =
    record { place = place; turn = turn_after effect seat.turn; hand = hand_after effect seat.hand }

-- the world in which all seats are at rest and nothing has happened
abbrev pub first_world : (ℕ → ℕ) → SemaWorld
first_world starts =
    record {
      words = record { numbers = starts; locks = λ r. 0; waiters = λ r. 0; grants = λ s. 0; lists = λ c. [] };
      seats = λ s. record { place = Rest; turn = 0; hand = [] };
      journal = [];
    }
