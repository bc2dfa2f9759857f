-- How the record is edited under the lock: what is taken out of the list of waits, and which tickets go.
use Rattle.std.specs.Prelude.{◌≡◌, ℕ, ◌+◌, ◌<◌, ◌≤◌, false, true, List, [], ◌∷◌, length, Option, Some, None}
use Rattle.waiters.specs.declared.wait.Wait.{Wait}
use Rattle.waiters.specs.Lists.{first_with, without_first}
use Rattle.step_table.specs.Counting.{on, among}
use Rattle.step_table.specs.ListWorld.{is_queued, without_seat}
use Rattle.step_table.specs.Wrapping.{word_of}
use Rattle.step_law_lists.specs.ListLawful.{times}
use Rattle.notify_list.specs.declared.view.Record.{Record}
use Rattle.notify_list.specs.LiveTickets.{AreEarly, IsNext, MayBeGone, MayAllPass}
use Rattle.notify_list.specs.Rule.{Guarded, IsRecord}
use Rattle.notify_list.specs.Seats.{ListModel, Token, list_of, guarded_of, setting_of, with_queue}
use Rattle.notify_list.specs.Walks.{Edited}

-- no wait with this ticket is in the list; or the first of them is the seat's, and was taken out
abbrev pub IsOut : Token → ℕ → Option ℕ → Token → Type 0
IsOut s ticket None t = (first_with ticket (guarded_of s).queue ≡ None) × Edited s (guarded_of s) t
IsOut s ticket (Some seat) t =
    (w : Wait) × (first_with ticket (guarded_of s).queue ≡ Some w) × (w.id.seat ≡ seat)
    × Edited s (with_queue (without_first ticket (guarded_of s).queue) (guarded_of s)) t

-- the seat holds the slot, whose record is this
abbrev pub HasGuarded : Token → Guarded → Type 0
HasGuarded s g = (y : Record) × (s.me.1 ≡ (0, y) ∷ []) × IsRecord (setting_of s) y g

-- of these waits there was none; or the first of them is the seat's, and was taken out
abbrev pub FirstOut : Token → Guarded → Option ℕ → Token → Type 0
FirstOut s g None t = (g.queue ≡ []) × Edited s g t
FirstOut s g (Some seat) t =
    (w : Wait) × (rest : List Wait) × (g.queue ≡ w ∷ rest) × (w.id.seat ≡ seat) × Edited s (with_queue rest g) t

-- the seat holds such a record, whose first ticket that is neither granted nor gone has this word
pub record MayPass (l : ListModel) (s : Token) (g : Guarded) (ticket : ℕ) : Type 0 where
  pub list_is : list_of s ≡ l
  pub has : HasGuarded s g
  pub gone_early : AreEarly g.passed g.gone
  pub ticket_is : ticket ≡ word_of l.setting.first g.passed

-- the record as that ticket is passed: this is the word of the next
abbrev pub PassedOver : Token → Guarded → ℕ → Token → Type 0
PassedOver s g word t =
    (next : ℕ) (left : List ℕ) → IsNext g.passed g.gone next → ((n : ℕ) → next ≤ n → among n left ≡ among n g.gone)
    → (word ≡ word_of (setting_of s).first next)
    × Edited s (record { queue = g.queue; passed = next; gone = left }) t

-- the seat holds such a record, and the ticket of number m, which has this word, may go
pub record MayGo (l : ListModel) (s : Token) (g : Guarded) (m ticket : ℕ) : Type 0 where
  pub list_is : list_of s ≡ l
  pub has : HasGuarded s g
  pub may : MayBeGone l.setting.first g.passed m g.gone ticket l.setting.seats

-- the record as it goes
abbrev pub HasGone : Token → Guarded → ℕ → Token → Type 0
HasGone s g m t =
    (more : List ℕ) → ((n : ℕ) → among n more ≡ among n g.gone + on n m 1)
    → Edited s (record { queue = g.queue; passed = g.passed; gone = more }) t

-- the seat holds such a record, and all tickets below that of number upto, which has this word, may be passed
pub record MayPassAll (l : ListModel) (s : Token) (g : Guarded) (upto waited : ℕ) : Type 0 where
  pub list_is : list_of s ≡ l
  pub has : HasGuarded s g
  pub may : MayAllPass l.setting.first g.passed upto g.gone waited

-- the record as they are, of which so many weren't gone
abbrev pub PassedAll : Token → Guarded → ℕ → ℕ → Token → Type 0
PassedAll s g upto many t =
    (many + g.passed + length g.gone ≡ upto)
    × ((left : List ℕ) → ((n : ℕ) → among n left ≡ 0)
    → Edited s (record { queue = g.queue; passed = upto; gone = left }) t)

-- the wait is in the list
abbrev pub IsIn : Wait → List Wait → Type 0
IsIn w queue = 0 < times w queue

-- no wait of the seat is in the list; or one is, and was taken out: this is its ticket
abbrev pub OwnOut : Token → Guarded → ℕ → Option ℕ → Token → Type 0
OwnOut s g seat None t = (is_queued seat g.queue ≡ false) × Edited s g t
OwnOut s g seat (Some ticket) t =
    (is_queued seat g.queue ≡ true) × ((w : Wait) × IsIn w g.queue × (w.id.seat ≡ seat) × (w.ticket ≡ ticket))
    × Edited s (with_queue (without_seat seat g.queue) g) t
