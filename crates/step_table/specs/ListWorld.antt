-- The world of one notify list: its words, the numbers of its tickets, its waits, seats and journal.
use Rattle.std.specs.Prelude.{ℕ, zero, suc, ◌+◌, List, [], ◌∷◌, ◌++◌, drop, nat_lt, if◌then◌else◌, Option, Some, None}
use Rattle.std.specs.Prelude.{◌^◌, Bool, false, ◌==◌, ◌||◌, length}
use Rattle.waiters.specs.declared.wait.Wait.{Wait}
use Rattle.waiters.specs.Lists.{first_with, without_first}
use Rattle.step_table.specs.declared.list_place.ListEffect.{ListEffect}
use Rattle.step_table.specs.declared.list_place.ListEffect.TheVariants.{HandsOut, Grants, Queues, TakesOut}
use Rattle.step_table.specs.declared.list_place.ListEffect.TheVariants.{TakesAll, Gives, Forgoes}
use Rattle.step_table.specs.declared.list_place.ListPlace.{ListPlace}
use Rattle.step_table.specs.declared.list_place.ListPlace.TheVariants.{Rest, Waiting}
use Rattle.step_table.specs.declared.list_place.ListWord.{ListWord}
use Rattle.step_table.specs.declared.list_place.ListWord.TheVariants as word
use Rattle.step_table.specs.declared.list_place.Ticket.{Ticket}
use Rattle.step_table.specs.declared.list_place.WaitRow.TheVariants.{W2}
use Rattle.step_table.specs.Wrapping.{word_of, less}
use Rattle.step_table.specs.World.{put}

-- how many tickets were handed out; the number of the first that is neither granted nor gone; and the numbers
-- of the gone ones after it: tickets whose seats have left. They don't wrap, and no row looks at them
pub record Numbers : Type 0 where
  pub handed : ℕ
  pub passed : ℕ
  pub gone : List ℕ

-- the words that seats share, the numbers beside them, the list of waits, and the words of the tickets that are
-- gone and that the notify word hasn't passed
pub record ListWords : Type 0 where
  pub wait : ℕ
  pub notify : ℕ
  pub lock : ℕ
  pub grants : ℕ → ℕ
  pub numbers : Numbers
  pub queue : List Wait
  pub gone : List ℕ

-- where a seat stands, the ticket that it holds and doesn't wait with yet, the waits that it has taken out
-- and not granted, and 1 once its W2 has looked at a late ticket
pub record ListSeat : Type 0 where
  pub place : ListPlace
  pub ticket : Option Ticket
  pub hand : List Wait
  pub late : ℕ

-- what the journal tells: a seat took the next ticket; a seat granted the first so many tickets but for those
-- that are gone; a seat left, and the ticket of this number is gone
pub data ListEntry : Type 0 where
  Took : ℕ → ListEntry
  Granted : ℕ → ℕ → ListEntry
  Forgone : ℕ → ℕ → ListEntry

pub record ListWorld : Type 0 where
  pub words : ListWords
  pub seats : ℕ → ListSeat
  pub journal : List ListEntry

-- the number in a word
abbrev pub found : ListWords → ListWord → ℕ
found g word.Wait = g.wait
found g word.Notify = g.notify
found g word.Lock = g.lock
found g (word.Grant s) = g.grants s

-- the words, with x in one
abbrev pub written : ListWords → ListWord → ℕ → ListWords
written g word.Wait x = record g { wait = x }
written g word.Notify x = record g { notify = x }
written g word.Lock x = record g { lock = x }
written g (word.Grant s) x = record g { grants = put g.grants s x }

-- whether this is one of the gone tickets
abbrev pub is_gone : ℕ → List ℕ → Bool
is_gone n [] = false
is_gone n (m ∷ gone) = (n == m) || is_gone n gone

-- the gone tickets with one more, in order, where `before` tells which of two comes first. In another order the
-- same tickets would make another world
abbrev pub with_gone : (ℕ → ℕ → Bool) → ℕ → List ℕ → List ℕ
with_gone before n [] = n ∷ []
with_gone before n (m ∷ gone) = if before n m then n ∷ m ∷ gone else m ∷ with_gone before n gone

-- the first ticket from n on that isn't gone, where `next` leads from each to the next, looked for so many steps
abbrev pub skipped : (ℕ → ℕ) → ℕ → List ℕ → ℕ → ℕ
skipped next zero gone n = n
skipped next (suc steps) gone n = if is_gone n gone then skipped next steps gone (next n) else n

-- no more are skipped than are gone
abbrev pub first_left : (ℕ → ℕ) → List ℕ → ℕ → ℕ
first_left next gone n = skipped next (length gone) gone n

-- the gone tickets without those that come before
abbrev pub forgotten : (ℕ → Bool) → List ℕ → List ℕ
forgotten before [] = []
forgotten before (m ∷ gone) = if before m then forgotten before gone else m ∷ forgotten before gone

-- the gone tickets once the notify word is x
abbrev pub forgotten_at : ℕ → List ℕ → List ℕ
forgotten_at x gone = forgotten (λ w. less w x) gone

-- the ticket that is passed first is one that isn't gone
abbrev pub passing : ℕ → ℕ → List ℕ → Numbers
passing handed passed gone =
    record {
      handed = handed;
      passed = first_left suc gone passed;
      gone = forgotten (λ m. nat_lt m (first_left suc gone passed)) gone;
    }

abbrev pub numbers_after : ListEffect → Numbers → Numbers
numbers_after (HandsOut t) n = record n { handed = n.handed + 1 }
numbers_after (Grants upto) n = passing n.handed upto n.gone
numbers_after (Forgoes w) n = passing n.handed n.passed (with_gone nat_lt w.id.turn n.gone)
numbers_after _ n = n

-- the words of the gone tickets, where x is the word that was written
abbrev pub gone_after : ListEffect → ℕ → List ℕ → List ℕ
gone_after (Grants upto) x gone = forgotten_at x gone
gone_after (Forgoes w) x gone = forgotten_at x (with_gone less w.ticket gone)
gone_after _ x gone = gone

-- whether a wait of the seat is in the list
abbrev pub is_queued : ℕ → List Wait → Bool
is_queued s [] = false
is_queued s (w ∷ queue) = (w.id.seat == s) || is_queued s queue

-- the list without the first wait of the seat
abbrev pub without_seat : ℕ → List Wait → List Wait
without_seat s [] = []
without_seat s (w ∷ queue) = if w.id.seat == s then queue else w ∷ without_seat s queue

abbrev pub queue_after : ListEffect → List Wait → List Wait
queue_after (Queues w) queue = queue ++ w ∷ []
queue_after (TakesOut t) queue = without_first t queue
queue_after TakesAll queue = []
queue_after (Forgoes w) queue = without_seat w.id.seat queue
queue_after _ queue = queue

-- the waits that an effect takes out of the list
abbrev pub one_or_none : Option Wait → List Wait
one_or_none None = []
one_or_none (Some w) = w ∷ []

abbrev pub hand_after : ListEffect → List Wait → List Wait → List Wait
hand_after (TakesOut t) queue hand = hand ++ one_or_none (first_with t queue)
hand_after TakesAll queue hand = hand ++ queue
hand_after Gives queue hand = drop 1 hand
hand_after _ queue hand = hand

-- the ticket that the seat holds
abbrev pub ticket_after : ListEffect → Option Ticket → Option Ticket
ticket_after (HandsOut t) ticket = Some t
ticket_after _ ticket = ticket

-- the journal with what seat i did
abbrev pub journal_after : ℕ → ListEffect → List ListEntry → List ListEntry
journal_after i (HandsOut t) journal = journal ++ Took i ∷ []
journal_after i (Grants upto) journal = journal ++ Granted upto i ∷ []
journal_after i (Forgoes w) journal = journal ++ Forgone w.id.turn i ∷ []
journal_after i _ journal = journal

-- a ticket is late where more than 2^63 tickets were passed since
abbrev pub late_after : ListPlace → ℕ → ℕ → ℕ
late_after (Waiting t W2) passed late = if nat_lt (t.number + 2 ^ 63) passed then 1 else late
late_after _ passed late = late

-- the world of a list whose first ticket has this word: all seats are at rest, and nothing has happened
abbrev pub first_list : ℕ → ListWorld
first_list first =
    record {
      words = record {
        wait = word_of first 0;
        notify = word_of first 0;
        lock = 0;
        grants = λ k. 0;
        numbers = record { handed = 0; passed = 0; gone = [] };
        queue = [];
        gone = [];
      };
      seats = λ k. record { place = Rest; ticket = None; hand = []; late = 0 };
      journal = [];
    }
