-- The rows of a notify list.
use Rattle.std.specs.Prelude.{ℕ, ◌+◌, ◌-◌, ◌==◌, nat_lt, if◌then◌else◌, List, length}
use Rattle.waiters.specs.declared.wait.Wait.{Wait}
use Rattle.waiters.specs.Lists.{first_with}
use Rattle.step_table.specs.declared.list_place.AllRow.{AllRow}
use Rattle.step_table.specs.declared.list_place.AllRow.TheVariants.{L1, L2, L3, L4, L5, L6, L7, L8}
use Rattle.step_table.specs.declared.list_place.ListEffect.TheVariants.{Nothing, Grants, Queues, TakesOut}
use Rattle.step_table.specs.declared.list_place.ListEffect.TheVariants.{TakesAll, Gives, Forgoes}
use Rattle.step_table.specs.declared.list_place.ListParkedRow.{ListParkedRow}
use Rattle.step_table.specs.declared.list_place.ListParkedRow.TheVariants.{P, E1, E2, E3, E5}
use Rattle.step_table.specs.declared.list_place.ListPlace.{ListPlace}
use Rattle.step_table.specs.declared.list_place.ListPlace.TheVariants.{Rest, Adding, Waiting, NotifyingOne}
use Rattle.step_table.specs.declared.list_place.ListPlace.TheVariants.{NotifyingAll}
use Rattle.step_table.specs.declared.list_place.ListWord.TheVariants.{Wait as WaitWord, Notify, Lock, Grant}
use Rattle.step_table.specs.declared.list_place.OneRow.{OneRow}
use Rattle.step_table.specs.declared.list_place.OneRow.TheVariants.{O1, O2, O3, O4, O5, O6, O7, O8, O9}
use Rattle.step_table.specs.declared.list_place.Ticket.{Ticket}
use Rattle.step_table.specs.declared.list_place.WaitRow.{WaitRow}
use Rattle.step_table.specs.declared.list_place.WaitRow.TheVariants.{W1, W2, W3, W4, E4, Parked}
use Rattle.step_table.specs.Wrapping.{next_word, minus, less}
use Rattle.step_table.specs.ListWorld.{ListWords, ListSeat, with_gone, first_left, is_queued}
use Rattle.step_table.specs.EventOf.{load, store, take_lock, give_lock, take_grant, stays}
use Rattle.step_table.specs.ListEvent.{ListEvent, to, take_ticket, by_found, if_any, waiter}

-- the wait of the seat s for this ticket
abbrev pub wait_for : ℕ → Ticket → Wait
wait_for s t = record { id = record { seat = s; turn = t.number }; ticket = t.word }

-- what a row of a parked wait for the ticket t does for the seat s
abbrev pub parked_event : ℕ → Ticket → ListWords → ListParkedRow → ListEvent
parked_event s t g P = take_grant (Grant s) (λ v. to Rest)
-- looked for under the lock: a notification takes waits out only there
parked_event s t g E1 = take_lock Lock (to (if is_queued s g.queue then Waiting t (Parked E2) else Waiting t (Parked E5)))
parked_event s t g E2 = load Notify (λ v. to (Waiting t (Parked (E3 v))))
-- in one hold with E2: if the notify word rested on a gone ticket while the lock is free, a notification of one
-- would grant that ticket, and nobody would wake
parked_event s t g (E3 v) =
    store Notify (first_left next_word (with_gone less t.word g.gone) v) (Waiting t E4, Forgoes (wait_for s t))
-- asleep again: a notification has taken the wait out. If the seat went, its grant would be stored for its next
-- sleep
parked_event s t g E5 = give_lock Lock (to (Waiting t (Parked P)))

-- what a row of a wait for the ticket t does for the seat s
abbrev pub wait_event : ℕ → Ticket → ListWords → WaitRow → ListEvent
wait_event s t g W1 = take_lock Lock (to (Waiting t W2))
-- looked at under the lock: a grant is stored only there, so none falls between this look and W4. Without the
-- look, a ticket that was granted before would sleep for good
wait_event s t g W2 = load Notify (λ v. to (if less t.word v then Waiting t W3 else Waiting t W4))
wait_event s t g W3 = give_lock Lock (to Rest)
wait_event s t g W4 = give_lock Lock (Waiting t (Parked P), Queues (wait_for s t))
wait_event s t g E4 = give_lock Lock (to Rest)
wait_event s t g (Parked row) = parked_event s t g row

-- what a row of a notification of one does for the seat s, which has these waits in hand; h tickets were
-- handed out at its first look
abbrev pub one_event : ℕ → List Wait → ListWords → ℕ → OneRow → ListEvent
one_event s hand g h O1 = load WaitWord (λ v. to (NotifyingOne g.numbers.handed (O2 v)))
one_event s hand g h (O2 a) = load Notify (λ v. to (if a == v then Rest else NotifyingOne h O3))
one_event s hand g h O3 = take_lock Lock (to (NotifyingOne h O4))
-- read again under the lock: since O2 another notification may have granted that ticket, and this one would
-- grant it twice and leave the next one out
one_event s hand g h O4 = load Notify (λ v. to (NotifyingOne h (O5 v)))
one_event s hand g h (O5 t) =
    load WaitWord (λ v. to (if v == t then NotifyingOne h O6 else NotifyingOne h (O7 t)))
one_event s hand g h O6 = give_lock Lock (to Rest)
-- granted before the wait is looked for: its seat may not have come to W2 yet, and would find no grant there
-- and sleep. The gone tickets after it are passed over
one_event s hand g h (O7 t) =
    store Notify (first_left next_word g.gone (next_word t)) (NotifyingOne h (O8 t), Grants (g.numbers.passed + 1))
one_event s hand g h (O8 t) =
    give_lock Lock (by_found (first_with t g.queue) (to Rest) (λ w. (NotifyingOne h O9, TakesOut t)))
one_event s hand g h O9 = store (Grant (waiter s hand)) 1 (Rest, Gives)

-- the same of a notification of all
abbrev pub all_event : ℕ → List Wait → ListWords → ℕ → AllRow → ListEvent
all_event s hand g h L1 = load WaitWord (λ v. to (NotifyingAll g.numbers.handed (L2 v)))
all_event s hand g h (L2 a) = load Notify (λ v. to (if a == v then Rest else NotifyingAll h L3))
all_event s hand g h L3 = take_lock Lock (to (NotifyingAll h L4))
-- read for the answer: what L5 reads less this is how many tickets the call grants. What L2 read may be
-- behind, and would count tickets that another notification has granted since
all_event s hand g h L4 = load Notify (λ v. to (NotifyingAll h (L5 v)))
all_event s hand g h (L5 t) =
    load WaitWord (λ v. to
    (NotifyingAll h (L6 (record { notified = t; waited = v; handed = g.numbers.handed }))))
-- the gone tickets are passed, and not granted
all_event s hand g h (L6 r) =
    store Notify r.waited (
      NotifyingAll h (L7 (minus r.waited r.notified - length g.gone)),
      if r.notified == r.waited then Nothing else Grants r.handed,
    )
all_event s hand g h (L7 n) = give_lock Lock (if_any g.queue (NotifyingAll h L8) Rest, TakesAll)
all_event s hand g h L8 =
    store (Grant (waiter s hand)) 1 (if nat_lt 1 (length hand) then NotifyingAll h L8 else Rest, Gives)

-- the event at this place, for the seat s
abbrev pub list_event_at : ℕ → ListSeat → ListWords → ListPlace → ListEvent
list_event_at s seat g Rest = stays (Grant s) (to Rest)
list_event_at s seat g Adding = take_ticket g.numbers.handed
list_event_at s seat g (Waiting t row) = wait_event s t g row
list_event_at s seat g (NotifyingOne h row) = one_event s seat.hand g h row
list_event_at s seat g (NotifyingAll h row) = all_event s seat.hand g h row

-- the event of the row at which the seat stands
abbrev pub list_table : ℕ → ListSeat → ListWords → ListEvent
list_table s seat g = list_event_at s seat g seat.place
