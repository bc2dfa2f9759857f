-- What the rows of a seat that gives up do to its token.
use Rattle.std.specs.Prelude.{◌≡◌, ℕ, suc, ◌<◌, ◌≤◌, ◌^◌, nat_lt, true, [], ◌∷◌}
use Rattle.step_table.specs.declared.list_place.ListPlace.TheVariants.{Waiting}
use Rattle.step_table.specs.declared.list_place.ListParkedRow.TheVariants.{P, E2, E3}
use Rattle.step_table.specs.declared.list_place.Ticket.{Ticket}
use Rattle.step_table.specs.declared.list_place.WaitRow.TheVariants.{E4, Parked}
use Rattle.step_table.specs.ListWorld.{Forgone, is_queued, without_seat, with_gone, first_left, forgotten}
use Rattle.step_table.specs.Wrapping.{word_of}
use Rattle.step_law_lists.specs.ListLawful.{Follows, times_forgone}
use Rattle.notify_list.specs.declared.waited.GaveUp.{GaveUp}
use Rattle.notify_list.specs.declared.waited.GaveUp.TheVariants.{Left, Coming, Granted, LimitReached}
use Rattle.running_rows.specs.Strides.{Took}
use Rattle.notify_list.specs.Places.{at_place}
use Rattle.notify_list.specs.Plays.{at_leave}
use Rattle.notify_list.specs.Rows.{list_rows}
use Rattle.notify_list.specs.Rule.{Guarded, Lands}
use Rattle.notify_list.specs.Records.{HasGuarded}
use Rattle.notify_list.specs.Seats.{ListModel, SeatModel, Token, list_of, setting_of, stands_of, seen_of, guarded_of}
use Rattle.notify_list.specs.Seats.{queue_of, with_queue, IsParked}
use Rattle.notify_list.specs.Walks.{Walked, HasRecord, Edited}

-- the seat is parked with an early ticket, and was never late
abbrev pub MayLeave : SeatModel → Type 0
MayLeave s =
    (ticket : Ticket) × (s.sight.stands.place ≡ Waiting ticket (Parked P)) × (ticket.number < 2 ^ 60)
    × (s.sight.stands.late ≡ 0)

-- what the seat has seen then is lawful
abbrev pub SeesLawful : GaveUp → Type 0
SeesLawful (Left t) = Follows t.sight.seen
SeesLawful (Coming t) = Follows t.sight.seen
SeesLawful (Granted t) = Follows t.sight.seen
SeesLawful (LimitReached t) = Follows t.sight.seen

-- the seat n of this list, which was parked and may leave, has taken the lock
pub record HasLocked (l : ListModel) (s : Token) (n : ℕ) (t : Token) : Type 0 where
  pub parked : IsParked s n true
  pub list_is : list_of s ≡ l
  pub took : Took list_rows at_leave s.me t.me
  pub own : t.table_id ≡ s.table_id

-- the seat s of this list stands at E2 with this ticket, and its wait was taken out of the list
pub record MayForgo (l : ListModel) (s : Token) (word : ℕ) (t : Token) : Type 0 where
  pub list_is : list_of s ≡ l
  pub there : s.me.0.own.number < (setting_of s).seats
  pub few : (setting_of s).seats ≤ 65536
  pub ticket : Ticket
  pub at : (stands_of s).place ≡ Waiting ticket (Parked E2)
  pub word_is : ticket.word ≡ word
  pub early : ticket.number < 2 ^ 60
  pub queued : is_queued s.me.0.own.number (queue_of s) ≡ true
  pub record_is : HasRecord s
  pub out : Edited s (with_queue (without_seat s.me.0.own.number (queue_of s)) (guarded_of s)) t

-- the seat stands at E3 with this ticket, and its wait was taken out of the list
pub record MayLetGo (l : ListModel) (s : Token) (ticket : Ticket) (word notified : ℕ) : Type 0 where
  pub list_is : list_of s ≡ l
  pub there : s.me.0.own.number < (setting_of s).seats
  pub few : (setting_of s).seats ≤ 65536
  pub at : (stands_of s).place ≡ Waiting ticket (Parked (E3 notified))
  pub word_is : ticket.word ≡ word
  pub lands : Lands s.me.0.own.number s.me.0.own.knows
  pub has : HasGuarded s (with_queue (without_seat s.me.0.own.number (queue_of s)) (guarded_of s))

-- what lies under the lock once the ticket of number m is gone, and the wait of the seat i
abbrev pub one_gone : ℕ → ℕ → Guarded → Guarded
one_gone i m g = record {
  queue = without_seat i g.queue;
  passed = first_left suc (with_gone nat_lt m g.gone) g.passed;
  gone =
      forgotten (λ n. nat_lt n (first_left suc (with_gone nat_lt m g.gone) g.passed)) (with_gone nat_lt m g.gone);
}

-- the record is so: this is the word of the first ticket that is neither granted nor gone
abbrev pub LetGo : Token → ℕ → ℕ → Token → Type 0
LetGo s m next t =
    (next ≡ word_of (setting_of s).first (one_gone s.me.0.own.number m (guarded_of s)).passed)
    × Edited s (one_gone s.me.0.own.number m (guarded_of s)) t

-- E2 and E3 ran: the ticket is gone
pub record Forwent (s : Token) (word : ℕ) (t : Token) : Type 0 where
  pub ticket : Ticket
  pub at : (stands_of s).place ≡ Waiting ticket (Parked E2)
  pub notified : ℕ
  pub walked : Walked s (stands_of s) t (at_place (Waiting ticket E4) (stands_of s))
      (Forgone ticket.number s.me.0.own.number ∷ [])
      ((Waiting ticket (Parked E2), notified) ∷ (Waiting ticket (Parked (E3 notified)), notified) ∷ [])
  pub gone : times_forgone ticket.number (seen_of t) ≡ 1
  pub record_is : HasRecord t
