use Rattle.std.proofs.Common.{ℕ, Option, sym, ap, ◌∙◌, subst}
use Rattle.notify_list.specs.Seats.{SeatModel, seat_of}
use Rattle.notify_list.specs.Notifying.{EndsOne}
use Rattle.notify_list.specs.Granting.{MayNotify}
use Rattle.notify_list.proofs.Notifying.{may_lock}
use Rattle.notify_list.proofs.Answering.{is_sound}
use Rattle.notify_list.proofs.notify_list.NotifyList.one_at_lock.Goals as goal

pub lock-requires : goal.lock-requires
lock-requires g c = let s = c.seat.inside.token in let n : ℕ = c.seat.inside.number in
    may_lock s n c.requires.place.0 c.seat.invariant (ap (λ (y : SeatModel). y.sight.stands.place) c.seat.view_is ∙ c.requires.place.1) c.args.self.now
    (ap (λ (y : SeatModel). y.list) c.seat.view_is ∙ c.requires.seat)

pub grant_least-notified-requires-clause-seat : goal.grant_least-notified-requires-clause-seat
grant_least-notified-requires-clause-seat g c = (
  c.seat.inside.token,
  c.seat.inside.number,
  c.requires.place.0,
  record {
    seat = c.seat.invariant;
    at = ap (λ (y : SeatModel). y.sight.stands.place) c.seat.view_is ∙ c.requires.place.1;
    list_is = ap (λ (y : SeatModel). y.list) c.seat.view_is ∙ c.requires.seat;
    locked = c.lock.ensures;
  },
)

pub invariant_of-seat : goal.invariant_of-seat
invariant_of-seat g c = (c.grant_least-notified.ensures.rows c.seat.inside.token c.seat.inside.number c.requires.place.0 (record {
  seat = c.seat.invariant;
  at = ap (λ (y : SeatModel). y.sight.stands.place) c.seat.view_is ∙ c.requires.place.1;
  list_is = ap (λ (y : SeatModel). y.list) c.seat.view_is ∙ c.requires.seat;
  locked = c.lock.ensures;
})).1

pub returns-clause-rows : goal.returns-clause-rows
returns-clause-rows g c h at = let s = c.seat.inside.token in let n : ℕ = c.seat.inside.number in
    let may : MayNotify c.args.self.now s n h c.lock.new.token = record {
      seat = c.seat.invariant;
      at = ap (λ (y : SeatModel). y.sight.stands.place) c.seat.view_is ∙ at;
      list_is = ap (λ (y : SeatModel). y.list) c.seat.view_is ∙ c.requires.seat;
      locked = c.lock.ensures;
    } in
    subst (λ (q : SeatModel). EndsOne q h c.ticket_of_answer.result (seat_of c.grant_least-notified.new.token n)) c.seat.view_is
    (subst (λ (o : Option ℕ). EndsOne (seat_of s n) h o (seat_of c.grant_least-notified.new.token n)) (sym c.ticket_of_answer.ensures)
    (c.grant_least-notified.ensures.rows s n h may).0)

pub returns-clause-lawful : goal.returns-clause-lawful
returns-clause-lawful g c = (is_sound c.grant_least-notified.new.token c.seat.inside.number (invariant_of-seat g c).token_is).lawful
