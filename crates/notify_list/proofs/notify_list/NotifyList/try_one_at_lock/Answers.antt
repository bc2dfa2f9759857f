use Rattle.std.proofs.Common.{ℕ, ap, ◌∙◌, subst}
use Rattle.notify_list.specs.Seats.{SeatModel, seat_of}
use Rattle.notify_list.specs.Notifying.{EndsOne, ticket_of}
use Rattle.notify_list.specs.Granting.{MayNotify}
use Rattle.notify_list.proofs.Notifying.{may_lock}
use Rattle.notify_list.proofs.Signalling.{granted_wait}
use Rattle.notify_list.specs.Meeting.{FindsHeld}
use Rattle.notify_list.proofs.LookingTogether.{held_seat, finds_held}
use Rattle.notify_list.proofs.Answering.{is_sound}
use Rattle.notify_list.proofs.notify_list.NotifyList.try_one_at_lock.Goals as goal

pub try_lock-requires : goal.try_lock-requires
try_lock-requires g c = let s = c.seat.inside.token in let n : ℕ = c.seat.inside.number in
    may_lock s n c.requires.place.0 c.seat.invariant (ap (λ (y : SeatModel). y.sight.stands.place) c.seat.view_is ∙ c.requires.place.1) c.args.self.now
    (ap (λ (y : SeatModel). y.list) c.seat.view_is ∙ c.requires.seat)

pub invariant_of-seat : goal.invariant_of-seat
invariant_of-seat g c = (c.grant_least.ensures.rows c.seat.inside.token c.seat.inside.number c.requires.place.0 (record {
  seat = c.seat.invariant;
  at = ap (λ (y : SeatModel). y.sight.stands.place) c.seat.view_is ∙ c.requires.place.1;
  list_is = ap (λ (y : SeatModel). y.list) c.seat.view_is ∙ c.requires.seat;
  locked = c.if-try_lock.ensures;
})).1

pub returns-then-try_lock-clause-rows : goal.returns-then-try_lock-clause-rows
returns-then-try_lock-clause-rows g c h at = let s = c.seat.inside.token in let n : ℕ = c.seat.inside.number in
    let may : MayNotify c.args.self.now s n h c.try_lock.new.token = record {
      seat = c.seat.invariant;
      at = ap (λ (y : SeatModel). y.sight.stands.place) c.seat.view_is ∙ at;
      list_is = ap (λ (y : SeatModel). y.list) c.seat.view_is ∙ c.requires.seat;
      locked = c.if-try_lock.ensures;
    } in
    subst (λ (q : SeatModel). EndsOne q h (ticket_of c.grant_least.result) (seat_of c.grant_least.new.token n)) c.seat.view_is
    (c.grant_least.ensures.rows s n h may).0

pub returns-then-try_lock-clause-wait : goal.returns-then-try_lock-clause-wait
returns-then-try_lock-clause-wait g c = granted_wait c.args.self.now c.grant_least.new.token c.seat.inside.number c.grant_least.ensures.own
    c.grant_least.result c.grant_least.ensures.wait

pub returns-then-try_lock-clause-lawful : goal.returns-then-try_lock-clause-lawful
returns-then-try_lock-clause-lawful g c = (is_sound c.grant_least.new.token c.seat.inside.number (invariant_of-seat g c).token_is).lawful

pub invariant_of-seat-else-try_lock : goal.invariant_of-seat-else-try_lock
invariant_of-seat-else-try_lock g c = held_seat c.seat.inside.token c.try_lock.new.token c.seat.inside.number c.if-try_lock.ensures c.seat.invariant

pub returns-clause-rows : goal.returns-clause-rows
returns-clause-rows g c h at =
    subst (λ (q : SeatModel). FindsHeld q (seat_of c.try_lock.new.token c.seat.inside.number)) c.seat.view_is
    (finds_held c.seat.inside.token c.try_lock.new.token c.seat.inside.number c.if-try_lock.ensures c.seat.invariant.token_is)

pub returns-clause-lawful : goal.returns-clause-lawful
returns-clause-lawful g c = (is_sound c.try_lock.new.token c.seat.inside.number (invariant_of-seat-else-try_lock g c).token_is).lawful
