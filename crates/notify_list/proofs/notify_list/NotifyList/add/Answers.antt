use Rattle.std.proofs.Common.{◌+◌, ◌%◌, ◌^◌, ℕ, refl, subst, arith}
use Rattle.step_table.specs.declared.list_place.ListPlace.TheVariants.{Adding}
use Rattle.notify_list.specs.Places.{at_place, adds}
use Rattle.notify_list.specs.Plays.{at_ticket}
use Rattle.notify_list.specs.Seats.{SeatModel, seat_of, stands_of}
use Rattle.notify_list.specs.Tickets.{IsAdded}
use Rattle.notify_list.proofs.Owned.{own, low_word, owned}
use Rattle.notify_list.proofs.Futexes.{plain_low}
use Rattle.notify_list.proofs.Allowing.{row_goes}
use Rattle.notify_list.proofs.Taking.{next_is, added, holding}
use Rattle.notify_list.proofs.Answering.{is_sound}
use Rattle.notify_list.proofs.Callers.{gets_ticket}
use Rattle.notify_list.proofs.notify_list.NotifyList.add.Goals as goal

pub add-ticket-requires : goal.add-ticket-requires
add-ticket-requires c =
    let x = c.self.inside in let s = c.seat.inside.token in let seat = c.seat.invariant in
    let at = own x s c.seat.inside.number c.self.view_is c.seat.view_is c.requires in (
      omega arith,
      (
        owned x c.self.invariant s at,
        (
          low_word x c.self.invariant 0 (omega arith),
          (
            plain_low x.words.table.shared.key 0 (omega arith),
            row_goes s.me (at_place Adding (stands_of s)) (adds seat.free seat.holds_none) at_ticket refl _ 0
                (λ n. (n + 1) % 2 ^ 64) (λ e. absurd (omega arith))
                (λ w n known. record { word = refl; there = tt; can = refl; becomes = next_is n }),
          ),
        ),
      ),
    )

pub invariant_of-result : goal.invariant_of-result
invariant_of-result c = let E = c.add-ticket.ensures in
    holding c.seat.inside.token c.add-ticket.new.token c.seat.inside.number c.add-ticket.result c.seat.invariant E.went E.own

pub returns-clause-rows : goal.returns-clause-rows
returns-clause-rows c = let E = c.add-ticket.ensures in let n : ℕ = c.seat.inside.number in
    subst (λ (y : SeatModel). IsAdded y (seat_of c.add-ticket.new.token n)) c.seat.view_is
    (added c.seat.inside.token c.add-ticket.new.token n c.add-ticket.result c.seat.invariant E.went E.own)

pub returns-clause-caller : goal.returns-clause-caller
returns-clause-caller c = let s = c.seat.inside in
    gets_ticket c.args.seat (seat_of c.add-ticket.new.token s.number)
    (is_sound c.add-ticket.new.token s.number (invariant_of-result c).token_is) (returns-clause-rows c)
