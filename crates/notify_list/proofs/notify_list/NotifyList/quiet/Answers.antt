use Rattle.std.proofs.Common.{◌==◌, ℕ, ◌∙◌, refl, subst, arith}
use Rattle.step_table.specs.declared.list_place.ListPlace.TheVariants.{NotifyingOne}
use Rattle.step_table.specs.declared.list_place.OneRow.TheVariants.{O1}
use Rattle.notify_list.specs.Places.{at_place, ones}
use Rattle.notify_list.specs.Plays.{at_one}
use Rattle.notify_list.specs.Seats.{SeatModel, seat_of, stands_of}
use Rattle.notify_list.specs.Calls.{AllGranted}
use Rattle.notify_list.specs.Tickets.{HasLooked}
use Rattle.notify_list.proofs.Owned.{own, low_word, owned}
use Rattle.notify_list.proofs.Leading.{equal_is}
use Rattle.notify_list.proofs.Allowing.{row_goes, goes_at}
use Rattle.notify_list.proofs.Looking.{stands_first, looked, looked_seat, all_granted}
use Rattle.notify_list.proofs.Answering.{is_sound}
use Rattle.notify_list.proofs.Callers.{finds_all}
use Rattle.notify_list.proofs.notify_list.NotifyList.quiet.Goals as goal

pub load-waited-requires : goal.load-waited-requires
load-waited-requires c =
    let x = c.self.inside in let s = c.seat.inside.token in let seat = c.seat.invariant in
    let at = own x s c.seat.inside.number c.self.view_is c.seat.view_is c.requires in (
      omega arith,
      (
        owned x c.self.invariant s at,
        (
          low_word x c.self.invariant 0 (omega arith),
          row_goes s.me (at_place (NotifyingOne 0 O1) (stands_of s)) (ones seat.free) at_one refl _ 0 (λ n. n) (λ e. absurd (omega arith))
              (λ w n known. record { word = refl; there = tt; can = refl; becomes = refl }),
        ),
      ),
    )

pub load-requires : goal.load-requires
load-requires c =
    let x = c.self.inside in let s = c.seat.inside.token in let n : ℕ = c.seat.inside.number in
    let t = c.load-waited.new.token in let E = c.load-waited.ensures in
    let at = own x s n c.self.view_is c.seat.view_is c.requires in
    let at_t = (λ i. record { id = E.own i; setting = E.went.0.same.1 i }) ∙ at in (
      omega arith,
      (
        owned x c.self.invariant t at_t,
        (
          low_word x c.self.invariant 1 (omega arith),
          goes_at _ t.me 1 _ (stands_first s t c.load-waited.result E.went) (λ k. k) (λ e. absurd (omega arith))
              (λ w k known. record { word = refl; there = tt; can = refl; becomes = refl }),
        ),
      ),
    )

pub invariant_of-seat : goal.invariant_of-seat
invariant_of-seat c = let E = c.load-waited.ensures in let F = c.load.ensures in
    looked_seat c.seat.inside.token c.load-waited.new.token c.load.new.token c.seat.inside.number c.load-waited.result c.load.result
    c.seat.invariant E.went F.went E.own F.own

pub returns-clause-looked : goal.returns-clause-looked
returns-clause-looked c = let E = c.load-waited.ensures in let F = c.load.ensures in
    subst (λ (y : SeatModel). HasLooked y (c.load-waited.result == c.load.result) (seat_of c.load.new.token c.seat.inside.number)) c.seat.view_is
    (looked c.seat.inside.token c.load-waited.new.token c.load.new.token c.seat.inside.number c.load-waited.result c.load.result
    c.seat.invariant E.went F.went E.own F.own)

pub returns-clause-granted : goal.returns-clause-granted
returns-clause-granted c e = let E = c.load-waited.ensures in let F = c.load.ensures in
    subst (λ (y : SeatModel). AllGranted y (seat_of c.load.new.token c.seat.inside.number)) c.seat.view_is
    (all_granted c.seat.inside.token c.load-waited.new.token c.load.new.token c.seat.inside.number c.load-waited.result c.load.result c.seat.invariant
    E.went F.went E.own F.own (equal_is c.load-waited.result c.load.result e))

pub returns-clause-caller : goal.returns-clause-caller
returns-clause-caller c = let s = c.seat.inside in
    finds_all c.args.seat.now (seat_of c.load.new.token s.number)
    (is_sound c.load.new.token s.number (invariant_of-seat c).token_is) (c.load-waited.result == c.load.result)
    (returns-clause-looked c) (returns-clause-granted c)
