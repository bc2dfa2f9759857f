use Rattle.std.proofs.Common.{ap, ◌∙◌, subst, arith}
use Rattle.notify_list.specs.Plays.{Me}
use Rattle.notify_list.specs.Seats.{SeatModel, seat_of}
use Rattle.notify_list.specs.Meeting.{HasMet}
use Rattle.notify_list.proofs.Owned.{own, low_word, owned}
use Rattle.notify_list.proofs.LookingTogether.{word_seen, looked_seat, have_met}
use Rattle.notify_list.proofs.Answering.{is_sound}
use Rattle.notify_list.proofs.CallersEnding.{see_the_same}
use Rattle.notify_list.proofs.notify_list.NotifyList.meet.Goals as goal

pub meet-requires : goal.meet-requires
meet-requires c = let x = c.self.inside in let s = c.one.inside.token in let o = c.other.inside.token in (
  omega arith,
  (
    owned x c.self.invariant s (own x s c.one.inside.number c.self.view_is c.one.view_is c.requires.0),
    (
      owned x c.self.invariant o (own x o c.other.inside.number c.self.view_is c.other.view_is c.requires.1),
      (c.other.invariant.token_is.bare, (low_word x c.self.invariant 0 (omega arith), word_seen _ _ tt)),
    ),
  ),
)

pub invariant_of-one : goal.invariant_of-one
invariant_of-one c = let M = c.meet.ensures in
    looked_seat c.one.inside.token c.meet.new.one c.one.inside.number c.meet.result c.one.invariant M.met.one M.own.0
    (ap (λ (m : Me). m.1) M.one ∙ c.one.invariant.token_is.bare)

pub invariant_of-other : goal.invariant_of-other
invariant_of-other c = let M = c.meet.ensures in
    looked_seat c.other.inside.token c.meet.new.other c.other.inside.number c.meet.result c.other.invariant M.met.other M.own.1 (ap (λ (m : Me). m.1) M.other)

pub returns-clause-rows : goal.returns-clause-rows
returns-clause-rows c = let M = c.meet.ensures in let s = c.one.inside.token in let o = c.other.inside.token in
    subst (λ (q : SeatModel × SeatModel). HasMet q.0 q.1 (seat_of c.meet.new.one c.one.inside.number) (seat_of c.meet.new.other c.other.inside.number))
    (λ i. (c.one.view_is i, c.other.view_is i))
    (have_met s o c.meet.new.one c.meet.new.other c.one.inside.number c.other.inside.number c.meet.result c.one.invariant c.other.invariant M.met
    M.own.0 M.own.1)

pub returns-clause-caller : goal.returns-clause-caller
returns-clause-caller c = let s = c.one.inside in let o = c.other.inside in
    see_the_same c.args.one.now c.args.other.now (seat_of c.meet.new.one s.number) (seat_of c.meet.new.other o.number)
    (is_sound c.meet.new.one s.number (invariant_of-one c).token_is).lawful
    (is_sound c.meet.new.other o.number (invariant_of-other c).token_is).lawful (returns-clause-rows c)
