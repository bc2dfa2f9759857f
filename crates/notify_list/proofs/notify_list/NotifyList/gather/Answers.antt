use Rattle.std.proofs.Common.{sym, ap, ◌∙◌, subst, arith}
use Rattle.running_rows.specs.Rule.{IsSomeones}
use Rattle.notify_list.specs.Rows.{list_rows}
use Rattle.notify_list.specs.Plays.{Me}
use Rattle.notify_list.proofs.Owned.{own, low_word, owned}
use Rattle.notify_list.proofs.Gathering.{none_gathered, one_gathered, popped_own}
use Rattle.notify_list.proofs.notify_list.NotifyList.gather.Goals as goal

pub seat_alone-requires : goal.seat_alone-requires
seat_alone-requires c = let x = c.self.inside in let s = c.first.inside.token in (
  omega arith,
  (owned x c.self.invariant s (own x s c.first.inside.number c.self.view_is c.first.view_is c.requires.0), low_word x c.self.invariant 0 (omega arith)),
)

pub loop-seat-init : goal.loop-seat-init
loop-seat-init c =
    let s = c.first.inside.token in let E = c.seat_alone.ensures in
    let at = own c.self.inside s c.first.inside.number c.self.view_is c.first.view_is c.requires.0 in
    none_gathered c.args.self.now c.args.seats.now.items c.seat_alone.new.token
    ((λ i. record { id = E.own i; setting = (E.alone i).0.own.knows.setting }) ∙ at ∙ c.self.view_is) (ap (λ (m : Me). m.0.guests) E.alone)

pub seat_alone-requires-in-Some : goal.seat_alone-requires-in-Some
seat_alone-requires-in-Some c =
    let x = c.self.inside in let o = c.seat.inside.token in let inv = c.loop-seat.invariant in
    let at = own x o c.seat.inside.number c.self.view_is c.seat.view_is
    (popped_own c.args.self.now c.args.seats.now.items c.loop-seat.seats.items inv.gone c.pop.new.self.items c.in-Some.seat
    c.requires.1 inv.parts c.in-Some.ensures.items) in (
      omega arith,
      (owned x c.self.invariant o at, low_word x c.self.invariant 0 (omega arith)),
    )

pub seat_with-requires : goal.seat_with-requires
seat_with-requires c =
    let x = c.self.inside in let o = c.seat.inside.token in let inv = c.loop-seat.invariant in let E = c.seat_alone-in-Some.ensures in
    let at = own x o c.seat.inside.number c.self.view_is c.seat.view_is
    (popped_own c.args.self.now c.args.seats.now.items c.loop-seat.seats.items inv.gone c.pop.new.self.items c.in-Some.seat
    c.requires.1 inv.parts c.in-Some.ensures.items) in
    let his = owned x c.self.invariant o at in (
      omega arith,
      (
        owned x c.self.invariant c.loop-seat.token (inv.own ∙ sym c.self.view_is),
        (
          (
            E.own ∙ his.0,
            subst (λ (m : Me). IsSomeones list_rows m.0) (sym E.alone) his.1,
            ap (λ (m : Me). m.1) E.alone ∙ c.seat.invariant.token_is.bare,
          ),
          (ap (λ (m : Me). m.0.guests) E.alone, low_word x c.self.invariant 0 (omega arith)),
        ),
      ),
    )

pub loop-seat-preserved : goal.loop-seat-preserved
loop-seat-preserved c =
    one_gathered c.args.self.now c.args.seats.now.items _ c.loop-seat.seats.items c.pop.new.self.items c.loop-seat.token c.seat_with.new.token c.in-Some.seat
    c.seat.inside.token c.seat_alone-in-Some.new.token c.seat.inside.number
    c.loop-seat.invariant c.in-Some.ensures.items c.seat.view_is c.seat.invariant (ap (λ (m : Me). m.0.own) c.seat_alone-in-Some.ensures.alone)
    c.seat_with.ensures.own c.seat_with.ensures.both
