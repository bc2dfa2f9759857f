use Rattle.std.proofs.Common.{◌-◌, sym, ap, subst, ◌∙◌, arith}
use Rattle.running_rows.specs.Rule.{IsSomeones}
use Rattle.running_rows.specs.Sitting.{sitting}
use Rattle.sema_table.specs.Rows.{Me, semaphore_rows}
use Rattle.sema_table.specs.Seats.{TableModel}
use Rattle.sema_table.proofs.Owned.{own, has_word, someones}
use Rattle.sema_table.proofs.Gathering.{none_gathered, one_gathered, popped_own}
use Rattle.sema_table.proofs.Striding.{slots_are}
use Rattle.sema_table.proofs.sema_table.SemaTable.gather.Goals as goal

pub seat_alone-requires : goal.seat_alone-requires
seat_alone-requires c =
    let s = c.first.inside.token in let at = own c.self.inside s c.first.inside.numbers c.self.view_is c.first.view_is c.requires.own.0 in
    (omega arith, ((ap (λ (t : TableModel). t.id) at, someones c.self.inside c.self.invariant s at), has_word c.self.inside c.self.invariant))

pub loop-seat-init : goal.loop-seat-init
loop-seat-init c =
    let s = c.first.inside.token in let n = c.first.inside.numbers in let E = c.seat_alone.ensures in
    let at = own c.self.inside s n c.self.view_is c.first.view_is c.requires.own.0 in
    let low = c.self.invariant.limited ∙ ap (λ (t : TableModel). t.setting.limit) c.self.view_is in let most = c.first.invariant.token_is.most in
    none_gathered c.args.self.now c.args.seats.now.items c.seat_alone.new.token (c.self.inside.limit - n.left - n.withdrawn) n.taken
    ((λ i. record { id = E.own i; setting = (E.alone i).0.own.knows.setting }) ∙ at ∙ c.self.view_is)
    (ap (λ (m : Me). m.0.guests) E.alone) (omega arith) most

pub seat_alone-requires-in-Some : goal.seat_alone-requires-in-Some
seat_alone-requires-in-Some c =
    let o = c.seat.inside.token in let inv = c.loop-seat.invariant in
    let at = own c.self.inside o c.seat.inside.numbers c.self.view_is c.seat.view_is
    (popped_own c.args.self.now c.args.seats.now.items c.loop-seat.seats.items inv.gone c.pop.new.self.items c.in-Some.seat
    c.requires.own.1 inv.parts c.in-Some.ensures.items) in
    (omega arith, ((ap (λ (t : TableModel). t.id) at, someones c.self.inside c.self.invariant o at), has_word c.self.inside c.self.invariant))

pub seat_with-requires : goal.seat_with-requires
seat_with-requires c =
    let o = c.seat.inside.token in let inv = c.loop-seat.invariant in let mine = inv.own ∙ sym c.self.view_is in let E = c.seat_alone-in-Some.ensures in
    let at = own c.self.inside o c.seat.inside.numbers c.self.view_is c.seat.view_is
    (popped_own c.args.self.now c.args.seats.now.items c.loop-seat.seats.items inv.gone c.pop.new.self.items c.in-Some.seat
    c.requires.own.1 inv.parts c.in-Some.ensures.items) in (
      omega arith,
      (
        (ap (λ (t : TableModel). t.id) mine, someones c.self.inside c.self.invariant c.loop-seat.token mine),
        (
          (
            E.own ∙ ap (λ (t : TableModel). t.id) at,
            subst (λ (m : Me). IsSomeones semaphore_rows m.0) (sym E.alone) (someones c.self.inside c.self.invariant o at),
            slots_are E.alone ∙ c.seat.invariant.token_is.bare,
          ),
          (ap (λ (m : Me). m.0.guests) E.alone, has_word c.self.inside c.self.invariant),
        ),
      ),
    )

pub loop-seat-preserved : goal.loop-seat-preserved
loop-seat-preserved c =
    let o = c.seat.inside.token in let inv = c.loop-seat.invariant in
    let at = own c.self.inside o c.seat.inside.numbers c.self.view_is c.seat.view_is
    (popped_own c.args.self.now c.args.seats.now.items c.loop-seat.seats.items inv.gone c.pop.new.self.items c.in-Some.seat
    c.requires.own.1 inv.parts c.in-Some.ensures.items) in
    one_gathered c.args.self.now c.args.seats.now.items _ c.loop-seat.seats.items c.pop.new.self.items c.loop-seat.token c.seat_with.new.token
    _ _ c.loop-seat.releases c.loop-seat.acquires c.self.inside.limit c.in-Some.seat o c.seat.inside.numbers
    inv c.in-Some.ensures.items c.seat.view_is c.seat.invariant (at ∙ c.self.view_is)
    (c.self.invariant.limited ∙ ap (λ (t : TableModel). t.setting.limit) c.self.view_is) c.seat_with.ensures.own
    (c.seat_with.ensures.both ∙ (λ i. (sitting c.loop-seat.token.me.0 (c.seat_alone-in-Some.ensures.alone i).0, c.loop-seat.token.me.1)))
