use Rattle.std.proofs.Common.{◌<◌, length, sym, subst}
use Rattle.sema_table.specs.Seats.{TableModel}
use Rattle.sema_table.proofs.Leaving.{stands_sought, can_spend, stands_left, left_seat, left_rows, stands_missed, coming_seat, coming_rows}
use Rattle.sema_table.proofs.sema_table.SemaTable.leave_locked.Goals as goal

pub withdraw-requires-clause-seat : goal.withdraw-requires-clause-seat
withdraw-requires-clause-seat g c =
    let s = c.requires.seat.0 in let h = c.requires.seat.1 in let t1 = c.args.token in let n = c.args.numbers in let a = c.args.call.now in (
      stands_sought s t1 t1 t1 n a c.args.turn h.token_is h.locked.0 c.args.self.now h.table_is h.inside,
      h.locked.1,
      can_spend s t1 t1 t1 n a c.args.turn h.token_is h.locked.0 c.requires.seat.3,
    )

pub unlock_left-requires-clause-seat : goal.unlock_left-requires-clause-seat
unlock_left-requires-clause-seat g c =
    let s = c.requires.seat.0 in let h = c.requires.seat.1 in let t1 = c.args.token in let t2 = c.withdraw.new.token in let n = c.args.numbers in
    let a = c.args.call.now in let x = c.if-withdraw.ensures.settled in (
      stands_left s t1 t2 t2 n a c.args.turn h.token_is h.locked.0 x.0 x.1 c.requires.seat.3 c.args.self.now h.table_is h.inside,
      c.withdraw.ensures.record,
    )

pub invariant_of-result : goal.invariant_of-result
invariant_of-result g c =
    let h = c.requires.seat.1 in let x = c.if-withdraw.ensures.settled in let y = c.unlock_left.ensures in
    left_seat c.requires.seat.0 c.args.token c.withdraw.new.token c.unlock_left.new.token c.args.numbers c.args.call.now c.args.turn h.token_is h.locked.0
    x.0 x.1 c.requires.seat.3 y.0 y.1

pub returns-then-withdraw : goal.returns-then-withdraw
returns-then-withdraw g c s h parked =
    let x = c.if-withdraw.ensures.settled in let y = c.unlock_left.ensures in
    left_rows s c.args.token c.withdraw.new.token c.unlock_left.new.token c.args.numbers c.args.call.now c.args.turn h.token_is h.locked.0
    x.0 x.1 c.requires.seat.3 y.0 y.1 parked

pub unlock_coming-requires-clause-seat : goal.unlock_coming-requires-clause-seat
unlock_coming-requires-clause-seat g c =
    let s = c.requires.seat.0 in let h = c.requires.seat.1 in let t1 = c.args.token in let t2 = c.withdraw.new.token in let n = c.args.numbers in
    let a = c.args.call.now in let x = c.if-withdraw.ensures.settled in (
      stands_missed s t1 t2 t2 n a c.args.turn h.token_is h.locked.0 x.0 x.1 x.2 c.args.self.now h.table_is h.inside,
      c.withdraw.ensures.record,
    )

pub invariant_of-result-2 : goal.invariant_of-result-2
invariant_of-result-2 g c =
    let h = c.requires.seat.1 in let a = c.args.call.now in let x = c.if-withdraw.ensures.settled in let y = c.unlock_coming.ensures in
    coming_seat c.requires.seat.0 c.args.token c.withdraw.new.token c.unlock_coming.new.token c.args.numbers a c.args.turn h.token_is h.locked.0
    x.0 x.1 x.2 y.0 y.1 (subst (λ (z : TableModel). a.counter < length z.setting.starts) (sym h.table_is) h.inside)

pub returns : goal.returns
returns g c s h parked =
    let x = c.if-withdraw.ensures.settled in let y = c.unlock_coming.ensures in
    coming_rows s c.args.token c.withdraw.new.token c.unlock_coming.new.token c.args.numbers c.args.call.now c.args.turn h.token_is h.locked.0
    x.0 x.1 x.2 y.0 y.1 parked
