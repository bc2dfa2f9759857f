use Rattle.std.proofs.Common.{sym, subst}
use Rattle.sema_table.specs.Seats.{seat_of}
use Rattle.sema_table.specs.Many.{WakesMany}
use Rattle.sema_table.proofs.sema_table.SemaTable.wake_some_at_lock.Goals as goal

pub wake_some_locked-seat-requires-clause-seat : goal.wake_some_locked-seat-requires-clause-seat
wake_some_locked-seat-requires-clause-seat g c = (
  c.args.token,
  record { token_is = c.requires.seat.0; table_is = c.requires.seat.1; inside = c.requires.call.0; locked = c.lock.ensures },
)

pub returns : goal.returns
returns g c =
    let o = c.wake_some_locked-seat.ensures c.args.token
    (record { token_is = c.requires.seat.0; table_is = c.requires.seat.1; inside = c.requires.call.0; locked = c.lock.ensures }) in (
      o.0,
      o.1,
      subst (λ k. WakesMany (seat_of c.args.token c.args.numbers) c.args.call.now c.wake_some_locked-seat.result k) (sym c.len-woken.ensures.value) o.2.0,
    )
