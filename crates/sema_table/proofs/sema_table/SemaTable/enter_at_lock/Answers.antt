use Rattle.sema_table.proofs.sema_table.SemaTable.enter_at_lock.Goals as goal

pub enter_locked-requires-clause-seat : goal.enter_locked-requires-clause-seat
enter_locked-requires-clause-seat g c = (
  c.args.token,
  record { token_is = c.requires.seat.0; table_is = c.requires.seat.1; inside = c.requires.call.0; locked = c.lock.ensures },
)

pub returns : goal.returns
returns g c = c.enter_locked.ensures c.args.token
    (record { token_is = c.requires.seat.0; table_is = c.requires.seat.1; inside = c.requires.call.0; locked = c.lock.ensures })
