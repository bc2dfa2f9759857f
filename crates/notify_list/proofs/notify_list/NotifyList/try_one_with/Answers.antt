use Rattle.std.proofs.Common.{false}
use Rattle.notify_list.specs.Tickets.{HasLooked}
use Rattle.notify_list.proofs.Signalling.{quiet_one, place_then, tried_rows, tried_some, tried_none, kept_busy}
use Rattle.notify_list.proofs.CallersNotifying.{tries_one}
use Rattle.notify_list.proofs.notify_list.NotifyList.try_one_with.Goals as goal

pub returns-then-quiet-clause-rows : goal.returns-then-quiet-clause-rows
returns-then-quiet-clause-rows g c = quiet_one c.args.seat.now c.quiet-quiet.new.seat c.if-quiet.ensures.looked

pub returns-clause-rows : goal.returns-clause-rows
returns-clause-rows g c = let s = c.args.seat.now in let u = c.quiet-quiet.new.seat in let t = c.try_one_at_lock.new.seat in
    let x : HasLooked s false u = c.if-quiet.ensures.looked in
    tried_rows s u t x c.try_one_at_lock.result (c.try_one_at_lock.ensures.rows x.h (place_then s u t x))

pub returns-clause-some : goal.returns-clause-some
returns-clause-some g c = let s = c.args.seat.now in let u = c.quiet-quiet.new.seat in let t = c.try_one_at_lock.new.seat in
    let x : HasLooked s false u = c.if-quiet.ensures.looked in
    tried_some s u t x c.try_one_at_lock.result (c.try_one_at_lock.ensures.rows x.h (place_then s u t x))

pub returns-clause-none : goal.returns-clause-none
returns-clause-none g c = let s = c.args.seat.now in let u = c.quiet-quiet.new.seat in let t = c.try_one_at_lock.new.seat in
    let x : HasLooked s false u = c.if-quiet.ensures.looked in
    tried_none s u t x c.try_one_at_lock.result (c.try_one_at_lock.ensures.rows x.h (place_then s u t x))

pub returns-clause-caller : goal.returns-clause-caller
returns-clause-caller g c = let s = c.args.seat.now in let u = c.quiet-quiet.new.seat in let t = c.try_one_at_lock.new.seat in
    let x : HasLooked s false u = c.if-quiet.ensures.looked in
    tries_one s u t c.try_one_at_lock.ensures.lawful c.if-quiet.ensures.caller c.try_one_at_lock.result (returns-clause-rows g c)
    (kept_busy _ u t c.try_one_at_lock.result (c.try_one_at_lock.ensures.rows x.h (place_then s u t x))) (returns-clause-some g c) (returns-clause-none g c)
