use Rattle.notify_list.proofs.Signalling.{quiet_one, place_then, locked_one, least_one, none_one}
use Rattle.notify_list.proofs.CallersNotifying.{notifies_one}
use Rattle.notify_list.proofs.notify_list.NotifyList.one.Goals as goal

pub returns-then-quiet-clause-rows : goal.returns-then-quiet-clause-rows
returns-then-quiet-clause-rows g c = quiet_one c.args.seat.now c.quiet.new.seat c.if-quiet.ensures.looked

pub returns-clause-rows : goal.returns-clause-rows
returns-clause-rows g c = let x = c.if-quiet.ensures.looked in
    locked_one c.args.seat.now c.quiet.new.seat c.one_at_lock.new.seat x c.one_at_lock.result
    (c.one_at_lock.ensures.rows x.h (place_then c.args.seat.now c.quiet.new.seat c.one_at_lock.new.seat x))

pub returns-clause-some : goal.returns-clause-some
returns-clause-some g c = let x = c.if-quiet.ensures.looked in
    least_one c.args.seat.now c.quiet.new.seat c.one_at_lock.new.seat x c.one_at_lock.result
    (c.one_at_lock.ensures.rows x.h (place_then c.args.seat.now c.quiet.new.seat c.one_at_lock.new.seat x))

pub returns-clause-none : goal.returns-clause-none
returns-clause-none g c = let x = c.if-quiet.ensures.looked in
    none_one c.args.seat.now c.quiet.new.seat c.one_at_lock.new.seat x c.one_at_lock.result
    (c.one_at_lock.ensures.rows x.h (place_then c.args.seat.now c.quiet.new.seat c.one_at_lock.new.seat x))

pub returns-then-quiet-clause-caller : goal.returns-then-quiet-clause-caller
returns-then-quiet-clause-caller g c = c.if-quiet.ensures.caller

pub returns-clause-caller : goal.returns-clause-caller
returns-clause-caller g c =
    notifies_one c.args.seat.now c.one_at_lock.new.seat c.one_at_lock.ensures.lawful c.one_at_lock.result (returns-clause-rows g c)
    (returns-clause-some g c) (returns-clause-none g c)
