use Rattle.std.proofs.Common.{inl}
use Rattle.sema_table.specs.declared.answers.Acquired.TheVariants.{Taken, TimedOut}
use Rattle.sema_table.proofs.CallerAcquires.{takes_at_once, finds_none}
use Rattle.sema_table.proofs.CallerTimed.{enters_first, queues_first, then_waits, same_table}
use Rattle.sema_table.proofs.sema_table.SemaTable.acquire_until.Goals as goal

pub returns-then-took-clause-caller : goal.returns-then-took-clause-caller
returns-then-took-clause-caller g c = inl (takes_at_once c.args.seat c.take_at_once-took.new.seat c.args.counter c.if-took.ensures)

pub returns-then-took-clause-own : goal.returns-then-took-clause-own
returns-then-took-clause-own g c =
    same_table c.args.seat c.args.counter c.args.lifo (Taken c.take_at_once-took.new.seat) (returns-then-took-clause-caller g c)

pub returns-then-is_zero-clause-caller : goal.returns-then-is_zero-clause-caller
returns-then-is_zero-clause-caller g c = inl (finds_none c.args.seat c.take_at_once-took.new.seat c.args.counter c.if-took.ensures)

pub returns-then-is_zero-clause-own : goal.returns-then-is_zero-clause-own
returns-then-is_zero-clause-own g c =
    same_table c.args.seat c.args.counter c.args.lifo (TimedOut c.take_at_once-took.new.seat) (returns-then-is_zero-clause-caller g c)

pub returns-in-Taken-clause-caller : goal.returns-in-Taken-clause-caller
returns-in-Taken-clause-caller g c =
    let found = finds_none c.args.seat c.take_at_once-took.new.seat c.args.counter c.if-took.ensures in
    inl (enters_first c.args.seat c.take_at_once-took.new.seat c.in-Taken.seat c.args.counter c.args.lifo found c.in-Taken.ensures.caller)

pub returns-in-Taken-clause-own : goal.returns-in-Taken-clause-own
returns-in-Taken-clause-own g c =
    same_table c.args.seat c.args.counter c.args.lifo (Taken c.in-Taken.seat) (returns-in-Taken-clause-caller g c)

pub returns-in-Asleep-clause-caller : goal.returns-in-Asleep-clause-caller
returns-in-Asleep-clause-caller g c =
    let found = finds_none c.args.seat c.take_at_once-took.new.seat c.args.counter c.if-took.ensures in
    let first = queues_first c.args.seat c.take_at_once-took.new.seat c.in-Asleep.sleeping c.args.counter c.args.lifo found c.in-Asleep.ensures.caller in
    then_waits c.args.seat first.0 c.args.counter c.args.lifo c.take_until.result first.1 (c.take_until.ensures first.0 first.2)

pub returns-in-Asleep-clause-own : goal.returns-in-Asleep-clause-own
returns-in-Asleep-clause-own g c =
    same_table c.args.seat c.args.counter c.args.lifo c.take_until.result (returns-in-Asleep-clause-caller g c)
