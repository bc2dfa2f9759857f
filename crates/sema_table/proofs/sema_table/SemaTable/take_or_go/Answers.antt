use Rattle.std.proofs.Common.{inl}
use Rattle.sema_table.proofs.CallerAcquires.{takes_at_once, finds_none}
use Rattle.sema_table.proofs.CallerTimed.{withdrew_took}
use Rattle.sema_table.proofs.sema_table.SemaTable.take_or_go.Goals as goal

pub returns-then-take_at_once : goal.returns-then-take_at_once
returns-then-take_at_once c s withdrew =
    withdrew_took s c.args.counter c.args._lifo c.args.seat c.take_at_once.new.seat withdrew
    (takes_at_once c.args.seat c.take_at_once.new.seat c.args.counter c.if-take_at_once.ensures)

pub returns : goal.returns
returns c s withdrew =
    (c.args.seat, inl withdrew, finds_none c.args.seat c.take_at_once.new.seat c.args.counter c.if-take_at_once.ensures)
