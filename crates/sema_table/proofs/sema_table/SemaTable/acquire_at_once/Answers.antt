use Rattle.std.proofs.Common.{inl}
use Rattle.sema_table.proofs.CallerAcquires.{takes_at_once, finds_none}
use Rattle.sema_table.proofs.sema_table.SemaTable.acquire_at_once.Goals as goal

pub returns-then-take_at_once : goal.returns-then-take_at_once
returns-then-take_at_once c = inl (takes_at_once c.args.seat c.take_at_once.new.seat c.args.counter c.if-take_at_once.ensures)

pub returns : goal.returns
returns c = inl (finds_none c.args.seat c.take_at_once.new.seat c.args.counter c.if-take_at_once.ensures)
