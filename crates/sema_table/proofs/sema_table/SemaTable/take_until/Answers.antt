use Rattle.std.proofs.Common.{sym, ◌∙◌, arith}
use Rattle.sema_table.proofs.CallerTimed.{still_sleeps, woken, handed}
use Rattle.sema_table.proofs.sema_table.SemaTable.take_until.Goals as goal

pub returns-in-Handed : goal.returns-in-Handed
returns-in-Handed g c s sleeps =
    handed s c.args.counter c.args.lifo c.loop.sleeping (c.loop.invariant.sleeps s sleeps) c.in-Handed.seat c.in-Handed.ensures.caller

pub returns-in-Still : goal.returns-in-Still
returns-in-Still g c s sleeps =
    c.give_up.ensures s
    (still_sleeps s c.args.counter c.args.lifo c.loop.sleeping (c.loop.invariant.sleeps s sleeps) c.in-Still.still c.in-Still.ensures.caller)

pub returns-in-Err : goal.returns-in-Err
returns-in-Err g c s sleeps =
    c.in-Err.ensures.waits s
    (woken s c.args.counter c.args.lifo c.loop.sleeping (c.loop.invariant.sleeps s sleeps) c.in-Woken.woken c.in-Woken.ensures.caller)

pub loop-preserved : goal.loop-preserved
loop-preserved g c = record {
  table = c.in-Ok.ensures.same.0 ∙ sym c.requires.seat.0;
  left = let was = c.loop.invariant.left in let slept = c.in-Woken.ensures.caller.4.left in let tried = c.in-Ok.ensures.same.1 in omega arith;
  sleeps = λ s sleeps. c.in-Ok.ensures.waits s
      (woken s c.args.counter c.args.lifo c.loop.sleeping (c.loop.invariant.sleeps s sleeps) c.in-Woken.woken c.in-Woken.ensures.caller);
}
