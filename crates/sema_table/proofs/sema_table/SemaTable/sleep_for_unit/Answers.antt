use Rattle.std.proofs.Common.{◌∙◌}
use Rattle.sema_table.proofs.CallerTimed.{came, woken, retakes, requeues}
use Rattle.sema_table.proofs.sema_table.SemaTable.sleep_for_unit.Goals as goal

pub returns-in-Handed : goal.returns-in-Handed
returns-in-Handed g d s c lifo sleeps =
    came s c lifo d.loop.sleeping (d.loop.invariant.sleeps s c lifo sleeps) d.in-Handed.seat d.in-Handed.ensures.caller

pub returns-in-Taken : goal.returns-in-Taken
returns-in-Taken g d s c lifo sleeps =
    let tries = woken s c lifo d.loop.sleeping (d.loop.invariant.sleeps s c lifo sleeps) d.in-Woken.woken d.in-Woken.ensures.caller in
    retakes s c lifo d.in-Woken.woken tries d.in-Taken.seat d.in-Taken.ensures.caller

pub loop-preserved : goal.loop-preserved
loop-preserved g d = record {
  table = let queued = d.in-Asleep.ensures.caller.3 in
      queued.2.2.table ∙ queued.1.0.table ∙ d.in-Woken.ensures.caller.4.table ∙ d.loop.invariant.table;
  sleeps = λ s c lifo sleeps.
      let tries = woken s c lifo d.loop.sleeping (d.loop.invariant.sleeps s c lifo sleeps) d.in-Woken.woken d.in-Woken.ensures.caller in
      requeues s c lifo d.in-Woken.woken tries d.in-Asleep.again d.in-Asleep.ensures.caller;
}
