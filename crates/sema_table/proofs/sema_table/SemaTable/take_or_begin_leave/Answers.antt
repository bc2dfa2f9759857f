use Rattle.std.proofs.Common.{[], sym, ◌∙◌, subst, arith}
use Rattle.sema_table.specs.Seats.{SeatModel}
use Rattle.sema_table.specs.declared.answers.GaveUp.TheVariants.{Coming, Woken}
use Rattle.sema_table.specs.Callers.{IsSeatAfter, StandsOn}
use Rattle.sema_table.specs.CallersLeaving.{GivesUp}
use Rattle.sema_table.specs.CallersTimed.{IsToTry}
use Rattle.sema_table.proofs.CallerTimed.{came, holds, woken, still_sleeps, retakes, requeues, quietly}
use Rattle.sema_table.proofs.sema_table.SemaTable.take_or_begin_leave.Goals as goal
use Rattle.sema_table.proofs.sema_table.SemaTable.take_or_begin_leave.Goals.{in-Woken, in-Still+in-Err-Woken}

pub returns-in-Handed : goal.returns-in-Handed
returns-in-Handed g d s c lifo sleeps =
    came s c lifo d.loop.sleeping (d.loop.invariant.sleeps s c lifo sleeps) d.in-Handed.seat d.in-Handed.ensures.caller

pub returns-in-Ok : goal.returns-in-Ok
returns-in-Ok g d s c lifo sleeps =
    let still = still_sleeps s c lifo d.loop.sleeping (d.loop.invariant.sleeps s c lifo sleeps) d.in-Still.still d.in-Still.ensures.caller in
    holds s c lifo d.in-Still.still still d.in-Ok.leaving d.in-Ok.ensures.caller

pub returns-in-Err-Handed : goal.returns-in-Err-Handed
returns-in-Err-Handed g d s c lifo sleeps =
    let still = still_sleeps s c lifo d.loop.sleeping (d.loop.invariant.sleeps s c lifo sleeps) d.in-Still.still d.in-Still.ensures.caller in
    came s c lifo d.in-Still.still still d.in-Err-Handed.seat
    (subst (GivesUp d.in-Still.still) d.in-Err-Handed.field-0-is d.in-Err-Handed.ensures.caller)

pub returns-in-Err-Coming : goal.returns-in-Err-Coming
returns-in-Err-Coming g d s c lifo sleeps =
    let still = still_sleeps s c lifo d.loop.sleeping (d.loop.invariant.sleeps s c lifo sleeps) d.in-Still.still d.in-Still.ensures.caller in
    d.sleep_for_unit.ensures s c lifo
    (still_sleeps s c lifo d.in-Still.still still d.in-Err-Coming.asleep (stood (subst (GivesUp d.in-Still.still) d.in-Err-Coming.field-0-is
    d.in-Err-Coming.ensures.caller)))
  where
    stood : GivesUp d.in-Still.still (Coming d.in-Err-Coming.asleep) → StandsOn d.in-Still.still d.in-Err-Coming.asleep
    stood x = x.4

pub returns-in-Taken : goal.returns-in-Taken
returns-in-Taken g d s c lifo sleeps =
    retakes s c lifo d.match-sleep_until.woken tries d.in-Taken.seat d.in-Taken.ensures.caller
  where
    tries : IsToTry s c lifo d.match-sleep_until.woken
    tries =
        let on = d.loop.invariant.sleeps s c lifo sleeps in let x = d.loop.sleeping in
        elim d.match-sleep_until.branch [
          | in-Woken w ↦ subst (IsToTry s c lifo) (sym w.woken-is) (woken s c lifo x on w.in-Woken.woken w.in-Woken.ensures.caller)
          | in-Still+in-Err-Woken w ↦ subst (IsToTry s c lifo) (sym w.woken-is)
              (woken s c lifo w.in-Still.still (still_sleeps s c lifo x on w.in-Still.still w.in-Still.ensures.caller) w.in-Err-Woken.woken
              (subst (GivesUp w.in-Still.still) w.in-Err-Woken.field-0-is w.in-Err-Woken.ensures.caller))
        ]

pub loop-preserved : goal.loop-preserved
loop-preserved g d = record {
  table = let queued = d.in-Asleep.ensures.caller.3 in queued.2.2.table ∙ queued.1.0.table ∙ after.table ∙ d.loop.invariant.table;
  left = let queued = d.in-Asleep.ensures.caller.3 in let was = d.loop.invariant.left in let slept = after.left in let found = queued.1.0.left in let last = queued.2.2.left in omega arith;
  sleeps = λ s c lifo sleeps.
      let on = d.loop.invariant.sleeps s c lifo sleeps in let x = d.loop.sleeping in
      let tries : IsToTry s c lifo d.match-sleep_until.woken =
      elim d.match-sleep_until.branch [
        | in-Woken w ↦ subst (IsToTry s c lifo) (sym w.woken-is) (woken s c lifo x on w.in-Woken.woken w.in-Woken.ensures.caller)
        | in-Still+in-Err-Woken w ↦ subst (IsToTry s c lifo) (sym w.woken-is)
            (woken s c lifo w.in-Still.still (still_sleeps s c lifo x on w.in-Still.still w.in-Still.ensures.caller) w.in-Err-Woken.woken
            (subst (GivesUp w.in-Still.still) w.in-Err-Woken.field-0-is w.in-Err-Woken.ensures.caller))
      ] in
      requeues s c lifo d.match-sleep_until.woken tries d.in-Asleep.again d.in-Asleep.ensures.caller;
}
  where
    since_woken : (u t : SeatModel) → GivesUp u (Woken t) → IsSeatAfter u 0 0 [] t
    since_woken u t x = x.4

    after : IsSeatAfter d.loop.sleeping 0 0 [] d.match-sleep_until.woken
    after = elim d.match-sleep_until.branch [
      | in-Woken w ↦ subst (IsSeatAfter d.loop.sleeping 0 0 []) (sym w.woken-is) w.in-Woken.ensures.caller.4
      | in-Still+in-Err-Woken w ↦ subst (IsSeatAfter d.loop.sleeping 0 0 []) (sym w.woken-is)
          (quietly d.loop.sleeping w.in-Still.still w.in-Err-Woken.woken 0 0 [] w.in-Still.ensures.caller.0
          (since_woken w.in-Still.still w.in-Err-Woken.woken
          (subst (GivesUp w.in-Still.still) w.in-Err-Woken.field-0-is w.in-Err-Woken.ensures.caller)))
    ]
