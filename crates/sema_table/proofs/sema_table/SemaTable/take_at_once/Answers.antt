use Rattle.std.proofs.Common.{arith}
use Rattle.sema_table.proofs.Acquiring.{tries_taken, tries_none, tries_lost}
use Rattle.sema_table.proofs.sema_table.SemaTable.take_at_once.Goals as goal

pub returns-in-Taken : goal.returns-in-Taken
returns-in-Taken c = tries_taken c.args.seat.now c.loop.seat c.try_acquire.new.seat c.args.counter c.loop.invariant.tried c.in-Taken.ensures.rows

pub returns-in-Zero : goal.returns-in-Zero
returns-in-Zero c = tries_none c.args.seat.now c.loop.seat c.try_acquire.new.seat c.args.counter c.loop.invariant.tried c.in-Zero.ensures.rows

pub loop-preserved : goal.loop-preserved
loop-preserved c = record {
  tried = tries_lost c.args.seat.now c.loop.seat c.try_acquire.new.seat c.args.counter c.loop.invariant.tried c.in-Lost.ensures.rows;
  turns = let was = c.loop.invariant.turns in let one = c.in-Lost.ensures.settles.more in omega arith;
  few = let was = c.loop.invariant.turns in let one = c.in-Lost.ensures.settles in omega arith;
}

-- all changes of the counter are fewer
pub unreachable-requires : goal.unreachable-requires
unreachable-requires c = let few = c.loop.invariant.few in omega arith
