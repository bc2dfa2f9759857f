use Rattle.std.proofs.Common.{[], arith, refl}
use Rattle.step_table.specs.declared.place.AcquireRow.TheVariants.{A5, A7, A8}
use Rattle.step_table.specs.declared.place.Place.TheVariants.{Acquiring}
use Rattle.sema_table.specs.Walks.{moved_to}
use Rattle.sema_table.proofs.Walking.{walked_yet, stands_on}
use Rattle.sema_table.proofs.Repeating.{then_moved, then_took}
use Rattle.sema_table.proofs.sema_table.SemaTable.look_again.Goals as goal

pub loop-init : goal.loop-init
loop-init c = record { walked = walked_yet c.args.self.now c.args.token.now (Acquiring c.args.call.now A5) refl c.requires.0; kept = c.requires.1; turns = omega arith; few = omega arith }

pub try_at_lock-requires : goal.try_at_lock-requires
try_at_lock-requires c = let a = c.args.call.now in let s = c.args.token.now in (
  stands_on c.args.self.now s c.loop.token (Acquiring a A5) (moved_to s (Acquiring a A5)) [] 0 c.requires.0 c.loop.invariant.walked refl refl,
  c.loop.invariant.kept,
)

pub returns-in-Taken-clause-record : goal.returns-in-Taken-clause-record
returns-in-Taken-clause-record c = c.in-Taken.ensures.record

pub returns-in-Taken-clause-settled : goal.returns-in-Taken-clause-settled
returns-in-Taken-clause-settled c =
    let a = c.args.call.now in let s = c.args.token.now in
    then_took s c.loop.token c.try_at_lock.new.token (Acquiring a A5) (Acquiring a A8) c.loop.invariant.walked a.counter c.in-Taken.ensures.tried

pub returns-in-Zero-clause-record : goal.returns-in-Zero-clause-record
returns-in-Zero-clause-record c = c.in-Zero.ensures.record

pub returns-in-Zero-clause-settled : goal.returns-in-Zero-clause-settled
returns-in-Zero-clause-settled c = let a = c.args.call.now in (
  then_moved c.args.token.now c.loop.token c.try_at_lock.new.token (Acquiring a A5) (Acquiring a A7) c.loop.invariant.walked c.in-Zero.ensures.tried.0,
  c.in-Zero.ensures.tried.1,
)

pub loop-preserved : goal.loop-preserved
loop-preserved c = let a = c.args.call.now in record {
  walked = then_moved c.args.token.now c.loop.token c.try_at_lock.new.token (Acquiring a A5) (Acquiring a A5) c.loop.invariant.walked c.in-Lost.ensures.tried.0;
  kept = c.in-Lost.ensures.record;
  turns = let was = c.loop.invariant.turns in let one = c.in-Lost.ensures.tried.1.more in omega arith;
  few = let was = c.loop.invariant.turns in let one = c.in-Lost.ensures.tried.1 in omega arith;
}

-- all changes of the counter are fewer
pub unreachable-requires : goal.unreachable-requires
unreachable-requires c = let few = c.loop.invariant.few in omega arith
