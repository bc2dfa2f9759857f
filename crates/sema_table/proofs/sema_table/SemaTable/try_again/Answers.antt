use Rattle.std.proofs.Common.{[], arith, refl, ◌∙◌}
use Rattle.step_table.specs.declared.place.AcquireRow.TheVariants.{A3, A10}
use Rattle.step_table.specs.declared.place.Place.TheVariants.{Rest, Acquiring}
use Rattle.sema_table.specs.Walks.{moved_to}
use Rattle.sema_table.proofs.Walking.{walked_yet, stands_on}
use Rattle.sema_table.proofs.Repeating.{then_moved, then_took}
use Rattle.sema_table.proofs.sema_table.SemaTable.try_again.Goals as goal

pub loop-init : goal.loop-init
loop-init c = record { walked = walked_yet c.args.self.now c.args.token.now (Acquiring c.args.call.now A10) refl c.requires; slots = refl; turns = omega arith; few = omega arith }

pub try_woken-requires : goal.try_woken-requires
try_woken-requires c =
    let a = c.args.call.now in let s = c.args.token.now in
    stands_on c.args.self.now s c.loop.token (Acquiring a A10) (moved_to s (Acquiring a A10)) [] 0 c.requires c.loop.invariant.walked refl refl

pub returns-in-Taken-clause-slots : goal.returns-in-Taken-clause-slots
returns-in-Taken-clause-slots c = c.in-Taken.ensures.slots ∙ c.loop.invariant.slots

pub returns-in-Taken-clause-settled : goal.returns-in-Taken-clause-settled
returns-in-Taken-clause-settled c =
    let a = c.args.call.now in let s = c.args.token.now in
    then_took s c.loop.token c.try_woken.new.token (Acquiring a A10) Rest c.loop.invariant.walked a.counter c.in-Taken.ensures.tried

pub returns-in-Zero-clause-slots : goal.returns-in-Zero-clause-slots
returns-in-Zero-clause-slots c = c.in-Zero.ensures.slots ∙ c.loop.invariant.slots

pub returns-in-Zero-clause-settled : goal.returns-in-Zero-clause-settled
returns-in-Zero-clause-settled c =
    let a = c.args.call.now in let s = c.args.token.now in
    then_moved s c.loop.token c.try_woken.new.token (Acquiring a A10) (Acquiring a A3) c.loop.invariant.walked c.in-Zero.ensures.tried

pub loop-preserved : goal.loop-preserved
loop-preserved c = let a = c.args.call.now in record {
  walked = then_moved c.args.token.now c.loop.token c.try_woken.new.token (Acquiring a A10) (Acquiring a A10) c.loop.invariant.walked c.in-Lost.ensures.tried.0;
  slots = c.in-Lost.ensures.slots ∙ c.loop.invariant.slots;
  turns = let was = c.loop.invariant.turns in let one = c.in-Lost.ensures.tried.1.more in omega arith;
  few = let was = c.loop.invariant.turns in let one = c.in-Lost.ensures.tried.1 in omega arith;
}

-- all changes of the counter are fewer
pub unreachable-requires : goal.unreachable-requires
unreachable-requires c = let few = c.loop.invariant.few in omega arith
