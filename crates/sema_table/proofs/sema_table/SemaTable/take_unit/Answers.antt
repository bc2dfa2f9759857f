use Rattle.std.proofs.Common.{[], arith, ap, refl, ◌∙◌}
use Rattle.step_table.specs.declared.entry.Entry.TheVariants.{Take}
use Rattle.step_table.specs.declared.place.ReleaseRow.TheVariants.{R7, R9, R10}
use Rattle.step_table.specs.declared.place.Place.TheVariants.{Releasing}
use Rattle.step_table.specs.World.{SeatState}
use Rattle.sema_table.specs.Walks.{moved_to}
use Rattle.sema_table.proofs.Walking.{walked_yet, stands_on}
use Rattle.sema_table.proofs.Repeating.{then_moved, then_told}
use Rattle.sema_table.proofs.sema_table.SemaTable.take_unit.Goals as goal

pub loop-init : goal.loop-init
loop-init c = record { walked = walked_yet c.args.self.now c.args.token.now (Releasing c.args.call.now R7) refl c.requires.0; slots = refl; turns = omega arith; few = omega arith }

pub try_for-requires : goal.try_for-requires
try_for-requires c = let a = c.args.call.now in let s = c.args.token.now in (
  stands_on c.args.self.now s c.loop.token (Releasing a R7) (moved_to s (Releasing a R7)) [] 0 c.requires.0 c.loop.invariant.walked refl refl,
  ap (λ (y : SeatState). y.hand) c.loop.invariant.walked.stands_is ∙ c.requires.1,
)

pub returns-in-Taken-clause-slots : goal.returns-in-Taken-clause-slots
returns-in-Taken-clause-slots c = c.in-Taken.ensures.slots ∙ c.loop.invariant.slots

pub returns-in-Taken-clause-settled : goal.returns-in-Taken-clause-settled
returns-in-Taken-clause-settled c =
    let a = c.args.call.now in let s = c.args.token.now in
    then_told s c.loop.token c.try_for.new.token (Releasing a R7) (Releasing a R9) c.loop.invariant.walked
    (Take a.counter c.args.id.now.seat) c.in-Taken.ensures.tried

pub returns-in-Zero-clause-slots : goal.returns-in-Zero-clause-slots
returns-in-Zero-clause-slots c = c.in-Zero.ensures.slots ∙ c.loop.invariant.slots

pub returns-in-Zero-clause-settled : goal.returns-in-Zero-clause-settled
returns-in-Zero-clause-settled c =
    let a = c.args.call.now in let s = c.args.token.now in
    then_moved s c.loop.token c.try_for.new.token (Releasing a R7) (Releasing a R10) c.loop.invariant.walked c.in-Zero.ensures.tried

pub loop-preserved : goal.loop-preserved
loop-preserved c = let a = c.args.call.now in record {
  walked = then_moved c.args.token.now c.loop.token c.try_for.new.token (Releasing a R7) (Releasing a R7) c.loop.invariant.walked c.in-Lost.ensures.tried.0;
  slots = c.in-Lost.ensures.slots ∙ c.loop.invariant.slots;
  turns = let was = c.loop.invariant.turns in let one = c.in-Lost.ensures.tried.1.more in omega arith;
  few = let was = c.loop.invariant.turns in let one = c.in-Lost.ensures.tried.1 in omega arith;
}

-- all changes of the counter are fewer
pub unreachable-requires : goal.unreachable-requires
unreachable-requires c = let few = c.loop.invariant.few in omega arith
