use Rattle.std.proofs.Common.{refl, sym, ap, ◌∙◌, arith}
use Rattle.sync_guarded.specs.Seats.{GuardedModel}
use Rattle.sync_guarded.proofs.Keeping.{lock_owes, lock_seen}
use Rattle.sync_guarded.proofs.Guards.{tried}
use Rattle.sync_guarded.proofs.guarded.Guarded.try_lock.Goals as goal

pub try_lock-requires : goal.try_lock-requires
try_lock-requires g c = let words = c.self.invariant.words in (
  omega arith,
  (
    (ap (λ (x : GuardedModel). x.id) c.requires.own ∙ sym (ap (λ (x : GuardedModel). x.id) c.self.view_is), c.requires.some),
    (omega arith, (lock_seen _, ((1, refl), lock_owes _ 0 c.args.token.now.me c.requires.holds))),
  ),
)

pub returns-clause-own : goal.returns-clause-own
returns-clause-own g c = (tried c.args.self.now c.args.token.now c.try_lock.new.token c.try_lock.result c.requires c.try_lock.ensures.own c.try_lock.ensures.took).0

pub returns-clause-tried : goal.returns-clause-tried
returns-clause-tried g c = (tried c.args.self.now c.args.token.now c.try_lock.new.token c.try_lock.result c.requires c.try_lock.ensures.own c.try_lock.ensures.took).1
