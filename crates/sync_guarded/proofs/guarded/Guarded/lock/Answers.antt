use Rattle.std.proofs.Common.{refl, sym, ap, ◌∙◌, arith}
use Rattle.sync_guarded.specs.Seats.{GuardedModel}
use Rattle.sync_guarded.proofs.Keeping.{lock_owes}
use Rattle.sync_guarded.proofs.Guards.{locked, is_locked}
use Rattle.sync_guarded.proofs.guarded.Guarded.lock.Goals as goal

pub take_lock-requires : goal.take_lock-requires
take_lock-requires g c = let words = c.self.invariant.words in (
  omega arith,
  (
    (ap (λ (x : GuardedModel). x.id) c.requires.own ∙ sym (ap (λ (x : GuardedModel). x.id) c.self.view_is), c.requires.some),
    ((omega arith, omega arith), (refl, lock_owes _ 0 c.args.token.now.me c.requires.holds)),
  ),
)

pub returns-clause-own : goal.returns-clause-own
returns-clause-own g c = is_locked c.args.self.now c.args.token.now c.take_lock.new.token c.requires c.take_lock.ensures.own c.take_lock.ensures.took

pub returns-clause-locked : goal.returns-clause-locked
returns-clause-locked g c = locked c.args.self.now c.args.token.now c.take_lock.new.token c.requires c.take_lock.ensures.own c.take_lock.ensures.took
