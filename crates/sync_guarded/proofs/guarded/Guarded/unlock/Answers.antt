use Rattle.std.proofs.Common.{refl, sym, ap, ◌∙◌, arith}
use Rattle.sync_guarded.specs.Seats.{GuardedModel}
use Rattle.sync_guarded.proofs.Keeping.{unlock_owes}
use Rattle.sync_guarded.proofs.Guards.{unlocked, is_unlocked}
use Rattle.sync_guarded.proofs.guarded.Guarded.unlock.Goals as goal

pub give_lock-requires : goal.give_lock-requires
give_lock-requires g c = let words = c.self.invariant.words in (
  omega arith,
  (
    (ap (λ (x : GuardedModel). x.id) c.requires.own ∙ sym (ap (λ (x : GuardedModel). x.id) c.self.view_is), c.requires.some),
    ((omega arith, omega arith), (tt, (refl, unlock_owes _ 0 c.args.token.now.me c.requires.holds c.requires.out.0 c.requires.out.1))),
  ),
)

pub returns-clause-own : goal.returns-clause-own
returns-clause-own g c = is_unlocked c.args.self.now c.args.token.now c.give_lock.new.token c.requires c.give_lock.ensures.own c.give_lock.ensures.went

pub returns-clause-unlocked : goal.returns-clause-unlocked
returns-clause-unlocked g c = unlocked c.args.self.now c.args.token.now c.give_lock.new.token c.requires c.give_lock.ensures.own c.give_lock.ensures.went
