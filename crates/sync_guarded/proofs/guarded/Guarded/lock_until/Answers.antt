use Rattle.std.proofs.Common.{refl, sym, ap, ◌∙◌, arith}
use Rattle.sync_guarded.specs.Seats.{GuardedModel}
use Rattle.sync_guarded.proofs.Keeping.{lock_owes}
use Rattle.sync_guarded.proofs.guarded.Guarded.lock_until.Goals as goal

pub take_lock_until-requires : goal.take_lock_until-requires
take_lock_until-requires g c = let words = c.self.invariant.words in (
  omega arith,
  (
    (ap (λ (x : GuardedModel). x.id) c.requires.own ∙ sym (ap (λ (x : GuardedModel). x.id) c.self.view_is), c.requires.some),
    ((omega arith, omega arith), (refl, lock_owes _ 0 c.args.token.now.me c.requires.holds)),
  ),
)
