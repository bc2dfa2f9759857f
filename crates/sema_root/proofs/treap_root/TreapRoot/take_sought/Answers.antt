use Rattle.std.proofs.Common.{◌≡◌, false, Option, Some, None, is_some, refl, sym, ◌∙◌}
use Rattle.waiters.specs.declared.wait.Wait.{Wait}
use Rattle.sema_root.specs.Treap.{queues_of}
use Rattle.sema_root.specs.declared.which.Which.TheVariants.{Of}
use Rattle.sema_root.proofs.Queueing.{none_taken}
use Rattle.sema_root.proofs.treap_root.TreapRoot.take_sought.Goals as goal

-- no wait that is sought is in
none_from : (found : Option Wait) → false ≡ is_some found → found ≡ None
none_from (Some wait) none = absurd (cc)
none_from None none = refl

pub returns-then-not-has-clause-out : goal.returns-then-not-has-clause-out
returns-then-not-has-clause-out c =
    none_taken (Of c.args.meant) (queues_of c.args.self.now.tree) c.args.counter c.has.ensures.map (none_from _ (sym c.if-not-has.true ∙ c.has.ensures.is_in))
