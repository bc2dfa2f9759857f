use Rattle.std.proofs.Common.{sym, ap, ◌∙◌, slice_get}
use Rattle.sema_root.proofs.Growing.{rooted-open, rooted-waits, rooted-nobody}
use Rattle.sema_root.proofs.treap_root.TreapRootRootStore.first.Goals as goal

pub first-requires : goal.first-requires
first-requires c = record { «open» = rooted-open c.self.invariant c.args.counter c.in-Some.list (sym c.find.ensures.list ∙ c.in-Some.is) }

pub returns-in-Some : goal.returns-in-Some
returns-in-Some c =
    rw (← c.self.view_is) (c.first.ensures
    ∙ ap (λ waits. slice_get waits 0) (sym (rooted-waits c.self.invariant c.args.counter c.in-Some.list (sym c.find.ensures.list ∙ c.in-Some.is))))

pub returns-in-None : goal.returns-in-None
returns-in-None c =
    rw (← c.self.view_is) (ap (λ waits. slice_get waits 0) (sym (rooted-nobody c.self.invariant c.args.counter (sym c.find.ensures.list ∙ c.in-None.is))))
