use Rattle.std.proofs.Common.{is_some, sym, ap, ◌∙◌}
use Rattle.waiters.specs.Lists.{is_sought, first_sought}
use Rattle.sema_root.proofs.Growing.{rooted-open, rooted-waits, rooted-nobody, shown-are_queues}
use Rattle.sema_root.proofs.treap_root.TreapRoot.has.Goals as goal

pub first_with-requires : goal.first_with-requires
first_with-requires c = record { «open» = rooted-open c.self.invariant c.args.counter c.in-Some.list (sym c.find.ensures.list ∙ c.in-Some.is) }

pub returns-in-Some-clause-is_in : goal.returns-in-Some-clause-is_in
returns-in-Some-clause-is_in c =
    rw (← c.self.view_is) (c.is_some.ensures ∙ ap is_some (c.first_with.ensures
    ∙ ap (first_sought (is_sought c.args.meant.now))
    (sym (rooted-waits c.self.invariant c.args.counter c.in-Some.list (sym c.find.ensures.list ∙ c.in-Some.is)))))

pub returns-in-None-clause-is_in : goal.returns-in-None-clause-is_in
returns-in-None-clause-is_in c =
    rw (← c.self.view_is) (ap (λ waits. is_some (first_sought (is_sought c.args.meant.now) waits))
    (sym (rooted-nobody c.self.invariant c.args.counter (sym c.find.ensures.list ∙ c.in-None.is))))

pub returns-in-Some-clause-map : goal.returns-in-Some-clause-map
returns-in-Some-clause-map c = rw (← c.self.view_is) (shown-are_queues c.self.invariant)

pub returns-in-None-clause-map : goal.returns-in-None-clause-map
returns-in-None-clause-map c = rw (← c.self.view_is) (shown-are_queues c.self.invariant)
