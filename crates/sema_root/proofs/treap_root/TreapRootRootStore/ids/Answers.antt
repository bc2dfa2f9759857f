use Rattle.std.proofs.Common.{◌≡◌, IfOk, subst, sym, ap, ◌∙◌, map}
use Rattle.sema_root.proofs.Growing.{rooted-open, rooted-waits, rooted-nobody}
use Rattle.sema_root.proofs.treap_root.TreapRootRootStore.ids.Goals as goal

pub ids-requires : goal.ids-requires
ids-requires c = record { «open» = rooted-open c.self.invariant c.args.counter c.in-Some.list (sym c.find.ensures.list ∙ c.in-Some.is) }

pub returns-in-Some : goal.returns-in-Some
returns-in-Some c =
    rw (← c.self.view_is) (subst (λ waits. IfOk c.ids.result (λ ids. ids.items ≡ map (λ wait. wait.id) waits))
    (sym (rooted-waits c.self.invariant c.args.counter c.in-Some.list (sym c.find.ensures.list ∙ c.in-Some.is))) c.ids.ensures)

pub returns-in-None : goal.returns-in-None
returns-in-None c =
    rw (← c.self.view_is) (c.new.ensures.items ∙ ap (map (λ wait. wait.id))
    (sym (rooted-nobody c.self.invariant c.args.counter (sym c.find.ensures.list ∙ c.in-None.is))))
