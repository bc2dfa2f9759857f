use Rattle.std.proofs.Common.{◌≡◌, ◌++◌, sym, ap, ◌∙◌, subst, append-nil}
use Rattle.std.specs.Result.{OnOk}
use Rattle.waiters.specs.Lists.{seats_of}
use Rattle.sema_root.proofs.Growing.{rooted-open, rooted-waits, rooted-nobody}
use Rattle.sema_root.proofs.treap_root.TreapRoot.write_seats.Goals as goal

pub write_seats-requires : goal.write_seats-requires
write_seats-requires c = record { «open» = rooted-open c.self.invariant c.args.counter c.in-Some.list (sym c.find.ensures.list ∙ c.in-Some.is) }

pub returns-in-Some-clause-ok : goal.returns-in-Some-clause-ok
returns-in-Some-clause-ok c =
    rw (← c.self.view_is) (subst (λ waits. OnOk c.write_seats.result (c.write_seats.new.words.items ≡ c.args.words.now.items ++ seats_of waits))
    (sym (rooted-waits c.self.invariant c.args.counter c.in-Some.list (sym c.find.ensures.list ∙ c.in-Some.is))) c.write_seats.ensures.ok)

pub returns-in-None-clause-ok : goal.returns-in-None-clause-ok
returns-in-None-clause-ok c =
    rw (← c.self.view_is)
    (sym (ap (λ waits. c.args.words.now.items ++ seats_of waits) (rooted-nobody c.self.invariant c.args.counter (sym c.find.ensures.list ∙ c.in-None.is))
    ∙ append-nil c.args.words.now.items))
