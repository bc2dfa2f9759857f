use Rattle.std.proofs.Common.{◌≡◌, ℕ, ap, sym, subst, ◌∙◌}
use Rattle.step_table.specs.declared.list_place.ListEffect.{ListEffect}
use Rattle.step_table.specs.declared.list_place.ListEffect.TheVariants.{Queues}
use Rattle.step_rows.specs.ListStored.{ListMoment, Allows, made, moment_of}
use Rattle.step_rows.proofs.Noting.{changed, made_nothing, queue_made, queue_made_kept, fits}
use Rattle.step_rows.proofs.list_machine.ListMachine.apply_effect.Goals as goal

by_effect : (m n : ListMoment) (i x : ℕ) (e f : ListEffect) → f ≡ e → n ≡ made m i e x → n ≡ made m i f x
by_effect m n i x e f is same = same ∙ ap (λ z. made m i z x) (sym is)

pub pass-requires : goal.pass-requires
pass-requires c = subst (Allows (moment_of c.args.self.now) c.args.seat) c.in-Grants.is c.requires.allowed

pub forgo-requires-clause-room : goal.forgo-requires-clause-room
forgo-requires-clause-room c = (subst (Allows (moment_of c.args.self.now) c.args.seat) c.in-Forgoes.is c.requires.allowed).0

pub forgo-requires-clause-fits : goal.forgo-requires-clause-fits
forgo-requires-clause-fits c = (subst (Allows (moment_of c.args.self.now) c.args.seat) c.in-Forgoes.is c.requires.allowed).1

pub push_back-requires-clause-fits : goal.push_back-requires-clause-fits
push_back-requires-clause-fits c =
    fits c.self.inside c.self.invariant c.args.seat _ c.self.view_is
    (subst (Allows (moment_of c.args.self.now) c.args.seat) c.in-Queues.is c.requires.allowed)

pub invariant_of-self : goal.invariant_of-self
invariant_of-self c =
    queue_made_kept c.self.inside c.self.invariant c.args.seat _ _ c.push_back.ensures.pushed c.push_back.ensures.room

pub returns-in-Nothing : goal.returns-in-Nothing
returns-in-Nothing c = by_effect _ _ _ c.args.becomes _ _ c.in-Nothing.is (made_nothing _ _ c.args.becomes)

pub returns-in-HandsOut : goal.returns-in-HandsOut
returns-in-HandsOut c = by_effect _ _ _ c.args.becomes _ _ c.in-HandsOut.is (c.hand_out.ensures c.args.becomes)

pub returns-in-Grants : goal.returns-in-Grants
returns-in-Grants c = by_effect _ _ _ c.args.becomes _ _ c.in-Grants.is (c.pass.ensures c.args.seat)

pub returns-in-Forgoes : goal.returns-in-Forgoes
returns-in-Forgoes c = by_effect _ _ _ c.args.becomes _ _ c.in-Forgoes.is (c.forgo.ensures c.args.seat)

pub returns-in-Queues : goal.returns-in-Queues
returns-in-Queues c =
    by_effect _ _ _ c.args.becomes _ _ c.in-Queues.is
    (changed (λ m. made m c.args.seat (Queues c.in-Queues.wait) c.args.becomes) c.self.inside
    (record c.self.inside { waits = c.push_back.new.self }) _ c.self.view_is
    (queue_made c.self.inside c.self.invariant c.args.seat c.in-Queues.wait _ c.push_back.ensures.pushed c.args.becomes))

pub returns-in-TakesOut : goal.returns-in-TakesOut
returns-in-TakesOut c = by_effect _ _ _ c.args.becomes _ _ c.in-TakesOut.is (c.take_out.ensures c.args.becomes)

pub returns-in-TakesAll : goal.returns-in-TakesAll
returns-in-TakesAll c = by_effect _ _ _ c.args.becomes _ _ c.in-TakesAll.is (c.take_all.ensures c.args.becomes)

pub returns-in-Gives : goal.returns-in-Gives
returns-in-Gives c = by_effect _ _ _ c.args.becomes _ _ c.in-Gives.is (c.give.ensures c.args.becomes)
