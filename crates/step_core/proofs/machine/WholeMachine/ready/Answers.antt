use Rattle.std.proofs.Common.{◌≡◌, IsTrue, [], sym, ◌∙◌, subst}
use Rattle.step_rows.specs.Stored.{event_in, finds_in, refused_by}
use Rattle.step_rows.specs.ListStored.{StoredList, IsListReady, IsListRefusedBy}
use Rattle.step_core.specs.State.{WholeMachine, AsksFor}
use Rattle.step_core.proofs.Readying.{gives_up_ready, gives_up_can, counter_cannot, list_shown}
use Rattle.step_core.proofs.Readying.{list_gives_up_ready, list_gives_up_can, list_ready, list_can, list_cannot}
use Rattle.step_core.proofs.machine.WholeMachine.ready.Goals as goal

pub returns-then-may_give_up : goal.returns-then-may_give_up
returns-then-may_give_up c =
    let at = sym c.doing.ensures ∙ c.in-AtCounter.is in
    let gives = sym (c.may_give_up.ensures []) ∙ c.if-may_give_up.true in
    record { ok = gives_up_ready c.args.self.now c.args.seat _ at gives; can = gives_up_can c.args.self.now c.args.seat _ at gives; why = tt }

pub returns-in-Err-clause-why : goal.returns-in-Err-clause-why
returns-in-Err-clause-why c =
    let at = sym c.doing.ensures ∙ c.in-AtCounter.is in
    let stays = sym (c.may_give_up.ensures []) ∙ c.if-may_give_up.false in
    counter_cannot c.args.self.now c.args.seat _ at stays
    (subst (λ (z : WholeMachine). IsTrue ((event_in z.semaphores c.args.seat).can (finds_in z.semaphores c.args.seat)) → ⊥) c.self.view_is
    c.in-Err.ensures.cannot)
    _ (subst (λ (z : WholeMachine). c.in-Err.cause ≡ refused_by (event_in z.semaphores c.args.seat).word) c.self.view_is c.in-Err.ensures.why)

pub returns-then-may_give_up_on_list : goal.returns-then-may_give_up_on_list
returns-then-may_give_up_on_list c =
    let at = sym c.doing.ensures ∙ c.in-AtList.is in
    let gives = sym (c.may_give_up_on_list.ensures []) ∙ c.if-may_give_up_on_list.true in
    let asks = subst (AsksFor c.args.self.now c.args.seat) at c.requires.asks in
    record {
      ok = list_gives_up_ready c.args.self.now c.args.seat _ _ at asks.0 gives;
      can = list_gives_up_can c.args.self.now c.args.seat _ _ at gives;
      why = tt;
    }

pub returns-in-Ok-ready-clause-ok : goal.returns-in-Ok-ready-clause-ok
returns-in-Ok-ready-clause-ok c =
    let at = sym c.doing.ensures ∙ c.in-AtList.is in
    let stays = sym (c.may_give_up_on_list.ensures []) ∙ c.if-may_give_up_on_list.false in
    let asks = subst (AsksFor c.args.self.now c.args.seat) at c.requires.asks in
    list_ready c.args.self.now c.args.seat _ _ at asks.0 stays _
    (subst (λ (l : StoredList). IsListReady l c.args.seat c.in-Ok-ready.ready)
    (list_shown _ _ c.self.view_is c.in-AtList.list _ c.number.ensures asks.0 _ c.index.ensures) c.in-Ok-ready.ensures.ok)

pub returns-in-Ok-ready-clause-can : goal.returns-in-Ok-ready-clause-can
returns-in-Ok-ready-clause-can c =
    let at = sym c.doing.ensures ∙ c.in-AtList.is in
    let stays = sym (c.may_give_up_on_list.ensures []) ∙ c.if-may_give_up_on_list.false in
    let asks = subst (AsksFor c.args.self.now c.args.seat) at c.requires.asks in
    list_can c.args.self.now c.args.seat _ _ at stays c.in-Ok-ready.ready
    (subst (λ (l : StoredList). IsListReady l c.args.seat c.in-Ok-ready.ready)
    (list_shown _ _ c.self.view_is c.in-AtList.list _ c.number.ensures asks.0 _ c.index.ensures) c.in-Ok-ready.ensures.ok)

pub returns-in-Err-ready-clause-why : goal.returns-in-Err-ready-clause-why
returns-in-Err-ready-clause-why c =
    let at = sym c.doing.ensures ∙ c.in-AtList.is in
    let stays = sym (c.may_give_up_on_list.ensures []) ∙ c.if-may_give_up_on_list.false in
    let asks = subst (AsksFor c.args.self.now c.args.seat) at c.requires.asks in
    list_cannot c.args.self.now c.args.seat _ _ at stays _
    (subst (λ (l : StoredList). IsListRefusedBy c.in-Err-ready.cause l c.args.seat)
    (list_shown _ _ c.self.view_is c.in-AtList.list _ c.number.ensures asks.0 _ c.index.ensures) c.in-Err-ready.ensures.why)
