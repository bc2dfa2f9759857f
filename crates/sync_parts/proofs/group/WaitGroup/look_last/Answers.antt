use Rattle.std.proofs.Common.{sym, ap, ◌∙◌}
use Rattle.sync_parts.specs.GroupPlays.{Me}
use Rattle.sync_parts.specs.GroupSeats.{GroupModel}
use Rattle.sync_parts.proofs.GroupStepping.{still_some}
use Rattle.sync_parts.proofs.GroupLeaving.{looks_last, free_then, number_then, in_time, reused_then}
use Rattle.sync_parts.proofs.group.WaitGroup.look_last.Goals as goal

pub load-requires-clause-own : goal.load-requires-clause-own
load-requires-clause-own c = let x = c.requires.last in
    (c.requires.own.0 ∙ ap (λ (w : GroupModel). w.word) (sym c.self.view_is), (looks_last x.0 x.1 c.args.token c.args.sema x.2).1)

pub invariant_of-result : goal.invariant_of-result
invariant_of-result c = let x = c.requires.last in record {
  some = still_some (ap (λ (m : Me). m.0.own.knows.seats) c.load.ensures.me_is) c.requires.some;
  free = free_then x.0 x.1 c.args.token c.args.sema x.2 c.load.new.token c.load.result c.load.ensures;
  number = number_then x.0 x.1 c.args.token c.args.sema x.2 c.load.new.token c.load.result c.load.ensures;
}

pub invariant_of-result-2 : goal.invariant_of-result-2
invariant_of-result-2 c = let x = c.requires.last in record {
  some = still_some (ap (λ (m : Me). m.0.own.knows.seats) c.load.ensures.me_is) c.requires.some;
  free = free_then x.0 x.1 c.args.token c.args.sema x.2 c.load.new.token c.load.result c.load.ensures;
  number = number_then x.0 x.1 c.args.token c.args.sema x.2 c.load.new.token c.load.result c.load.ensures;
}

pub returns-then-eq : goal.returns-then-eq
returns-then-eq c s a x =
    in_time s a c.args.token c.args.sema x c.load.new.token c.load.result c.load.ensures (sym c.eq.ensures ∙ c.if-eq.true)

pub returns : goal.returns
returns c s a x =
    reused_then s a c.args.token c.args.sema x c.load.new.token c.load.result c.load.ensures (sym c.eq.ensures ∙ c.if-eq.false)
