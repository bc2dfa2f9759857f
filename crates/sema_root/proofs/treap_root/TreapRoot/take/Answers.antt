use Rattle.std.proofs.Common.{◌≡◌, sym, ap, ◌∙◌, [], arith}
use Rattle.sema_root.specs.Queues.{waits_on}
use Rattle.sema_root.specs.Rooted.{shown}
use Rattle.sema_root.specs.Treap.{queues_of}
use Rattle.sema_root.proofs.Growing.{TakenOn, taken_alone, taken_among, rooted-open, rooted-nobody, shown-are_queues}
use Rattle.sema_root.proofs.Queueing.{nobody_taken, if_none_from}
use Rattle.sema_root.proofs.treap_root.TreapRoot.take.Goals as goal
use Rattle.sema_root.proofs.treap_root.TreapRoot.take.Goals.{After-close, Else-len-eq0, In_default}

pub leave-requires : goal.leave-requires
leave-requires c = rooted-open c.self.invariant c.args.counter

pub take-wait-requires : goal.take-wait-requires
take-wait-requires c = record { «open» = rooted-open c.self.invariant c.args.counter c.in-Some.list (sym c.leave.ensures.list ∙ c.in-Some.is) }

-- somebody else still waits on the counter
stays : (c : Else-len-eq0)
    → TakenOn c.self.inside.treap c.leave.new.self c.self.inside.lists c.take-wait.new.lists c.self.inside.seats c.args.counter c.args.which
    c.take-wait.result
stays c =
    taken_among c.self.inside.treap c.self.inside.lists c.self.inside.seats c.self.invariant c.args.counter c.in-Some.list
    (sym c.in-Some.is ∙ c.leave.ensures.list) c.args.which (ap (λ root. root.tree) c.self.view_is) c.requires c.take-wait.result c.leave.new.self
    (rw c.in-Some.is at c.leave.ensures.leaves) c.take-wait.new.lists c.take-wait.ensures (omega (arith, c.len.ensures, c.if-len-eq0.false))

pub invariant_of-self-else-len-eq0 : goal.invariant_of-self-else-len-eq0
invariant_of-self-else-len-eq0 c = (stays c).rooted

pub returns-else-len-eq0-clause-out : goal.returns-else-len-eq0-clause-out
returns-else-len-eq0-clause-out c = rw (← c.self.view_is) (stays c).out

pub returns-else-len-eq0-clause-none : goal.returns-else-len-eq0-clause-none
returns-else-len-eq0-clause-none c = if_none_from _ c.take-wait.result (stays c).some

pub returns-else-len-eq0-clause-kept : goal.returns-else-len-eq0-clause-kept
returns-else-len-eq0-clause-kept c = rw (← c.self.view_is) (stays c).kept

-- nobody does, and the counter goes
goes : (c : After-close)
    → TakenOn c.self.inside.treap c.leave.new.self c.self.inside.lists c.close.new.self c.self.inside.seats c.args.counter c.args.which
    c.take-wait.result
goes c =
    taken_alone c.self.inside.treap c.self.inside.lists c.self.inside.seats c.self.invariant c.args.counter c.in-Some.list
    (sym c.in-Some.is ∙ c.leave.ensures.list) c.args.which (ap (λ root. root.tree) c.self.view_is) c.requires c.take-wait.result c.leave.new.self
    (rw c.in-Some.is at c.leave.ensures.leaves) c.take-wait.new.lists c.take-wait.ensures (sym c.len.ensures ∙ c.if-len-eq0.true)
    c.close.new.self c.close.ensures.closed c.close.ensures.room c.close.ensures.list_room

pub invariant_of-self-then-len-eq0 : goal.invariant_of-self-then-len-eq0
invariant_of-self-then-len-eq0 c = (goes c).rooted

pub returns-then-len-eq0-clause-out : goal.returns-then-len-eq0-clause-out
returns-then-len-eq0-clause-out c = rw (← c.self.view_is) (goes c).out

pub returns-then-len-eq0-clause-none : goal.returns-then-len-eq0-clause-none
returns-then-len-eq0-clause-none c = if_none_from _ c.take-wait.result (goes c).some

pub returns-then-len-eq0-clause-kept : goal.returns-then-len-eq0-clause-kept
returns-then-len-eq0-clause-kept c = rw (← c.self.view_is) (goes c).kept

-- nobody waits on the counter
nobody : (c : In_default) → waits_on (queues_of c.args.self.now.tree) c.args.counter ≡ []
nobody c = rw (← c.self.view_is) (rooted-nobody c.self.invariant c.args.counter (sym c.leave.ensures.list ∙ c.in_default.is))

-- and nothing changed
same : (c : In_default) → shown c.self.inside.lists c.leave.new.self.tree c.self.inside.tickets c.self.inside.seats ≡ c.args.self.now
same c = ap (λ treap. shown c.self.inside.lists treap.tree c.self.inside.tickets c.self.inside.seats)
    (rw c.in_default.is at c.leave.ensures.leaves) ∙ c.self.view_is

pub returns-in_default-clause-out : goal.returns-in_default-clause-out
returns-in_default-clause-out c =
    rw (ap (λ root. queues_of root.tree) (same c)) (nobody_taken c.args.which (queues_of c.args.self.now.tree) c.args.counter
    (rw (ap (λ root. queues_of root.tree) (sym c.self.view_is)) (shown-are_queues c.self.invariant)) (nobody c))
