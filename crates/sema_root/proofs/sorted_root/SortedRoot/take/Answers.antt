use Rattle.std.proofs.Common.{◌≡◌, subst, sym, ◌∙◌, [], arith}
use Rattle.sema_root.specs.Queues.{waits_on}
use Rattle.sema_root.specs.Search.{pairs, IsAt, IsGapFor}
use Rattle.sema_root.proofs.Joining.{joined-queues, joined-open, joined-waited}
use Rattle.sema_root.proofs.Entries.{waits_on-absent}
use Rattle.sema_root.proofs.Searching.{found_list, absent_entry, removes_at}
use Rattle.sema_root.proofs.Queueing.{Taken, taken_beside, taken_last, nobody_taken, Takes-some, if_none_from}
use Rattle.sema_root.proofs.sorted_root.SortedRoot.take.Goals as goal
use Rattle.sema_root.proofs.sorted_root.SortedRoot.take.Goals.{After-close, Else-len-eq0, In_default}

pub take-wait-requires : goal.take-wait-requires
take-wait-requires c =
    let has = found_list c.self.inside.entries.items c.args.counter c.in-Ok.at c.self.invariant.joined.rising
    (subst (λ entries. IsAt entries c.args.counter c.in-Ok.at) c.deref.ensures.value c.in-Ok.ensures.found) c.index.result.now c.index.ensures in
    record { «open» = joined-open c.self.invariant.joined c.args.counter c.index.result.now.list has }

-- somebody else still waits on the counter
stays : (c : Else-len-eq0) → Taken c.self.inside.lists c.take-wait.new.lists (pairs c.self.inside.entries.items) (pairs c.self.inside.entries.items)
    c.self.inside.seats c.args.counter c.args.which c.take-wait.result
stays c =
    let has = found_list c.self.inside.entries.items c.args.counter c.in-Ok.at c.self.invariant.joined.rising
    (subst (λ entries. IsAt entries c.args.counter c.in-Ok.at) c.deref.ensures.value c.in-Ok.ensures.found) c.index.result.now c.index.ensures in
    taken_beside c.self.invariant.joined c.args.which c.take-wait.result has c.take-wait.ensures
    (omega (arith, c.len.ensures, c.if-len-eq0.false))

pub invariant_of-self-else-len-eq0 : goal.invariant_of-self-else-len-eq0
invariant_of-self-else-len-eq0 c = record { joined = (stays c).joined; capacity = c.self.invariant.capacity }

pub returns-else-len-eq0-clause-out : goal.returns-else-len-eq0-clause-out
returns-else-len-eq0-clause-out c = rw (← c.self.view_is) (stays c).out

-- nobody does, and the counter goes
goes : (c : After-close) → Taken c.self.inside.lists c.close.new.self (pairs c.self.inside.entries.items) (pairs c.remove.new.self.items)
    c.self.inside.seats c.args.counter c.args.which c.take-wait.result
goes c =
    let is_at = subst (λ entries. IsAt entries c.args.counter c.in-Ok.at) c.deref.ensures.value c.in-Ok.ensures.found in
    let removes = removes_at c.self.inside.entries.items c.args.counter c.in-Ok.at is_at c.index.result.now c.index.ensures in
    let has = found_list c.self.inside.entries.items c.args.counter c.in-Ok.at c.self.invariant.joined.rising is_at c.index.result.now c.index.ensures in
    rw c.remove.ensures.items (taken_last c.self.invariant.joined c.args.which c.take-wait.result removes has
    c.take-wait.ensures (sym c.len.ensures ∙ c.if-len-eq0.true)
    c.close.ensures.closed c.close.ensures.room c.close.ensures.list_room)

pub invariant_of-self : goal.invariant_of-self
invariant_of-self c = record {
  joined = (goes c).joined;
  capacity = omega (arith, c.remove.ensures.capacity, c.self.invariant.capacity);
}

pub returns-then-len-eq0-clause-out : goal.returns-then-len-eq0-clause-out
returns-then-len-eq0-clause-out c = rw (← c.self.view_is) (goes c).out

-- so a wait is taken
pub returns-then-len-eq0-clause-none : goal.returns-then-len-eq0-clause-none
returns-then-len-eq0-clause-none c =
    let is_at = subst (λ entries. IsAt entries c.args.counter c.in-Ok.at) c.deref.ensures.value c.in-Ok.ensures.found in
    let has = found_list c.self.inside.entries.items c.args.counter c.in-Ok.at c.self.invariant.joined.rising is_at c.index.result.now c.index.ensures in
    let waited = joined-waited c.self.invariant.joined c.args.counter c.index.result.now.list has in
    if_none_from _ c.take-wait.result (Takes-some c.take-wait.ensures (omega (arith, waited, c.len.ensures, c.if-len-eq0.true)))

-- nobody waits on the counter
nobody : (c : In_default) → waits_on c.args.self.now.queues c.args.counter ≡ []
nobody c =
    let gap = subst (λ entries. IsGapFor entries c.args.counter c.in_default.field-0) c.deref.ensures.value c.in_default.ensures.absent in
    subst (λ root. waits_on root.queues c.args.counter ≡ []) c.self.view_is
    (waits_on-absent c.self.inside.lists c.args.counter (pairs c.self.inside.entries.items)
    (absent_entry c.self.inside.entries.items c.args.counter c.in_default.field-0 gap))

pub returns-in_default-clause-out : goal.returns-in_default-clause-out
returns-in_default-clause-out c =
    nobody_taken c.args.which c.args.self.now.queues c.args.counter
    (rw (← c.self.view_is) (joined-queues c.self.invariant.joined)) (nobody c)
