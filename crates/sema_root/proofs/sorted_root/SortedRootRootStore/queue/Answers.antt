use Rattle.std.proofs.Common.{◌≡◌, ◌<◌, subst, sym, arith}
use Rattle.std.specs.List.{insert}
use Rattle.sema_root.specs.declared.sorted_root.CounterQueue.{CounterQueue}
use Rattle.sema_root.specs.Queues.{total}
use Rattle.sema_root.specs.Search.{pairs, IsAt, IsGapFor}
use Rattle.sema_root.proofs.Joining.{joined-queues, joined-open, joined-list_room}
use Rattle.sema_root.proofs.Searching.{found_list, adds_at}
use Rattle.sema_root.proofs.Queueing.{Queued, queued_beside, queued_first}
use Rattle.sema_root.proofs.sorted_root.SortedRootRootStore.queue.Goals as goal
use Rattle.sema_root.proofs.sorted_root.SortedRootRootStore.queue.Goals.{After-push, After-unwrap}

pub push-requires-clause-open : goal.push-requires-clause-open
push-requires-clause-open c =
    let has = found_list c.self.inside.entries.items c.args.counter c.in-Ok.at c.self.invariant.joined.rising
    (subst (λ entries. IsAt entries c.args.counter c.in-Ok.at) c.deref.ensures.value c.in-Ok.ensures.found) c.index.result.now c.index.ensures in
    joined-open c.self.invariant.joined c.args.counter c.index.result.now.list has

-- the wait joins the list of its counter
joins : (c : After-push) → Queued c.self.inside.lists c.push.new.lists (pairs c.self.inside.entries.items) (pairs c.self.inside.entries.items)
    c.self.inside.seats c.args.counter c.args.lifo c.args.wait
joins c =
    let has = found_list c.self.inside.entries.items c.args.counter c.in-Ok.at c.self.invariant.joined.rising
    (subst (λ entries. IsAt entries c.args.counter c.in-Ok.at) c.deref.ensures.value c.in-Ok.ensures.found) c.index.result.now c.index.ensures in
    queued_beside c.self.invariant.joined c.args.lifo c.args.wait has c.push.ensures.pushed c.push.ensures.room c.push.ensures.list_room

pub invariant_of-self : goal.invariant_of-self
invariant_of-self c = record { joined = (joins c).joined; capacity = c.self.invariant.capacity }

pub returns-in-Ok-clause-queued : goal.returns-in-Ok-clause-queued
returns-in-Ok-clause-queued c = rw (← c.self.view_is) (joins c).queued

pub returns-in-Ok-clause-count : goal.returns-in-Ok-clause-count
returns-in-Ok-clause-count c = rw (← c.self.view_is) (joins c).count

pub open-list-requires : goal.open-list-requires
open-list-requires c = joined-list_room c.self.invariant.joined (subst (λ root. total root.queues < root.seats) (sym c.self.view_is) c.requires.fits)

-- the counter comes in with a list of its own
comes : (c : After-unwrap) → Queued c.self.inside.lists c.push-in-Err.new.lists (pairs c.self.inside.entries.items) (pairs c.insert.new.self.items)
    c.self.inside.seats c.args.counter c.args.lifo c.args.wait
comes c =
    let entry : CounterQueue = record { counter = c.args.counter; list = c.open-list.result } in
    let items : c.insert.new.self.items ≡ insert c.self.inside.entries.items c.in-Err.at entry = rw c.unwrap.ensures at c.insert.ensures.items in
    let gap = subst (λ entries. IsGapFor entries c.args.counter c.in-Err.at) c.deref.ensures.value c.in-Err.ensures.absent in
    rw items (queued_first c.self.invariant.joined c.args.lifo c.args.wait (adds_at c.self.inside.entries.items c.in-Err.at entry gap)
    c.open-list.ensures.was_closed c.open-list.ensures.opened c.open-list.ensures.room c.open-list.ensures.list_room
    c.push-in-Err.ensures.pushed c.push-in-Err.ensures.room c.push-in-Err.ensures.list_room)

pub invariant_of-self-in-Err : goal.invariant_of-self-in-Err
invariant_of-self-in-Err c = record {
  joined = (comes c).joined;
  capacity = omega (arith, c.insert.ensures.capacity, c.self.invariant.capacity);
}

pub returns-in-Err-clause-queued : goal.returns-in-Err-clause-queued
returns-in-Err-clause-queued c = rw (← c.self.view_is) (comes c).queued

pub returns-in-Err-clause-count : goal.returns-in-Err-clause-count
returns-in-Err-clause-count c = rw (← c.self.view_is) (comes c).count

pub returns-in-Ok-clause-map : goal.returns-in-Ok-clause-map
returns-in-Ok-clause-map c = joined-queues (joins c).joined

pub returns-in-Err-clause-map : goal.returns-in-Err-clause-map
returns-in-Err-clause-map c = joined-queues (comes c).joined
