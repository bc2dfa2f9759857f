use Rattle.std.proofs.Common.{◌<◌, refl, sym, subst, arith}
use Rattle.sema_root.specs.Queues.{total}
use Rattle.sema_root.specs.Treap.{queues_of}
use Rattle.sema_root.proofs.Growing.{shown-are_queues, QueuedOn, queued_so, open_for, rooted-room, rooted-list_room, rooted-wait_room}
use Rattle.sema_root.proofs.treap_root.TreapRootRootStore.queue.Goals as goal
use Rattle.sema_root.proofs.treap_root.TreapRootRootStore.queue.Goals.{After-push}

pub list_for-list-requires-clause-room : goal.list_for-list-requires-clause-room
list_for-list-requires-clause-room c =
    rooted-room c.self.invariant (subst (λ root. total (queues_of root.tree) < root.seats) (sym c.self.view_is) c.requires.fits)

pub list_for-list-requires-clause-list_room : goal.list_for-list-requires-clause-list_room
list_for-list-requires-clause-list_room c =
    rooted-list_room c.self.invariant (subst (λ root. total (queues_of root.tree) < root.seats) (sym c.self.view_is) c.requires.fits)

pub push-requires-clause-open : goal.push-requires-clause-open
push-requires-clause-open c =
    (open_for c.self.inside.treap c.self.inside.tickets c.self.inside.lists c.self.inside.seats c.self.invariant c.args.counter c.args.lifo c.args.wait
    _ refl c.list_for-list.new.treap c.list_for-list.new.tickets c.list_for-list.new.lists c.list_for-list.result c.list_for-list.ensures).0

pub push-requires-clause-fits : goal.push-requires-clause-fits
push-requires-clause-fits c =
    let mid = open_for c.self.inside.treap c.self.inside.tickets c.self.inside.lists c.self.inside.seats c.self.invariant c.args.counter c.args.lifo c.args.wait
    _ refl c.list_for-list.new.treap c.list_for-list.new.tickets c.list_for-list.new.lists c.list_for-list.result c.list_for-list.ensures in
    let room = rooted-wait_room c.self.invariant (subst (λ root. total (queues_of root.tree) < root.seats) (sym c.self.view_is) c.requires.fits) in
    omega (arith, mid.1, room)

queued : (c : After-push)
    → QueuedOn c.self.inside.treap c.list_for-list.new.treap c.self.inside.tickets c.list_for-list.new.tickets c.self.inside.lists c.push.new.lists
    c.self.inside.seats c.args.counter c.args.lifo c.args.wait
queued c = queued_so c.self.inside.treap c.self.inside.tickets c.self.inside.lists c.self.inside.seats c.self.invariant c.args.counter c.args.lifo c.args.wait
    _ refl c.list_for-list.new.treap c.list_for-list.new.tickets c.list_for-list.new.lists c.push.new.lists c.list_for-list.result c.list_for-list.ensures
    c.push.ensures.pushed c.push.ensures.room c.push.ensures.list_room

pub invariant_of-self : goal.invariant_of-self
invariant_of-self c = (queued c).rooted

pub returns-clause-queued : goal.returns-clause-queued
returns-clause-queued c = rw (← c.self.view_is) (queued c).queued

pub returns-clause-count : goal.returns-clause-count
returns-clause-count c = rw (← c.self.view_is) (queued c).count

pub returns-clause-kept : goal.returns-clause-kept
returns-clause-kept c = rw (← c.self.view_is) (queued c).kept

pub returns-clause-drawn : goal.returns-clause-drawn
returns-clause-drawn c = rw (← c.self.view_is) (queued c).drawn

pub returns-clause-map : goal.returns-clause-map
returns-clause-map c = shown-are_queues (queued c).rooted
