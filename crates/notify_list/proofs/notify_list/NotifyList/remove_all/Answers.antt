use Rattle.std.proofs.Common.{ℕ, ◌+◌, set, sym, ◌∙◌, subst, arith}
use Rattle.notify_list.specs.Seats.{guarded_of, with_queue}
use Rattle.notify_list.proofs.Emptying.{Emptied, none_emptied, room_left, one_emptied, all_emptied, all_counted, all_seats}
use Rattle.notify_list.proofs.notify_list.NotifyList.remove_all.Goals as goal

pub loop-seat-init : goal.loop-seat-init
loop-seat-init c = none_emptied c.args.token.now c.args.room.now c.requires.seat.1 c.requires.room

pub remove_first-requires : goal.remove_first-requires
remove_first-requires c = let x = c.loop-seat.invariant in
    ((λ i. record { id = x.table i; setting = (x.view i).own.knows.setting }) ∙ c.requires.seat.0, (with_queue x.left (guarded_of c.args.token.now), x.has))

pub bounds-room-count : goal.bounds-room-count
bounds-room-count c = let x = c.loop-seat.invariant in
    room_left c.args.token.now c.loop-seat.token c.loop-seat.room c.loop-seat.count c.remove_first.new.token x c.in-Some.seat
    (c.in-Some.ensures (with_queue x.left (guarded_of c.args.token.now)) x.has)

pub loop-seat-smaller : goal.loop-seat-smaller
loop-seat-smaller c = let x = c.loop-seat.invariant in
    let low = room_left c.args.token.now c.loop-seat.token c.loop-seat.room c.loop-seat.count c.remove_first.new.token x c.in-Some.seat
    (c.in-Some.ensures (with_queue x.left (guarded_of c.args.token.now)) x.has) in
    let r = c.loop-seat.auto.room in omega arith

pub loop-seat-preserved : goal.loop-seat-preserved
loop-seat-preserved c = let x = c.loop-seat.invariant in let n : ℕ = c.loop-seat.count in
    subst (λ k. Emptied c.args.token.now c.remove_first.new.token (set c.loop-seat.room n k) (n + 1)) (sym c.from.ensures)
    (one_emptied c.args.token.now c.loop-seat.token c.loop-seat.room n c.remove_first.new.token x c.in-Some.seat
    (c.in-Some.ensures (with_queue x.left (guarded_of c.args.token.now)) x.has))

pub returns-clause-edited : goal.returns-clause-edited
returns-clause-edited c = let x = c.loop-seat.invariant in
    all_emptied c.args.token.now c.loop-seat.token c.loop-seat.room c.loop-seat.count c.remove_first.new.token x
    (c.in_default.ensures (with_queue x.left (guarded_of c.args.token.now)) x.has)

pub returns-clause-count : goal.returns-clause-count
returns-clause-count c = let x = c.loop-seat.invariant in
    all_counted c.args.token.now c.loop-seat.token c.loop-seat.room c.loop-seat.count c.remove_first.new.token x
    (c.in_default.ensures (with_queue x.left (guarded_of c.args.token.now)) x.has)

pub returns-clause-seats : goal.returns-clause-seats
returns-clause-seats c = let x = c.loop-seat.invariant in
    all_seats c.args.token.now c.loop-seat.token c.loop-seat.room c.loop-seat.count c.remove_first.new.token x
    (c.in_default.ensures (with_queue x.left (guarded_of c.args.token.now)) x.has)
