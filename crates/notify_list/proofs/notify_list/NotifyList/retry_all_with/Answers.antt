use Rattle.std.proofs.Common.{ℕ, take, sym, ap, ◌∙◌, subst, arith}
use Rattle.std.proofs.lemmas.List.{length-take-le}
use Rattle.notify_list.specs.Seats.{SeatModel, seat_of}
use Rattle.notify_list.specs.NotifyingAll.{EndsAll}
use Rattle.notify_list.proofs.Broadcasting.{may_lock, may_reach, empty_locked, may_wake, locked_seat, ends_all, granted_seats}
use Rattle.notify_list.specs.Meeting.{FindsHeld}
use Rattle.notify_list.proofs.Emptying.{may_take, queue_fits, all_fit}
use Rattle.notify_list.proofs.LookingTogether.{held_notifying, finds_held}
use Rattle.notify_list.proofs.CallersEnding.{stands_on}
use Rattle.notify_list.proofs.Answering.{is_sound}
use Rattle.notify_list.proofs.CallersNotifying.{ends_notifying}
use Rattle.notify_list.proofs.notify_list.NotifyList.retry_all_with.Goals as goal

pub try_lock-requires : goal.try_lock-requires
try_lock-requires g c = may_lock c.args.self.now c.owing.inside.token c.owing.inside.number c.owing.invariant
    (ap (λ (y : SeatModel). y.list) c.owing.view_is ∙ c.requires.seat)

pub reach_all-tickets-requires : goal.reach_all-tickets-requires
reach_all-tickets-requires g c =
    let l = c.args.self.now in let t = c.owing.inside.token in let n : ℕ = c.owing.inside.number in let N = c.owing.invariant in
    let at = ap (λ (y : SeatModel). y.list) c.owing.view_is ∙ c.requires.seat in
    (N.h, may_reach l t n N at c.try_lock.new.token c.if-not-try_lock.ensures)

pub take_all-waits-requires : goal.take_all-waits-requires
take_all-waits-requires g c =
    let l = c.args.self.now in let t = c.owing.inside.token in let n : ℕ = c.owing.inside.number in let N = c.owing.invariant in
    let at = ap (λ (y : SeatModel). y.list) c.owing.view_is ∙ c.requires.seat in let u = c.try_lock.new.token in let L = c.if-not-try_lock.ensures in
    let k : ℕ = c.reach_all-tickets.result in let v = c.reach_all-tickets.new.token in let may = may_reach l t n N at u L in
    let takes = may_take l u v N.h k may (empty_locked l t n N at u L) (c.reach_all-tickets.ensures N.h may) in
    record { kernel = c.requires.kernel; seat = (N.h, k, takes); room = all_fit l v N.h k takes c.args.woken.now c.requires.room }

pub slice_bounds-grant_seats-end : goal.slice_bounds-grant_seats-end
slice_bounds-grant_seats-end g c =
    let l = c.args.self.now in let t = c.owing.inside.token in let n : ℕ = c.owing.inside.number in let N = c.owing.invariant in
    let at = ap (λ (y : SeatModel). y.list) c.owing.view_is ∙ c.requires.seat in let u = c.try_lock.new.token in let L = c.if-not-try_lock.ensures in
    let k : ℕ = c.reach_all-tickets.result in let v = c.reach_all-tickets.new.token in let may = may_reach l t n N at u L in
    let takes = may_take l u v N.h k may (empty_locked l t n N at u L) (c.reach_all-tickets.ensures N.h may) in
    let fit = all_fit l v N.h k takes c.args.woken.now c.requires.room in let e = c.take_all-waits.ensures.count in let w = c.take_all-waits.auto.room in omega arith

pub slice_bounds-grant_seats-end-2 : goal.slice_bounds-grant_seats-end-2
slice_bounds-grant_seats-end-2 g c = sym (length-take-le c.take_all-waits.result c.take_all-waits.new.room (slice_bounds-grant_seats-end g c))

pub grant_seats-requires-clause-seat : goal.grant_seats-requires-clause-seat
grant_seats-requires-clause-seat g c =
    let l = c.args.self.now in let t = c.owing.inside.token in let n : ℕ = c.owing.inside.number in let N = c.owing.invariant in
    let at = ap (λ (y : SeatModel). y.list) c.owing.view_is ∙ c.requires.seat in let u = c.try_lock.new.token in let L = c.if-not-try_lock.ensures in
    let k : ℕ = c.reach_all-tickets.result in let v = c.reach_all-tickets.new.token in let may = may_reach l t n N at u L in
    let R = c.reach_all-tickets.ensures N.h may in let y = c.take_all-waits.new.token in
    let T = c.take_all-waits.ensures.taken N.h k (may_take l u v N.h k may (empty_locked l t n N at u L) R) in
    (N.h, may_wake l t n N at u L k v R y T)

pub invariant_of-result-2 : goal.invariant_of-result-2
invariant_of-result-2 g c =
    let l = c.args.self.now in let t = c.owing.inside.token in let n : ℕ = c.owing.inside.number in let N = c.owing.invariant in
    let at = ap (λ (y : SeatModel). y.list) c.owing.view_is ∙ c.requires.seat in let u = c.try_lock.new.token in let L = c.if-not-try_lock.ensures in
    let k : ℕ = c.reach_all-tickets.result in let v = c.reach_all-tickets.new.token in let may = may_reach l t n N at u L in
    let R = c.reach_all-tickets.ensures N.h may in let y = c.take_all-waits.new.token in
    let T = c.take_all-waits.ensures.taken N.h k (may_take l u v N.h k may (empty_locked l t n N at u L) R) in
    let z = c.grant_seats.new.token in let W = c.grant_seats.ensures.rows N.h (may_wake l t n N at u L k v R y T) in
    locked_seat l t n N at u L k v R y T z W

pub returns-clause-rows : goal.returns-clause-rows
returns-clause-rows g c =
    let l = c.args.self.now in let t = c.owing.inside.token in let n : ℕ = c.owing.inside.number in let N = c.owing.invariant in
    let at = ap (λ (y : SeatModel). y.list) c.owing.view_is ∙ c.requires.seat in let u = c.try_lock.new.token in let L = c.if-not-try_lock.ensures in
    let k : ℕ = c.reach_all-tickets.result in let v = c.reach_all-tickets.new.token in let may = may_reach l t n N at u L in
    let R = c.reach_all-tickets.ensures N.h may in let y = c.take_all-waits.new.token in
    let T = c.take_all-waits.ensures.taken N.h k (may_take l u v N.h k may (empty_locked l t n N at u L) R) in
    let z = c.grant_seats.new.token in let W = c.grant_seats.ensures.rows N.h (may_wake l t n N at u L k v R y T) in
    subst (λ (q : SeatModel). EndsAll q k (seat_of z n)) c.owing.view_is (ends_all l t n N at u L k v R y T z W)

pub returns-clause-seats : goal.returns-clause-seats
returns-clause-seats g c =
    let l = c.args.self.now in let t = c.owing.inside.token in let n : ℕ = c.owing.inside.number in let N = c.owing.invariant in
    let at = ap (λ (y : SeatModel). y.list) c.owing.view_is ∙ c.requires.seat in let u = c.try_lock.new.token in let L = c.if-not-try_lock.ensures in
    let k : ℕ = c.reach_all-tickets.result in let v = c.reach_all-tickets.new.token in let may = may_reach l t n N at u L in
    let R = c.reach_all-tickets.ensures N.h may in let y = c.take_all-waits.new.token in
    let T = c.take_all-waits.ensures.taken N.h k (may_take l u v N.h k may (empty_locked l t n N at u L) R) in
    let z = c.grant_seats.new.token in let W = c.grant_seats.ensures.rows N.h (may_wake l t n N at u L k v R y T) in
    let e = c.take_all-waits.ensures.count in
    let fit = queue_fits l v N.h k (may_take l u v N.h k may (empty_locked l t n N at u L) R) in (
      (omega arith),
      granted_seats l t n N at u L k v R y T z W (take c.take_all-waits.result c.take_all-waits.new.room) c.grant_seats.ensures.stored,
    )

pub returns-clause-caller : goal.returns-clause-caller
returns-clause-caller g c =
    ends_notifying c.args.owing (seat_of c.grant_seats.new.token c.owing.inside.number)
    (is_sound c.grant_seats.new.token c.owing.inside.number (invariant_of-result-2 g c).token_is).lawful c.reach_all-tickets.result
    (returns-clause-rows g c)

pub invariant_of-result : goal.invariant_of-result
invariant_of-result g c = held_notifying c.owing.inside.token c.try_lock.new.token c.owing.inside.number c.if-not-try_lock.ensures c.owing.invariant

pub returns-then-not-try_lock-clause-rows : goal.returns-then-not-try_lock-clause-rows
returns-then-not-try_lock-clause-rows g c =
    subst (λ (q : SeatModel). FindsHeld q (seat_of c.try_lock.new.token c.owing.inside.number)) c.owing.view_is
    (finds_held c.owing.inside.token c.try_lock.new.token c.owing.inside.number c.if-not-try_lock.ensures c.owing.invariant.token_is)

pub returns-then-not-try_lock-clause-caller : goal.returns-then-not-try_lock-clause-caller
returns-then-not-try_lock-clause-caller g c = let t = c.try_lock.new.token in let n : ℕ = c.owing.inside.number in
    stands_on c.args.owing (seat_of t n) (is_sound t n (invariant_of-result g c).token_is).lawful (returns-then-not-try_lock-clause-rows g c)
