use Rattle.std.proofs.Common.{ℕ, ap, ◌∙◌, subst}
use Rattle.notify_list.specs.Seats.{SeatModel, seat_of}
use Rattle.notify_list.specs.Calls.{AllGranted}
use Rattle.notify_list.specs.NotifyingAll.{NotifiesAll, GrantsSome, LooksForAll}
use Rattle.notify_list.proofs.Broadcasting.{quiet_seat, quiet_all, quiet_none, quiet_granted, notifying, looks_for_all, may_lock, may_reach}
use Rattle.notify_list.proofs.Broadcasting.{empty_locked, locked_seat, ends_all}
use Rattle.notify_list.proofs.Emptying.{may_take}
use Rattle.notify_list.proofs.Concluding.{whole_all, whole_some, whole_granted}
use Rattle.notify_list.proofs.Answering.{is_sound}
use Rattle.notify_list.proofs.CallersNotifying.{notifies_all}
use Rattle.notify_list.proofs.notify_list.NotifyList.all.Goals as goal

pub look_for_all-requires : goal.look_for_all-requires
look_for_all-requires g c = (ap (λ (y : SeatModel). y.list) c.seat.view_is ∙ c.requires, (c.seat.inside.number, c.seat.invariant))

pub invariant_of-seat : goal.invariant_of-seat
invariant_of-seat g c = quiet_seat c.seat.inside.token c.look_for_all.new.token c.seat.inside.number c.seat.invariant c.if-look_for_all.ensures

pub returns-then-look_for_all : goal.returns-then-look_for_all
returns-then-look_for_all g c =
    let s = c.seat.inside.token in let t = c.look_for_all.new.token in let n : ℕ = c.seat.inside.number in let x = c.if-look_for_all.ensures in
    let rows = subst (λ (y : SeatModel). NotifiesAll y 0 (seat_of t n)) c.seat.view_is (quiet_all s t n c.seat.invariant x) in
    let count = subst (λ (y : SeatModel). GrantsSome y 0 (seat_of t n)) c.seat.view_is (quiet_none s t n c.seat.invariant x) in
    let granted = subst (λ (y : SeatModel). AllGranted y (seat_of t n)) c.seat.view_is (quiet_granted s t n c.seat.invariant x) in record {
      rows = rows;
      count = count;
      granted = granted;
      caller = notifies_all c.args.seat.now (seat_of t n) (is_sound t n (invariant_of-seat g c).token_is).lawful 0 rows count granted;
    }

pub lock-requires : goal.lock-requires
lock-requires g c =
    let s = c.seat.inside.token in let t = c.look_for_all.new.token in let n : ℕ = c.seat.inside.number in
    let own = ap (λ (y : SeatModel). y.list) c.seat.view_is ∙ c.requires in let x = c.if-look_for_all.ensures in
    may_lock c.args.self.now t n (notifying s t n c.seat.invariant x) (x.walked.list_is ∙ own)

pub reach_all-granted-requires : goal.reach_all-granted-requires
reach_all-granted-requires g c =
    let s = c.seat.inside.token in let t = c.look_for_all.new.token in let n : ℕ = c.seat.inside.number in
    let own = ap (λ (y : SeatModel). y.list) c.seat.view_is ∙ c.requires in let x = c.if-look_for_all.ensures in
    let N = notifying s t n c.seat.invariant x in
    (N.h, may_reach c.args.self.now t n N (x.walked.list_is ∙ own) c.lock.new.token c.lock.ensures)

pub take_and_wake-requires : goal.take_and_wake-requires
take_and_wake-requires g c =
    let l = c.args.self.now in let s = c.seat.inside.token in let t = c.look_for_all.new.token in let n : ℕ = c.seat.inside.number in
    let own = ap (λ (y : SeatModel). y.list) c.seat.view_is ∙ c.requires in let x = c.if-look_for_all.ensures in
    let N = notifying s t n c.seat.invariant x in let at = x.walked.list_is ∙ own in let u = c.lock.new.token in let L = c.lock.ensures in
    let k : ℕ = c.reach_all-granted.result in (
      N.h,
      k,
      may_take l u c.reach_all-granted.new.token N.h k (may_reach l t n N at u L) (empty_locked l t n N at u L)
          (c.reach_all-granted.ensures N.h (may_reach l t n N at u L)),
    )

pub invariant_of-seat-2 : goal.invariant_of-seat-2
invariant_of-seat-2 g c =
    let l = c.args.self.now in let s = c.seat.inside.token in let t = c.look_for_all.new.token in let n : ℕ = c.seat.inside.number in
    let own = ap (λ (y : SeatModel). y.list) c.seat.view_is ∙ c.requires in let x = c.if-look_for_all.ensures in
    let N = notifying s t n c.seat.invariant x in let at = x.walked.list_is ∙ own in let u = c.lock.new.token in let L = c.lock.ensures in
    let k : ℕ = c.reach_all-granted.result in let v = c.reach_all-granted.new.token in
    let R = c.reach_all-granted.ensures N.h (may_reach l t n N at u L) in
    let T = c.take_and_wake.ensures N.h k (may_take l u v N.h k (may_reach l t n N at u L) (empty_locked l t n N at u L) R) in
    locked_seat l t n N at u L k v R T.0 T.1 c.take_and_wake.new.token T.2

pub returns : goal.returns
returns g c =
    let l = c.args.self.now in let s = c.seat.inside.token in let t = c.look_for_all.new.token in let n : ℕ = c.seat.inside.number in
    let own = ap (λ (y : SeatModel). y.list) c.seat.view_is ∙ c.requires in let x = c.if-look_for_all.ensures in
    let N = notifying s t n c.seat.invariant x in let at = x.walked.list_is ∙ own in let u = c.lock.new.token in let L = c.lock.ensures in
    let k : ℕ = c.reach_all-granted.result in let v = c.reach_all-granted.new.token in let z = c.take_and_wake.new.token in
    let R = c.reach_all-granted.ensures N.h (may_reach l t n N at u L) in
    let T = c.take_and_wake.ensures N.h k (may_take l u v N.h k (may_reach l t n N at u L) (empty_locked l t n N at u L) R) in
    let ends = ends_all l t n N at u L k v R T.0 T.1 z T.2 in
    let looked = subst (λ (q : SeatModel). LooksForAll q (seat_of t n)) c.seat.view_is (looks_for_all s t n c.seat.invariant x) in
    let rows = whole_all c.args.seat.now (seat_of t n) looked (seat_of z n) k ends in
    let count = whole_some c.args.seat.now (seat_of t n) looked (seat_of z n) k ends in
    let granted = whole_granted c.args.seat.now (seat_of t n) looked (seat_of z n) k ends in record {
      rows = rows;
      count = count;
      granted = granted;
      caller = notifies_all c.args.seat.now (seat_of z n) (is_sound z n (invariant_of-seat-2 g c).token_is).lawful k rows count granted;
    }
