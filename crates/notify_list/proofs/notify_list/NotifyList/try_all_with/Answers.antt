use Rattle.std.proofs.Common.{ℕ, ap, ◌∙◌, subst, arith}
use Rattle.notify_list.specs.Seats.{SeatModel, seat_of}
use Rattle.notify_list.specs.Calls.{AllGranted}
use Rattle.notify_list.specs.NotifyingAll.{NotifiesAll, GrantsSome, LooksForAll}
use Rattle.notify_list.proofs.Broadcasting.{quiet_seat, quiet_all, quiet_none, quiet_granted, quiet_seats, notifying, looks_for_all}
use Rattle.notify_list.proofs.Concluding.{tried_all, tried_some, tried_granted, tried_caller}
use Rattle.notify_list.proofs.Answering.{is_sound}
use Rattle.notify_list.proofs.CallersNotifying.{notifies_all}
use Rattle.notify_list.proofs.notify_list.NotifyList.try_all_with.Goals as goal

pub look_for_all-requires : goal.look_for_all-requires
look_for_all-requires g c = (ap (λ (y : SeatModel). y.list) c.seat.view_is ∙ c.requires.seat, (c.seat.inside.number, c.seat.invariant))

pub invariant_of-result : goal.invariant_of-result
invariant_of-result g c = quiet_seat c.seat.inside.token c.look_for_all.new.token c.seat.inside.number c.seat.invariant c.if-look_for_all.ensures

pub returns-then-look_for_all-clause-rows : goal.returns-then-look_for_all-clause-rows
returns-then-look_for_all-clause-rows g c =
    let s = c.seat.inside.token in let t = c.look_for_all.new.token in let n : ℕ = c.seat.inside.number in let x = c.if-look_for_all.ensures in
    subst (λ (y : SeatModel). NotifiesAll y 0 (seat_of t n)) c.seat.view_is (quiet_all s t n c.seat.invariant x)

pub returns-then-look_for_all-clause-count : goal.returns-then-look_for_all-clause-count
returns-then-look_for_all-clause-count g c =
    let s = c.seat.inside.token in let t = c.look_for_all.new.token in let n : ℕ = c.seat.inside.number in let x = c.if-look_for_all.ensures in
    subst (λ (y : SeatModel). GrantsSome y 0 (seat_of t n)) c.seat.view_is (quiet_none s t n c.seat.invariant x)

pub returns-then-look_for_all-clause-granted : goal.returns-then-look_for_all-clause-granted
returns-then-look_for_all-clause-granted g c =
    let s = c.seat.inside.token in let t = c.look_for_all.new.token in let n : ℕ = c.seat.inside.number in let x = c.if-look_for_all.ensures in
    subst (λ (y : SeatModel). AllGranted y (seat_of t n)) c.seat.view_is (quiet_granted s t n c.seat.invariant x)

pub returns-then-look_for_all-clause-seats : goal.returns-then-look_for_all-clause-seats
returns-then-look_for_all-clause-seats g c =
    let s = c.seat.inside.token in let t = c.look_for_all.new.token in let n : ℕ = c.seat.inside.number in
    ((omega arith), quiet_seats s t n c.seat.invariant c.if-look_for_all.ensures)

pub returns-then-look_for_all-clause-caller : goal.returns-then-look_for_all-clause-caller
returns-then-look_for_all-clause-caller g c = let t = c.look_for_all.new.token in let n : ℕ = c.seat.inside.number in
    notifies_all c.args.seat (seat_of t n) (is_sound t n (invariant_of-result g c).token_is).lawful 0 (returns-then-look_for_all-clause-rows g c)
    (returns-then-look_for_all-clause-count g c) (returns-then-look_for_all-clause-granted g c)

pub returns-clause-rows : goal.returns-clause-rows
returns-clause-rows g c =
    let s = c.seat.inside.token in let t = c.look_for_all.new.token in let n : ℕ = c.seat.inside.number in let x = c.if-look_for_all.ensures in
    let looked = subst (λ (q : SeatModel). LooksForAll q (seat_of t n)) c.seat.view_is (looks_for_all s t n c.seat.invariant x) in
    tried_all c.args.seat (seat_of t n) looked c.retry_all_with.result c.retry_all_with.ensures.rows

pub returns-clause-count : goal.returns-clause-count
returns-clause-count g c =
    let s = c.seat.inside.token in let t = c.look_for_all.new.token in let n : ℕ = c.seat.inside.number in let x = c.if-look_for_all.ensures in
    let looked = subst (λ (q : SeatModel). LooksForAll q (seat_of t n)) c.seat.view_is (looks_for_all s t n c.seat.invariant x) in
    tried_some c.args.seat (seat_of t n) looked c.retry_all_with.result c.retry_all_with.ensures.rows

pub returns-clause-granted : goal.returns-clause-granted
returns-clause-granted g c =
    let s = c.seat.inside.token in let t = c.look_for_all.new.token in let n : ℕ = c.seat.inside.number in let x = c.if-look_for_all.ensures in
    let looked = subst (λ (q : SeatModel). LooksForAll q (seat_of t n)) c.seat.view_is (looks_for_all s t n c.seat.invariant x) in
    tried_granted c.args.seat (seat_of t n) looked c.retry_all_with.result c.retry_all_with.ensures.rows

pub returns-clause-caller : goal.returns-clause-caller
returns-clause-caller g c =
    let s = c.seat.inside.token in let t = c.look_for_all.new.token in let n : ℕ = c.seat.inside.number in let x = c.if-look_for_all.ensures in
    let looked = subst (λ (q : SeatModel). LooksForAll q (seat_of t n)) c.seat.view_is (looks_for_all s t n c.seat.invariant x) in
    tried_caller c.args.seat (seat_of t n) looked (is_sound t n (notifying s t n c.seat.invariant x).token_is).lawful c.retry_all_with.result
    c.retry_all_with.ensures.rows c.retry_all_with.ensures.caller
