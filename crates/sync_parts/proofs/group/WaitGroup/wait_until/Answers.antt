use Rattle.std.proofs.Common.{◌≢◌, pos, true, ap, subst, inl}
use Rattle.std.specs.Prelude.{Ok}
use Rattle.std.specs.Int.{w32, cast_unsigned}
use Rattle.sync_parts.specs.GroupSeats.{GroupSeatModel, group_seat_of}
use Rattle.sync_parts.specs.GroupCalls.{IsWaitedInTime, IsUncounted}
use Rattle.sync_parts.proofs.GroupWaiting.{zero_at_once, first_look, then_zero, uncounted, zero_is}
use Rattle.sync_parts.proofs.GroupLeaving.{in_time_by, never_gave_up, gives_up}
use Rattle.sync_parts.proofs.group.WaitGroup.wait_until.Goals as goal

pub returns-then-word-eq0-clause-rows : goal.returns-then-word-eq0-clause-rows
returns-then-word-eq0-clause-rows g c =
    let s = c.seat.inside.token in let a = c.seat.inside.sema in let t = c.load-word.new.token in
    inl (subst (λ (q : GroupSeatModel). IsUncounted q (group_seat_of t a)) c.seat.view_is
    (uncounted s t a (zero_at_once s c.seat.invariant.free c.load-word.result
    (zero_is c.load-word.result.counter c.load-word.ensures.word.0 c.if-word-eq0.true) t c.load-word.ensures)))

pub returns-then-word-eq0-clause-caller : goal.returns-then-word-eq0-clause-caller
returns-then-word-eq0-clause-caller g c =
    in_time_by c.args.seat (group_seat_of c.load-word.new.token c.seat.inside.sema) (Ok true) (returns-then-word-eq0-clause-rows g c)

pub returns-then-not-count_unless_zero-clause-rows : goal.returns-then-not-count_unless_zero-clause-rows
returns-then-not-count_unless_zero-clause-rows g c =
    let s = c.seat.inside.token in let a = c.seat.inside.sema in let t = c.load-word.new.token in let u = c.count_unless_zero.new.token in
    let word = c.load-word.result in let some : word.counter ≢ pos 0 = λ zero. c.if-word-eq0.false (ap (cast_unsigned w32) zero) in
    inl (subst (λ (q : GroupSeatModel). IsUncounted q (group_seat_of u a)) c.seat.view_is
    (uncounted s u a (then_zero s t word some (first_look s c.seat.invariant.free word t c.load-word.ensures) u c.if-not-count_unless_zero.ensures)))

pub returns-then-not-count_unless_zero-clause-caller : goal.returns-then-not-count_unless_zero-clause-caller
returns-then-not-count_unless_zero-clause-caller g c =
    in_time_by c.args.seat (group_seat_of c.count_unless_zero.new.token c.seat.inside.sema) (Ok true)
    (returns-then-not-count_unless_zero-clause-rows g c)

pub look_last-requires-clause-last : goal.look_last-requires-clause-last
look_last-requires-clause-last g c =
    let s = c.seat.inside.token in let a = c.seat.inside.sema in let word = c.load-word.result in (
      s,
      a,
      never_gave_up s a c.load-word.new.token c.count_unless_zero.new.token c.seat.invariant.free word c.load-word.ensures
          (λ zero. c.if-word-eq0.false (ap (cast_unsigned w32) zero)) c.if-not-count_unless_zero.ensures c.seat.invariant.number
          c.in-Ok.sema _ c.new.ensures c.in-Ok.ensures,
    )

pub returns-in-Ok-clause-rows : goal.returns-in-Ok-clause-rows
returns-in-Ok-clause-rows g c =
    let s = c.seat.inside.token in let a = c.seat.inside.sema in let word = c.load-word.result in
    subst (λ (q : GroupSeatModel). IsWaitedInTime q c.look_last.result.0 c.look_last.result.1) c.seat.view_is
    (c.look_last.ensures s a
    (never_gave_up s a c.load-word.new.token c.count_unless_zero.new.token c.seat.invariant.free word c.load-word.ensures
    (λ zero. c.if-word-eq0.false (ap (cast_unsigned w32) zero)) c.if-not-count_unless_zero.ensures c.seat.invariant.number
    c.in-Ok.sema _ c.new.ensures c.in-Ok.ensures))

pub returns-in-Ok-clause-caller : goal.returns-in-Ok-clause-caller
returns-in-Ok-clause-caller g c =
    in_time_by c.args.seat c.look_last.result.0 c.look_last.result.1 (returns-in-Ok-clause-rows g c)

pub take_wait_back-requires-clause-late : goal.take_wait_back-requires-clause-late
take_wait_back-requires-clause-late g c =
    let s = c.seat.inside.token in let a = c.seat.inside.sema in let word = c.load-word.result in (
      s,
      a,
      gives_up s a c.load-word.new.token c.count_unless_zero.new.token c.seat.invariant.free word c.load-word.ensures
          (λ zero. c.if-word-eq0.false (ap (cast_unsigned w32) zero)) c.if-not-count_unless_zero.ensures c.seat.invariant.number
          c.in-Err.giving_up _ c.new.ensures c.in-Err.ensures,
    )

pub returns-in-Err-clause-rows : goal.returns-in-Err-clause-rows
returns-in-Err-clause-rows g c =
    let s = c.seat.inside.token in let a = c.seat.inside.sema in let word = c.load-word.result in
    subst (λ (q : GroupSeatModel). IsWaitedInTime q c.take_wait_back.result.0 c.take_wait_back.result.1) c.seat.view_is
    (c.take_wait_back.ensures s a
    (gives_up s a c.load-word.new.token c.count_unless_zero.new.token c.seat.invariant.free word c.load-word.ensures
    (λ zero. c.if-word-eq0.false (ap (cast_unsigned w32) zero)) c.if-not-count_unless_zero.ensures c.seat.invariant.number
    c.in-Err.giving_up _ c.new.ensures c.in-Err.ensures))

pub returns-in-Err-clause-caller : goal.returns-in-Err-clause-caller
returns-in-Err-clause-caller g c =
    in_time_by c.args.seat c.take_wait_back.result.0 c.take_wait_back.result.1 (returns-in-Err-clause-rows g c)
