use Rattle.std.proofs.Common.{ap, subst, inl}
use Rattle.std.specs.Int.{w32, cast_unsigned}
use Rattle.sync_parts.specs.GroupSeats.{GroupSeatModel, group_seat_of}
use Rattle.sync_parts.specs.GroupCalls.{IsWaited, IsUncounted}
use Rattle.sync_parts.proofs.GroupCalling.{waits_by}
use Rattle.sync_parts.proofs.GroupWaiting.{zero_at_once, first_look, uncounted, zero_is}
use Rattle.sync_parts.proofs.group.WaitGroup.wait.Goals as goal

pub returns-then-word-eq0-clause-rows : goal.returns-then-word-eq0-clause-rows
returns-then-word-eq0-clause-rows g c =
    let s = c.seat.inside.token in let a = c.seat.inside.sema in let t = c.load-word.new.token in
    inl (subst (λ (q : GroupSeatModel). IsUncounted q (group_seat_of t a)) c.seat.view_is
    (uncounted s t a (zero_at_once s c.seat.invariant.free c.load-word.result
    (zero_is c.load-word.result.counter c.load-word.ensures.word.0 c.if-word-eq0.true) t c.load-word.ensures)))

pub returns-then-word-eq0-clause-caller : goal.returns-then-word-eq0-clause-caller
returns-then-word-eq0-clause-caller g c = waits_by _ _ _ (returns-then-word-eq0-clause-rows g c)

pub returns-clause-rows : goal.returns-clause-rows
returns-clause-rows g c =
    let s = c.seat.inside.token in let t = c.load-word.new.token in
    subst (λ (q : GroupSeatModel). IsWaited q c.finish_wait.result.0 c.finish_wait.result.1) c.seat.view_is
    (c.finish_wait.ensures s (λ zero. c.if-word-eq0.false (ap (cast_unsigned w32) zero))
    (first_look s c.seat.invariant.free c.load-word.result t c.load-word.ensures))

pub returns-clause-caller : goal.returns-clause-caller
returns-clause-caller g c = waits_by _ _ _ (returns-clause-rows g c)
