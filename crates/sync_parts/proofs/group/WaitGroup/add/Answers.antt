use Rattle.std.proofs.Common.{ℤ, subst}
use Rattle.std.specs.Prelude.{Ok}
use Rattle.std.specs.Int.{w32, cast_signed, cast_unsigned}
use Rattle.std.proofs.lemmas.Int.{to_z-of_z}
use Rattle.sync_parts.specs.GroupSeats.{GroupSeatModel, group_seat_of}
use Rattle.sync_parts.specs.GroupCallers.{AddsToGroup}
use Rattle.sync_parts.specs.GroupCalls.{IsAdded}
use Rattle.sync_parts.proofs.GroupAdding.{added_ends}
use Rattle.sync_parts.proofs.group.WaitGroup.add.Goals as goal

pub returns-then-is_quiet-clause-rows : goal.returns-then-is_quiet-clause-rows
returns-then-is_quiet-clause-rows g c =
    let w = c.add-word.ensures in let a = c.seat.inside.sema in let t = c.add-word.new.token in
    let d = cast_signed w32 (cast_unsigned w32 c.args.d) in
    subst (λ (k : ℤ). IsAdded c.args.seat k (group_seat_of t a) (Ok 0)) (to_z-of_z w32 c.args.d c.ranges.d)
    (subst (λ (q : GroupSeatModel). IsAdded q d (group_seat_of t a) (Ok 0)) c.seat.view_is
    (added_ends c.seat.inside.token t a d w.0 c.add-word.result w.1 w.2 (c.is_quiet.ensures c.if-is_quiet.true d)).0)

pub returns-then-is_quiet-clause-caller : goal.returns-then-is_quiet-clause-caller
returns-then-is_quiet-clause-caller g c =
    let w = c.add-word.ensures in let a = c.seat.inside.sema in let t = c.add-word.new.token in
    let d = cast_signed w32 (cast_unsigned w32 c.args.d) in
    subst (λ (k : ℤ). AddsToGroup c.args.seat k (group_seat_of t a) (Ok 0)) (to_z-of_z w32 c.args.d c.ranges.d)
    (subst (λ (q : GroupSeatModel). AddsToGroup q d (group_seat_of t a) (Ok 0)) c.seat.view_is
    (added_ends c.seat.inside.token t a d w.0 c.add-word.result w.1 w.2 (c.is_quiet.ensures c.if-is_quiet.true d)).1)
