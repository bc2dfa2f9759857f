use Rattle.std.proofs.Common.{◌≡◌, ℕ, arith, subst}
use Rattle.sema_table.specs.Seats.{SeatModel}
use Rattle.sema_table.specs.Making.{new_seat}
use Rattle.explorer_commands.specs.Threads.{HasRun}
use Rattle.explorer_commands.proofs.Working.{may_go_on, has_worked}
use Rattle.explorer_commands.proofs.threads.work.Goals as goal

pub run_round-seat-requires-clause-table : goal.run_round-seat-requires-clause-table
run_round-seat-requires-clause-table g c =
    let t = c.args.table.now in let n = c.loop-round.round in let s = c.loop-round.seat in
    let ran = subst (λ (x : SeatModel). HasRun x n s) c.requires.seat c.loop-round.invariant.1 in
    ((may_go_on t c.args.seat.number n s ran (omega (arith, c.loop-round-test.true, c.requires.table.1))).0, c.requires.table.0)

pub run_round-seat-requires-clause-left : goal.run_round-seat-requires-clause-left
run_round-seat-requires-clause-left g c =
    let t = c.args.table.now in let n = c.loop-round.round in let s = c.loop-round.seat in
    let ran = subst (λ (x : SeatModel). HasRun x n s) c.requires.seat c.loop-round.invariant.1 in
    (may_go_on t c.args.seat.number n s ran (omega (arith, c.loop-round-test.true, c.requires.table.1))).1

pub returns : goal.returns
returns g c =
    let t = c.args.table.now in let n = c.loop-round.round in let s = c.loop-round.seat in let inv = c.loop-round.invariant in
    let end : n ≡ c.args.rounds = omega (arith, inv.0, c.loop-round-test.false) in
    let ran = subst (λ (x : SeatModel). HasRun x n s) c.requires.seat inv.1 in
    has_worked t c.args.seat.number c.args.rounds s
    (subst (λ (k : ℕ). HasRun (new_seat t c.args.seat.number) k s) end ran) c.requires.table.1 _ _ c.left-left.ensures.spent
