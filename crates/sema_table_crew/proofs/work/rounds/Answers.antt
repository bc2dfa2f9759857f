use Rattle.std.proofs.Common.{◌≡◌, ◌+◌, ◌%◌, ◌∙◌, arith}
use Rattle.sema_table_crew.proofs.Keeping.{one_round, plain_way, odd_way}
use Rattle.sema_table_crew.proofs.work.rounds.Goals as goal

pub returns-then-left-eq0-clause-out : goal.returns-then-left-eq0-clause-out
returns-then-left-eq0-clause-out g c =
    let run = c.loop-first.invariant.2 in (
      run.0 + 1,
      one_round c.args.seat run.0 c.loop-first.seat c.new-first.result _ c.round-seat.result run.1 c.new-first.ensures (plain_way run.0 run.2)
          c.round-seat.ensures.went,
      omega (arith, c.left-in-loop-first.ensures.left, c.if-left-eq0.true),
    )

pub loop-first-preserved : goal.loop-first-preserved
loop-first-preserved g c =
    let was = c.loop-first.invariant in let run = was.2 in let even = run.2 in
    let half = c.round-seat in let whole = c.round-seat-in-loop-first in
    let odd : (run.0 + 1) % 2 ≡ 1 = omega arith in
    let ran = one_round c.args.seat run.0 c.loop-first.seat c.new-first.result _ half.result run.1 c.new-first.ensures (plain_way run.0 even)
    half.ensures.went in (
      whole.ensures.same.0 ∙ half.ensures.same.0 ∙ was.0,
      whole.ensures.same.1 ∙ half.ensures.same.1 ∙ was.1,
      (
        run.0 + 1 + 1,
        one_round c.args.seat (run.0 + 1) half.result c.new-first.result _ whole.result ran c.new-first.ensures (odd_way (run.0 + 1) odd)
            whole.ensures.went,
        omega arith,
      ),
    )
