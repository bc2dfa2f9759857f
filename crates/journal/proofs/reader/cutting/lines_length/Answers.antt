use Rattle.std.proofs.Common.{◌<◌, arith}
use Rattle.journal.proofs.Cutting.{more_lines}
use Rattle.journal.proofs.reader.cutting.lines_length.Goals as goal

pub loop-left-preserved : goal.loop-left-preserved
loop-left-preserved c =
    let some : 0 < c.loop-left.left = omega (arith, c.loop-left-test.true) in
    more_lines c.args.count c.loop-left.left c.args.text.now c.loop-left.rest.now c.first_line.result.0.now c.first_line.result.1.now some
    c.first_line.ensures.parts c.first_line.ensures.line c.loop-left.invariant
