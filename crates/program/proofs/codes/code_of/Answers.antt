use Rattle.program.proofs.Closing.{put_more}
use Rattle.program.proofs.codes.code_of.Goals as goal

pub push_lines-requires-clause-jumps : goal.push_lines-requires-clause-jumps
push_lines-requires-clause-jumps c = put_more c.args.codes.now c.args.body.now c.loop-written.written-index _ c.written-item.result
    c.loop-written-test.true c.written-item.is c.requires.short c.loop-written.invariant.length_is c.requires.closed
