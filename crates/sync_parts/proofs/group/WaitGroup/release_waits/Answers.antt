use Rattle.std.proofs.Common.{◌∙◌, arith}
use Rattle.sync_parts.proofs.GroupAdding.{same_table, less_left}
use Rattle.sync_parts.proofs.group.WaitGroup.release_waits.Goals as goal

pub release_one-sema-requires-clause-own : goal.release_one-sema-requires-clause-own
release_one-sema-requires-clause-own g c = let i = c.loop-wait.invariant in
    same_table _ c.args.sema c.loop-wait.sema i.released ∙ c.requires.own

pub release_one-sema-requires-clause-left : goal.release_one-sema-requires-clause-left
release_one-sema-requires-clause-left g c = let i = c.loop-wait.invariant in let few = c.requires.left in
    let more = c.loop-wait-test.true in
    let left = less_left _ c.args.sema c.loop-wait.sema (omega arith) i.released in omega arith
