use Rattle.std.proofs.Common.{length}
use Rattle.waiters.specs.Lists.{is_sought}
use Rattle.waiters.specs.Chains.{WalkedTo, waits_from}
use Rattle.waiters.proofs.lists.seeking.find.Given as goal

abbrev pub invariant-loop-here : goal.invariant-loop-here
invariant-loop-here l = WalkedTo l.records l.fn.chain (is_sought l.fn.sought) l.before l.here

abbrev pub decreases-loop-here : goal.decreases-loop-here
decreases-loop-here l = length (waits_from l.records l.fn.chain.len l.here)
