use Rattle.std.proofs.Common.{◌≤◌}
use Rattle.explorer_commands.specs.Threads.{HasRun}
use Rattle.explorer_commands.proofs.threads.work.Given as goal

-- the rounds so far have run
abbrev pub invariant-loop-round : goal.invariant-loop-round
invariant-loop-round g l = (l.round ≤ l.rounds) × HasRun l.fn.seat l.round l.seat
