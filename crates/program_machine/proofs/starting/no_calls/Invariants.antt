use Rattle.std.proofs.Common.{◌≡◌, [], replicate}
use Rattle.program_machine.proofs.starting.no_calls.Given as goal

abbrev pub invariant-loop : goal.invariant-loop
invariant-loop l = l.calls ≡ replicate l.counter []
