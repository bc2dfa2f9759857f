use Rattle.std.proofs.Common.{◌≤◌}
use Rattle.step_rows.specs.ListStored.{AreFresh}
use Rattle.step_rows.proofs.list_machine.seats_at_rest.Given as goal

abbrev pub invariant-loop : goal.invariant-loop
invariant-loop l = AreFresh l.fn.waits l.waits l.records.items l.counter × (l.seats ≤ l.records.cap)
