use Rattle.std.proofs.Common.{◌≡◌}
use Rattle.crossbeam_queue.specs.Passes.{view, IsPassOf, IsSamePass}
use Rattle.examples.proofs.bounded_queue.BoundedQueue.push.Given as goal

abbrev pub invariant-loop : goal.invariant-loop
invariant-loop g l = IsPassOf l.self-inside.ring l.pass × (IsSamePass l.initial.pass l.pass × (view l.pass ≡ view l.initial.pass))
