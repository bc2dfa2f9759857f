use Rattle.examples.proofs.calls.waits_and_locks.Goals as goal

pub wait-waited-requires-clause-held : goal.wait-waited-requires-clause-held
wait-waited-requires-clause-held g c = c.requires.held.0

pub acquire-requires : goal.acquire-requires
acquire-requires g c = c.requires.free.0
