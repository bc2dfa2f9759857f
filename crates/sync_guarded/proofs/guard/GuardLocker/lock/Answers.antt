use Rattle.sync_guarded.proofs.Guards.{calls_more}
use Rattle.sync_guarded.proofs.guard.GuardLocker.lock.Goals as goal

pub returns-clause-calls : goal.returns-clause-calls
returns-clause-calls g c = calls_more _ _ _ c.acquire_after_wait.ensures.seat
