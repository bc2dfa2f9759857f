use Rattle.step_core.proofs.Settling.{releases_more}
use Rattle.step_core.proofs.machine.WholeMachine.release.Goals as goal

pub returns-then-number-eq0 : goal.returns-then-number-eq0
returns-then-number-eq0 c = rw c.if-number-eq0.true c.stand.ensures

pub returns : goal.returns
returns c = releases_more _ _ c.args.seat c.args.group c.args.number c.if-number-eq0.false _ c.semaphore.ensures c.at_counter.ensures
