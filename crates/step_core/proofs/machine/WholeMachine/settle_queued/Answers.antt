use Rattle.step_core.proofs.machine.WholeMachine.settle_queued.Goals as goal

pub returns-in-LooksAgain : goal.returns-in-LooksAgain
returns-in-LooksAgain c = rw c.in-LooksAgain.is c.look_where_queued.ensures
