use Rattle.step_core.proofs.machine.WholeMachine.go_on.Goals as goal

pub returns-in-Closes : goal.returns-in-Closes
returns-in-Closes c = rw c.in-Closes.is c.close.ensures

pub returns-in-LooksAgain : goal.returns-in-LooksAgain
returns-in-LooksAgain c = rw c.in-LooksAgain.is c.look_again.ensures
