use Rattle.step_core.proofs.machine.WholeMachine.comes_late.Goals as goal

pub returns-in-Kept : goal.returns-in-Kept
returns-in-Kept c = rw c.in-Kept.is c.stand.ensures

pub returns-in-GivenBack : goal.returns-in-GivenBack
returns-in-GivenBack c = rw c.in-GivenBack.is c.at_counter.ensures
