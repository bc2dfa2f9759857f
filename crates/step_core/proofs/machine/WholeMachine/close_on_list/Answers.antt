use Rattle.std.proofs.Common.{inl, inr}
use Rattle.step_core.proofs.machine.WholeMachine.close_on_list.Goals as goal

pub returns-in-NextCall : goal.returns-in-NextCall
returns-in-NextCall c = elim c.in-NextCall.is [ inl e ↦ rw e c.stand.ensures | inr e ↦ rw e.1 c.stand.ensures ]

pub returns-in-GaveUp : goal.returns-in-GaveUp
returns-in-GaveUp c = rw c.in-GaveUp.is c.end_given_up_on_list.ensures

pub returns-in-GivesBack : goal.returns-in-GivesBack
returns-in-GivesBack c = rw c.in-GivesBack.is c.stand-in-GivesBack.ensures
