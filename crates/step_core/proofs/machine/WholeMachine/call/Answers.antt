use Rattle.std.proofs.Common.{rules, subst, ℤ, FitsSigned, w32}
use Rattle.std.proofs.lemmas.Int.{to_z-of_z}
use Rattle.step_table.specs.declared.standing.Ending.{Ending}
use Rattle.step_table.specs.declared.standing.GroupRow.TheVariants.{G1, V1}
use Rattle.step_table.specs.declared.standing.Standing.TheVariants.{AtGroup}
use Rattle.step_table.specs.CoreSteps.{stands}
use Rattle.step_core.specs.State.{Becomes}
use Rattle.step_core.proofs.machine.WholeMachine.call.Goals as goal

pub returns-in-Acquire : goal.returns-in-Acquire
returns-in-Acquire c = rw c.in-Acquire.is c.acquire.ensures

pub returns-in-AcquireOrLeave : goal.returns-in-AcquireOrLeave
returns-in-AcquireOrLeave c = rw c.in-AcquireOrLeave.is c.acquire-in-AcquireOrLeave.ensures

pub returns-in-Release : goal.returns-in-Release
returns-in-Release c = rw c.in-Release.is c.at_counter.ensures

pub returns-in-ReleaseMany : goal.returns-in-ReleaseMany
returns-in-ReleaseMany c = rw c.in-ReleaseMany.is c.at_counter-in-ReleaseMany.ensures

pub returns-in-Add : goal.returns-in-Add
returns-in-Add c = rw c.in-Add.is c.at_list.ensures

pub returns-in-Wait : goal.returns-in-Wait
returns-in-Wait c = rw c.in-Wait.is c.wait_on_list.ensures

pub returns-in-WaitOrLeave : goal.returns-in-WaitOrLeave
returns-in-WaitOrLeave c = rw c.in-WaitOrLeave.is c.wait_on_list-in-WaitOrLeave.ensures

pub returns-in-One : goal.returns-in-One
returns-in-One c = rw c.in-One.is c.at_list-in-One.ensures

pub returns-in-All : goal.returns-in-All
returns-in-All c = rw c.in-All.is c.at_list-in-All.ensures

pub returns-in-GroupWait : goal.returns-in-GroupWait
returns-in-GroupWait c = rw c.in-GroupWait.is c.wait_on_group.ensures

pub returns-in-GroupWaitOrLeave : goal.returns-in-GroupWaitOrLeave
returns-in-GroupWaitOrLeave c =
    let e = c.in-GroupWaitOrLeave in
    rw e.is
    (subst (λ (x : Ending). Becomes (λ m s. stands s c.args.seat (AtGroup e.group (V1 x))) c.args.self.now c.wait_on_group-in-GroupWaitOrLeave.new.self)
    c.may_leave_out.ensures c.wait_on_group-in-GroupWaitOrLeave.ensures)

pub returns-in-GroupAdd : goal.returns-in-GroupAdd
returns-in-GroupAdd c =
    let fits : FitsSigned w32 c.in-GroupAdd.delta = search rules in
    rw c.in-GroupAdd.is (subst (λ (d : ℤ). Becomes (λ m s. stands s c.args.seat (AtGroup c.in-GroupAdd.group (G1 d))) c.args.self.now c.stand.new.self)
    (to_z-of_z w32 c.in-GroupAdd.delta fits) c.stand.ensures)
