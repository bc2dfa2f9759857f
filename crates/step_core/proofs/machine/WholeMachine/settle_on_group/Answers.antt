use Rattle.step_core.proofs.Settling.{acquires_now}
use Rattle.step_core.proofs.machine.WholeMachine.settle_on_group.Goals as goal

pub returns-in-Ends : goal.returns-in-Ends
returns-in-Ends c = rw c.in-Ends.is c.stand.ensures

pub returns-in-Goes : goal.returns-in-Goes
returns-in-Goes c = rw c.in-Goes.is c.stand-in-Goes.ensures

pub returns-in-Fails : goal.returns-in-Fails
returns-in-Fails c = rw c.in-Fails.is c.stand-in-Fails.ensures

pub returns-in-Acquires : goal.returns-in-Acquires
returns-in-Acquires c = rw c.in-Acquires.is (acquires_now _ _ c.args.seat c.args.group _ _ c.semaphore.ensures c.at_counter.ensures)

pub returns-in-SleepsOn : goal.returns-in-SleepsOn
returns-in-SleepsOn c = rw c.in-SleepsOn.is c.sleep_on.ensures

pub returns-in-Withdraws : goal.returns-in-Withdraws
returns-in-Withdraws c = rw c.in-Withdraws.is c.stand-in-Withdraws.ensures
