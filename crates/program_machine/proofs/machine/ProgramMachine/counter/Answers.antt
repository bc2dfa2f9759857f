use Rattle.std.proofs.Common.{◌≡◌, [], subst}
use Rattle.step_core.specs.State.{WholeMachine}
use Rattle.step_rows.specs.Stored.{each}
use Rattle.program_machine.proofs.machine.ProgramMachine.counter.Goals as goal

pub returns : goal.returns
returns c = subst (λ (h : WholeMachine). c.number.result ≡ each 0 h.semaphores.stored.numbers c.args.counter) c.layer.ensures.layer (c.number.ensures [])
