use Rattle.std.proofs.Common.{◌≡◌, [], subst}
use Rattle.step_core.specs.State.{WholeMachine, no_list}
use Rattle.step_rows.specs.Stored.{each}
use Rattle.program_machine.proofs.machine.ProgramMachine.next_ticket.Goals as goal

pub returns : goal.returns
returns c = subst (λ (h : WholeMachine). c.list_number.result ≡ (each no_list h.lists c.args.list).wait) c.layer.ensures.layer (c.list_number.ensures [])
