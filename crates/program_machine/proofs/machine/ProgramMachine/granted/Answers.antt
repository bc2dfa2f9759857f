use Rattle.std.proofs.Common.{◌≡◌, [], subst}
use Rattle.step_core.specs.State.{WholeMachine, no_list}
use Rattle.step_rows.specs.Stored.{each}
use Rattle.program_machine.proofs.machine.ProgramMachine.granted.Goals as goal

pub returns : goal.returns
returns c = subst (λ (h : WholeMachine). c.granted.result ≡ (each no_list h.lists c.args.list).passed) c.layer.ensures.layer (c.granted.ensures [])
