use Rattle.std.proofs.Common.{[], ap, ◌∙◌}
use Rattle.step_core.specs.State.{WholeMachine}
use Rattle.step_rows.specs.Stored.{each}
use Rattle.program_machine.proofs.Lines.{on_ok}
use Rattle.program_machine.proofs.machine.ProgramMachine.waiting.Goals as goal

pub returns : goal.returns
returns c = on_ok _ _ (λ waits so. so [] ∙ ap (λ (h : WholeMachine). each [] h.semaphores.stored.lists c.args.counter) c.layer.ensures.layer)
    c.waiting.result c.waiting.ensures
