use Rattle.std.proofs.Common.{[], map, ap, ◌∙◌}
use Rattle.step_core.specs.State.{WholeMachine, no_list}
use Rattle.step_rows.specs.Stored.{each}
use Rattle.program_machine.proofs.Lines.{on_ok}
use Rattle.program_machine.proofs.machine.ProgramMachine.queued.Goals as goal

pub returns : goal.returns
returns c = on_ok _ _ (λ waits so. so [] ∙ ap (λ (h : WholeMachine). map (λ wait. wait.id) (each no_list h.lists c.args.list).queue) c.layer.ensures.layer)
    c.queued.result c.queued.ensures
