use Rattle.std.proofs.Common.{ap, ◌∙◌}
use Rattle.program_machine.specs.Layer.{parts_of}
use Rattle.program_machine.proofs.Lines.{on_ok}
use Rattle.program_machine.proofs.Showing.{first_layer}
use Rattle.step_table.specs.Core.{first_core}
use Rattle.step_table.specs.Run.{layout}
use Rattle.program_machine.proofs.starting.first_layer.Goals as goal

pub returns-clause-core : goal.returns-clause-core
returns-clause-core c =
    on_ok _ _ (λ layer is. first_layer c.args.program.now layer
    (is ∙ ap (λ q. first_core (layout q)) (c.in_ok-parts.ensures ∙ ap parts_of c.program.ensures.program)))
    c.new.result c.new.ensures.core
