use Rattle.std.proofs.Common.{sym, ap, ◌∙◌}
use Rattle.std.specs.Option.{is_some}
use Rattle.step_table.specs.ListWorld.{is_queued}
use Rattle.step_rows.specs.ListStored.{StoredList}
use Rattle.step_rows.proofs.Noting.{queued_found}
use Rattle.step_rows.proofs.list_machine.ListMachine.is_queued.Goals as goal

pub returns : goal.returns
returns c =
    c.is_some.ensures ∙ ap is_some c.first_with.ensures ∙ sym (queued_found c.args.seat _)
    ∙ ap (λ (l : StoredList). is_queued c.args.seat l.queue) c.self.view_is
