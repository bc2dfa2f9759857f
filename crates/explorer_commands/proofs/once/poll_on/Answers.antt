use Rattle.std.proofs.Common.{ap, ◌∙◌}
use Rattle.sema_table.specs.Seats.{SeatModel}
use Rattle.sema_table.proofs.Rousing.{no_look, look_more}
use Rattle.explorer_commands.proofs.once.poll_on.Goals as goal

pub loop-init : goal.loop-init
loop-init g c = (no_look c.args.sleeping, c.requires)

pub loop-preserved : goal.loop-preserved
loop-preserved g c =
    let on = look_more c.args.sleeping c.loop.sleeping c.in-Still.sleeping c.loop.invariant.0 c.in-Still.ensures.rows in
    (on, ap (λ (s : SeatModel). s.table) on.same ∙ c.requires)
