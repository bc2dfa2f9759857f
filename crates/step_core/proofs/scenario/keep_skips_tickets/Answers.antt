use Rattle.step_core.proofs.Skips.{skips_tell}
use Rattle.step_core.proofs.scenario.keep_skips_tickets.Goals as goal

pub returns : goal.returns
returns c =
    rw c.skips_of.ensures at (skips_tell c.args.calls.now c.args.i c.skips_of.result c.min-skips.result c.requires.within c.min-skips.ensures
    c.are_held_alike.result c.are_held_alike.ensures)
