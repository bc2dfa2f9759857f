use Rattle.std.proofs.Common.{length, rules}
use Rattle.step_rows.proofs.step.can_run.Goals as goal

pub read-requires : goal.read-requires
read-requires c = c.requires.locks _ (c.in-Unlocked.ensures.within (length c.args.shared.now.numbers) c.requires.within)

pub returns-in-Granted : goal.returns-in-Granted
returns-in-Granted c = search rules
