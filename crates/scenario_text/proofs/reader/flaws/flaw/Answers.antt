use Rattle.std.proofs.Common.{rules}
use Rattle.scenario_text.proofs.reader.flaws.flaw.Goals as goal

pub returns-then-is_out_of_range : goal.returns-then-is_out_of_range
returns-then-is_out_of_range c = search rules
