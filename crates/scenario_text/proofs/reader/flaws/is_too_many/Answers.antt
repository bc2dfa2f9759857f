use Rattle.std.proofs.Common.{rules}
use Rattle.scenario_text.proofs.reader.flaws.is_too_many.Goals as goal

pub returns-in-Counter : goal.returns-in-Counter
returns-in-Counter c = search rules
