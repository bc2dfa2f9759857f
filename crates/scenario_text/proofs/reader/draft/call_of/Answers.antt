use Rattle.std.proofs.Common.{rules}
use Rattle.scenario_text.proofs.reader.draft.call_of.Goals as goal

pub returns-in-ReleaseHandoff : goal.returns-in-ReleaseHandoff
returns-in-ReleaseHandoff c = search rules
