use Rattle.std.proofs.Common.{rules}
use Rattle.step_law_alike.proofs.variant.Variant.row.Goals as goal

pub returns-in_default-2 : goal.returns-in_default-2
returns-in_default-2 c = search rules
