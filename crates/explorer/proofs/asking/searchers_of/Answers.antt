use Rattle.std.proofs.Common.{rules}
use Rattle.explorer.proofs.asking.searchers_of.Goals as goal

pub returns : goal.returns
returns c = search rules
