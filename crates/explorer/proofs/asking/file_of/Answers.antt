use Rattle.std.proofs.Common.{rules}
use Rattle.explorer.proofs.asking.file_of.Goals as goal

pub returns-then-is_standard_input : goal.returns-then-is_standard_input
returns-then-is_standard_input c = search rules
