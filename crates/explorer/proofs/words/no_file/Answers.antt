use Rattle.std.proofs.Common.{rules}
use Rattle.explorer.proofs.words.no_file.Goals as goal

pub returns-in-Ok-clause-why : goal.returns-in-Ok-clause-why
returns-in-Ok-clause-why c = search rules
