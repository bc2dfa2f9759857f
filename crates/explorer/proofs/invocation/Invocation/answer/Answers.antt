use Rattle.std.proofs.Common.{rules}
use Rattle.explorer.proofs.invocation.Invocation.answer.Goals as goal

pub returns-in-OfText : goal.returns-in-OfText
returns-in-OfText c = search rules
