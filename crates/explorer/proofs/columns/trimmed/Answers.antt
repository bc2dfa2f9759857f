use Rattle.std.proofs.Common.{drop, sym}
use Rattle.std.proofs.lemmas.List.{take-append-drop}
use Rattle.explorer.proofs.columns.trimmed.Goals as goal

pub returns-clause-beginning : goal.returns-clause-beginning
returns-clause-beginning c = (drop c.loop-end.end c.args.line.now, sym (take-append-drop c.loop-end.end c.args.line.now))
