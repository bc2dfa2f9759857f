use Rattle.std.proofs.Common.{rules}
use Rattle.sema_table.proofs.make.check.Goals as goal

pub returns-then-settings-eq0-clause-err : goal.returns-then-settings-eq0-clause-err
returns-then-settings-eq0-clause-err c = search rules

pub returns-then-settings-eq0-2-clause-err : goal.returns-then-settings-eq0-2-clause-err
returns-then-settings-eq0-2-clause-err c = search rules
