use Rattle.std.proofs.Common.{rules}
use Rattle.notify_list.proofs.Making.{seats_own}
use Rattle.notify_list.proofs.make.make_with.Goals as goal

pub returns-in-Ok-clause-own : goal.returns-in-Ok-clause-own
returns-in-Ok-clause-own c = seats_own _ _ _ c.in-Ok.ensures

pub make-requires : goal.make-requires
make-requires c = search rules

pub returns-in-Err-clause-err : goal.returns-in-Err-clause-err
returns-in-Err-clause-err c = search rules
