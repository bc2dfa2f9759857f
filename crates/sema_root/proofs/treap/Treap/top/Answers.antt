use Rattle.std.proofs.Common.{rules}
use Rattle.sema_root.proofs.treap.Treap.top.Goals as goal

pub counter_at-requires : goal.counter_at-requires
counter_at-requires c = search rules

pub returns-clause-counter : goal.returns-clause-counter
returns-clause-counter c = search rules
