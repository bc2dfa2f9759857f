use Rattle.std.proofs.Common.{subst}
use Rattle.sema_root.specs.Queues.{AreQueues}
use Rattle.sema_root.proofs.Joining.{joined-queues}
use Rattle.sema_root.proofs.sorted_root.SortedRootRootStore.count.Goals as goal

pub returns-clause-map : goal.returns-clause-map
returns-clause-map c = subst (λ root. AreQueues root.queues) c.self.view_is (joined-queues c.self.invariant.joined)
