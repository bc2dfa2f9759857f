use Rattle.std.proofs.Common.{◌≡◌, vec_len}
use Rattle.std.specs.List.{All}
use Rattle.running_tests.proofs.lists.crew.join_all.Given as goal

abbrev pub invariant-loop-waiter : goal.invariant-loop-waiter
invariant-loop-waiter g l = All (λ w. w.promise.list.now ≡ l.fn.list) l.waiters.items × All (λ s. s.list ≡ l.fn.list) l.seats.items

abbrev pub decreases-loop-waiter : goal.decreases-loop-waiter
decreases-loop-waiter g l = vec_len l.waiters
