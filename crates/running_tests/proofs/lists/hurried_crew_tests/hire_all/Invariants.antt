use Rattle.std.proofs.Common.{◌≡◌, vec_len}
use Rattle.std.specs.List.{All}
use Rattle.running_tests.proofs.lists.hurried_crew_tests.hire_all.Given as goal

abbrev pub invariant-loop-seat : goal.invariant-loop-seat
invariant-loop-seat g l = All (λ s. s.list ≡ l.fn.list) l.seats.items × All (λ w. w.promise.list.now ≡ l.fn.list) l.waiters.items

abbrev pub decreases-loop-seat : goal.decreases-loop-seat
decreases-loop-seat g l = vec_len l.seats
