use Rattle.std.proofs.Common.{subst, ◌+◌}
use Rattle.sema_table.specs.declared.seat.Numbers.{Numbers}
use Rattle.sema_table.specs.declared.answers.Retried.TheVariants.{Taken, Zero}
use Rattle.sema_table.specs.Seats.{SeatModel, seat_of}
use Rattle.sema_table.specs.Waking.{TriesWoken}
use Rattle.sema_table.proofs.Retrying.{retried_seat, retried_taken}
use Rattle.sema_table.proofs.CallerRetries.{zero_seat, tries_zero, tries_once}
use Rattle.sema_table.proofs.sema_table.SemaTable.retry_at_once.Goals as goal

pub invariant_of-result : goal.invariant_of-result
invariant_of-result c = retried_seat c.woken.inside.token c.try_again.new.token c.woken.inside.numbers c.woken.inside.call c.woken.invariant
    c.if-try_again.ensures.settled c.try_again.ensures.slots

pub returns-then-try_again-clause-rows : goal.returns-then-try_again-clause-rows
returns-then-try_again-clause-rows c =
    let n = c.woken.inside.numbers in let counted : Numbers = record n { taken = n.taken + 1 } in
    subst (λ (s : SeatModel). TriesWoken s (Taken (seat_of c.try_again.new.token counted))) c.woken.view_is
    (retried_taken c.woken.inside.token c.try_again.new.token n c.woken.inside.call c.woken.invariant c.if-try_again.ensures.settled c.try_again.ensures.slots)

pub returns-then-try_again-clause-caller : goal.returns-then-try_again-clause-caller
returns-then-try_again-clause-caller c = let n = c.woken.inside.numbers in let counted : Numbers = record n { taken = n.taken + 1 } in
    tries_once c.args.woken (Taken (seat_of c.try_again.new.token counted)) (returns-then-try_again-clause-rows c)

pub invariant_of-result-2 : goal.invariant_of-result-2
invariant_of-result-2 c = zero_seat c.woken.inside.token c.try_again.new.token c.woken.inside.numbers c.woken.inside.call c.woken.invariant
    c.if-try_again.ensures.settled c.try_again.ensures.slots

pub returns-clause-rows : goal.returns-clause-rows
returns-clause-rows c =
    subst (λ (s : SeatModel). TriesWoken s (Zero (seat_of c.try_again.new.token c.woken.inside.numbers))) c.woken.view_is
    (tries_zero c.woken.inside.token c.try_again.new.token c.woken.inside.numbers c.woken.inside.call c.woken.invariant c.if-try_again.ensures.settled
    c.try_again.ensures.slots)

pub returns-clause-caller : goal.returns-clause-caller
returns-clause-caller c = tries_once c.args.woken (Zero (seat_of c.try_again.new.token c.woken.inside.numbers)) (returns-clause-rows c)
