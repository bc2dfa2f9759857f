use Rattle.std.proofs.Common.{ap, ◌∙◌, subst, ◌+◌}
use Rattle.sema_table.specs.declared.seat.Numbers.{Numbers}
use Rattle.sema_table.specs.declared.answers.Entered.TheVariants.{Taken}
use Rattle.sema_table.specs.Seats.{SeatModel, seat_of}
use Rattle.sema_table.specs.Waking.{IsRetried}
use Rattle.sema_table.proofs.Retrying.{retried_seat, retried_taken, again_token, retried_on}
use Rattle.sema_table.proofs.CallerEnters.{retries}
use Rattle.sema_table.proofs.sema_table.SemaTable.retry.Goals as goal

pub invariant_of-result : goal.invariant_of-result
invariant_of-result g c = retried_seat c.woken.inside.token c.try_again.new.token c.woken.inside.numbers c.woken.inside.call c.woken.invariant
    c.if-try_again.ensures.settled c.try_again.ensures.slots

pub returns-then-try_again-clause-rows : goal.returns-then-try_again-clause-rows
returns-then-try_again-clause-rows g c =
    let n = c.woken.inside.numbers in let counted : Numbers = record n { taken = n.taken + 1 } in
    subst (λ (s : SeatModel). IsRetried s (Taken (seat_of c.try_again.new.token counted))) c.woken.view_is
    (retried_taken c.woken.inside.token c.try_again.new.token n c.woken.inside.call c.woken.invariant c.if-try_again.ensures.settled c.try_again.ensures.slots)

pub returns-then-try_again-clause-caller : goal.returns-then-try_again-clause-caller
returns-then-try_again-clause-caller g c = let n = c.woken.inside.numbers in let counted : Numbers = record n { taken = n.taken + 1 } in
    retries c.args.woken (Taken (seat_of c.try_again.new.token counted)) (returns-then-try_again-clause-rows g c)

pub enter_at_lock-requires-clause-seat : goal.enter_at_lock-requires-clause-seat
enter_at_lock-requires-clause-seat g c = (
  again_token c.woken.inside.token c.try_again.new.token c.woken.inside.numbers c.woken.inside.call c.woken.invariant
      c.if-try_again.ensures.settled c.try_again.ensures.slots,
  c.if-try_again.ensures.settled.table_is ∙ ap (λ (s : SeatModel). s.table) c.woken.view_is ∙ c.requires,
)

pub returns-clause-rows : goal.returns-clause-rows
returns-clause-rows g c =
    subst (λ (s : SeatModel). IsRetried s c.enter_at_lock.result) c.woken.view_is
    (retried_on c.woken.inside.token c.try_again.new.token c.woken.inside.numbers c.woken.inside.call c.woken.invariant c.if-try_again.ensures.settled
    c.try_again.ensures.slots c.enter_at_lock.result c.enter_at_lock.ensures)

pub returns-clause-caller : goal.returns-clause-caller
returns-clause-caller g c = retries c.args.woken c.enter_at_lock.result (returns-clause-rows g c)
