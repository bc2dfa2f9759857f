use Rattle.std.proofs.Common.{◌∙◌, subst}
use Rattle.sema_table.specs.declared.answers.Polled.TheVariants.{Still, Woken, Handed}
use Rattle.sema_table.specs.declared.answers.Roused.TheVariants as roused
use Rattle.sema_table.specs.Seats.{SeatModel}
use Rattle.sema_table.specs.Waking.{IsPolled}
use Rattle.sema_table.proofs.Rousing.{look_more, roused_woken, roused_handed, same_seat}
use Rattle.sema_table.proofs.CallerPolls.{sleeps, looks_in_vain}
use Rattle.sema_table.proofs.sema_table.SemaTable.sleep_until.Goals as goal

pub returns-then-is_zero-clause-rows : goal.returns-then-is_zero-clause-rows
returns-then-is_zero-clause-rows g c =
    let awake = same_seat c.sleeping.inside.token c.await_grant_for.new.token c.sleeping.inside.numbers
    c.await_grant_for.ensures ∙ c.sleeping.view_is in
    look_more c.args.sleeping c.loop.sleeping c.in-Still.still c.loop.invariant
    (subst (λ (q : SeatModel). IsPolled q (Still c.in-Still.still)) awake c.in-Still.ensures.rows)

pub returns-then-is_zero-clause-caller : goal.returns-then-is_zero-clause-caller
returns-then-is_zero-clause-caller g c =
    let awake = same_seat c.sleeping.inside.token c.await_grant_for.new.token c.sleeping.inside.numbers
    c.await_grant_for.ensures ∙ c.sleeping.view_is in
    looks_in_vain c.args.sleeping c.loop.sleeping c.in-Still.still c.loop.invariant
    (subst (λ (q : SeatModel). IsPolled q (Still c.in-Still.still)) awake c.in-Still.ensures.rows)

pub loop-preserved : goal.loop-preserved
loop-preserved g c =
    let awake = same_seat c.sleeping.inside.token c.await_grant_for.new.token c.sleeping.inside.numbers
    c.await_grant_for.ensures ∙ c.sleeping.view_is in
    look_more c.args.sleeping c.loop.sleeping c.in-Still.still c.loop.invariant
    (subst (λ (q : SeatModel). IsPolled q (Still c.in-Still.still)) awake c.in-Still.ensures.rows)

pub returns-in-Woken-clause-rows : goal.returns-in-Woken-clause-rows
returns-in-Woken-clause-rows g c =
    let awake = same_seat c.sleeping.inside.token c.await_grant_for.new.token c.sleeping.inside.numbers
    c.await_grant_for.ensures ∙ c.sleeping.view_is in
    roused_woken c.args.sleeping c.loop.sleeping c.in-Woken.woken c.loop.invariant
    (subst (λ (q : SeatModel). IsPolled q (Woken c.in-Woken.woken)) awake c.in-Woken.ensures.rows)

pub returns-in-Woken-clause-caller : goal.returns-in-Woken-clause-caller
returns-in-Woken-clause-caller g c = sleeps c.args.sleeping (roused.Woken c.in-Woken.woken) (returns-in-Woken-clause-rows g c)

pub returns-in-Handed-clause-rows : goal.returns-in-Handed-clause-rows
returns-in-Handed-clause-rows g c =
    let awake = same_seat c.sleeping.inside.token c.await_grant_for.new.token c.sleeping.inside.numbers
    c.await_grant_for.ensures ∙ c.sleeping.view_is in
    roused_handed c.args.sleeping c.loop.sleeping c.in-Handed.seat c.loop.invariant
    (subst (λ (q : SeatModel). IsPolled q (Handed c.in-Handed.seat)) awake c.in-Handed.ensures.rows)

pub returns-in-Handed-clause-caller : goal.returns-in-Handed-clause-caller
returns-in-Handed-clause-caller g c = sleeps c.args.sleeping (roused.Handed c.in-Handed.seat) (returns-in-Handed-clause-rows g c)
