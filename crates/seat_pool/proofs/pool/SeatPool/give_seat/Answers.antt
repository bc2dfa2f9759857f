use Rattle.std.proofs.Common.{sym, ap, ◌∙◌}
use Rattle.seat_pool.specs.Rule.{home_of}
use Rattle.seat_pool.specs.Pools.{count_or_zero}
use Rattle.seat_pool.proofs.Keeping.{gives, has_room}
use Rattle.seat_pool.proofs.Lending.{of_loan, some_place}
use Rattle.seat_pool.proofs.pool.SeatPool.give_seat.Goals as goal

pub push_as-requires-clause-rule : goal.push_as-requires-clause-rule
push_as-requires-clause-rule g c =
    let t = g.T.Lendable in let own = c.loan.invariant.1 in
    let its = of_loan t.home t.number t.rests t.count _ c.args.seat _ c.loan.inside.pass own.0 own.1 own.2 c.loan.view_is c.requires.lent in (
      gives t.home t.number t.rests t.count _ _ _ own.0 c.args.seat its.0 c.requires.lent.rest its.1,
      has_room t.home t.number t.rests t.count _ _,
    )

pub unreachable-requires : goal.unreachable-requires
unreachable-requires g c =
    let t = g.T.Lendable in let own = c.loan.invariant.1 in
    some_place t.count c.self.inside.ring.cap _ own.0 own.1 own.2
    (ap (λ p. p.places) (c.self.view_is ∙ sym c.requires.pool ∙ ap (λ l. l.lender.pool) (sym c.loan.view_is)) ∙ ap (λ v. count_or_zero t.count (home_of v)) own.2)
    c.in_default.ensures.rule.2
