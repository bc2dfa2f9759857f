use Rattle.std.proofs.Common.{length, refl, sym, ◌∙◌, arith}
use Rattle.std.proofs.lemmas.Option.{slice_get_read, slice_get_past}
use Rattle.program_rows.proofs.Coming.{comes_else, comes_behind, comes_to, comes_at_last, goes_on}
use Rattle.program_rows.proofs.seat.Seat.come_from.Goals as goal

pub returns-in_default : goal.returns-in_default
returns-in_default c = record {
  seat = comes_else c.args.code.now c.args.me c.args.self.now c.args.line c.loop.counter c.loop.self c.loop.invariant c.in_default.not-Before;
  grant = c.loop.invariant.grant;
}

pub returns-in-None-clause-seat : goal.returns-in-None-clause-seat
returns-in-None-clause-seat c =
    comes_behind c.args.code.now c.args.me c.args.self.now c.args.line c.loop.counter c.loop.self c.loop.invariant c.in-Before.at c.in-Before.is
    (let t = c.loop-test.true in omega arith) (slice_get_past c.args.code.now c.in-Before.at c.in-None.ensures.lookup.3) _ c.end.ensures.seat

pub returns-in-Some-clause-seat : goal.returns-in-Some-clause-seat
returns-in-Some-clause-seat c =
    comes_to c.args.code.now c.args.me c.args.self.now c.args.line c.loop.counter c.loop.self c.loop.invariant c.in-Before.at c.in-Before.is
    c.in-Some.next.now (slice_get_read c.args.code.now (length c.args.code.now) c.in-Before.at c.in-Some.next.now refl c.in-Some.ensures.lookup.3.0
    c.in-Some.ensures.lookup.1) (sym c.makes_steps.ensures ∙ c.if-makes_steps.true)

pub advance-requires-clause-fits : goal.advance-requires-clause-fits
advance-requires-clause-fits c =
    c.requires c.in-Before.at c.in-Some.next.now
    (slice_get_read c.args.code.now (length c.args.code.now) c.in-Before.at c.in-Some.next.now refl c.in-Some.ensures.lookup.3.0 c.in-Some.ensures.lookup.1)

pub loop-preserved : goal.loop-preserved
loop-preserved c =
    goes_on c.args.code.now c.args.me c.args.self.now c.args.line c.loop.counter c.loop.self c.loop.invariant c.in-Before.at c.in-Before.is
    (let t = c.loop-test.true in omega arith) c.in-Some.next.now
    (slice_get_read c.args.code.now (length c.args.code.now) c.in-Before.at c.in-Some.next.now refl c.in-Some.ensures.lookup.3.0 c.in-Some.ensures.lookup.1)
    c.advance.new.self c.advance.ensures.seat
    c.advance.ensures.grant

pub returns-clause-seat : goal.returns-clause-seat
returns-clause-seat c =
    comes_at_last c.args.code.now c.args.me c.args.self.now c.args.line c.loop.counter c.loop.self c.loop.invariant _
    (let t = c.loop-test.false in let e = c.loop.auto.counter-end in omega arith) c.end_there.ensures.seat
