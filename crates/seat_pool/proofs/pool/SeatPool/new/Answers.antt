use Rattle.std.proofs.Common.{Some, rules, sym, ap, ◌∙◌}
use Rattle.seat_pool.specs.Rule.{home_of}
use Rattle.seat_pool.specs.Pools.{count_or_zero}
use Rattle.seat_pool.proofs.Keeping.{has_room}
use Rattle.seat_pool.proofs.Filling.{fills, filled, has_place, all_filled}
use Rattle.seat_pool.proofs.pool.SeatPool.new.Goals as goal

pub push_as-requires-clause-rule : goal.push_as-requires-clause-rule
push_as-requires-clause-rule g c = (
  fills g.T.Lendable.home g.T.Lendable.number g.T.Lendable.rests g.T.Lendable.count _ _ _ _ _ _ c.loop-seat.invariant.1
      c.in-Some.ensures.items _ _,
  has_room g.T.Lendable.home g.T.Lendable.number g.T.Lendable.rests g.T.Lendable.count _ _,
)

pub loop-seat-preserved : goal.loop-seat-preserved
loop-seat-preserved g c =
    let here = c.loop-seat.invariant in let pass = c.in-Ok-push_as.ensures.queue in (
      (pass.0 ∙ here.0.0, pass.2 ∙ here.0.1),
      filled g.T.Lendable.home g.T.Lendable.number g.T.Lendable.rests g.T.Lendable.count _ _ _ _ _ _ here.1 c.in-Some.ensures.items _
          c.in-Ok-push_as.ensures.rule,
    )

pub unreachable-requires : goal.unreachable-requires
unreachable-requires g c =
    has_place g.T.Lendable.home g.T.Lendable.number g.T.Lendable.rests g.T.Lendable.count _ _ _ _ _ _ c.loop-seat.invariant.1
    c.in-Some.ensures.items c.in_default-push_as.ensures.rule.2

pub returns : goal.returns
returns g c =
    let now = c.loop-seat.invariant.1 in
    let is = all_filled g.T.Lendable.home g.T.Lendable.number g.T.Lendable.rests g.T.Lendable.count _ _ _ _ now (search rules) in
    let places = ap (λ v. count_or_zero g.T.Lendable.count (home_of v)) is ∙ sym now.places_are in record {
      home = λ k d lt. ap home_of is ∙ ap Some (sym (now.each k d lt));
      pool = λ i. record { id = c.loop-seat.invariant.0.0 i; places = places i };
      err = tt;
    }
