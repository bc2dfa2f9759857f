use Rattle.std.proofs.Common.{◌≡◌, false, subst, inl, inr}
use Rattle.sema_table.specs.Seats.{SeatModel}
use Rattle.sema_table.specs.Whole.{TriesOn, TakesAtOnce, FindsNone}
use Rattle.sema_table.proofs.Acquiring.{acquired_after}
use Rattle.sema_table.proofs.CallerAcquires.{acquires}
use Rattle.sema_table.proofs.sema_table.SemaTable.acquire_in_place.Goals as goal

pub returns-in-Taken-clause-rows : goal.returns-in-Taken-clause-rows
returns-in-Taken-clause-rows g c s e =
    let t = c.try_at_sight-tried.new.seat in let first : c.in-Some.seat ≡ s = cc in
    let took : TakesAtOnce c.in-Some.seat c.args.counter t = c.in-Taken.ensures in
    inl (subst (λ (q : SeatModel). TakesAtOnce q c.args.counter t) first took)

pub returns-in-Taken-clause-caller : goal.returns-in-Taken-clause-caller
returns-in-Taken-clause-caller g c s e = acquires s c.try_at_sight-tried.new.seat c.args.counter false (returns-in-Taken-clause-rows g c s e)

pub returns-in-Some-take-clause-rows : goal.returns-in-Some-take-clause-rows
returns-in-Some-take-clause-rows g c s e =
    let t = c.try_at_sight-tried.new.seat in let u = c.in-Some-take.seat in let first : c.in-Some.seat ≡ s = cc in let last : t ≡ u = cc in
    let none : FindsNone c.in-Some.seat c.args.counter t = c.in-Zero.ensures in
    inr (
      u,
      subst (λ (q : SeatModel). FindsNone s c.args.counter q) last (subst (λ (q : SeatModel). FindsNone q c.args.counter t) first none),
      c.acquire_slowly.ensures,
    )

pub returns-in-Some-take-clause-caller : goal.returns-in-Some-take-clause-caller
returns-in-Some-take-clause-caller g c s e = acquires s c.acquire_slowly.result c.args.counter false (returns-in-Some-take-clause-rows g c s e)

pub returns-in-Some-take-2-clause-rows : goal.returns-in-Some-take-2-clause-rows
returns-in-Some-take-2-clause-rows g c s e =
    let t = c.try_at_sight-tried.new.seat in let u = c.in-Some-take-2.seat in let first : c.in-Some.seat ≡ s = cc in let last : t ≡ u = cc in
    let lost : TriesOn c.in-Some.seat c.args.counter t = c.in-Lost.ensures in
    let on : TriesOn s c.args.counter u = subst (λ (q : SeatModel). TriesOn s c.args.counter q) last
    (subst (λ (q : SeatModel). TriesOn q c.args.counter t) first lost) in
    acquired_after s u c.acquire_with_breaks.result c.args.counter false on c.acquire_with_breaks.ensures

pub returns-in-Some-take-2-clause-caller : goal.returns-in-Some-take-2-clause-caller
returns-in-Some-take-2-clause-caller g c s e = acquires s c.acquire_with_breaks.result c.args.counter false (returns-in-Some-take-2-clause-rows g c s e)
