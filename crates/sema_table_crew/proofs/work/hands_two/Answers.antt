use Rattle.std.proofs.Common.{◌≡◌, ℕ, ◌+◌, ◌%◌, false, length, rules, sym, ap, ◌∙◌, subst}
use Rattle.sema_table.specs.Seats.{TableModel}
use Rattle.sema_table.specs.Callers.{AcquiresUnit}
use Rattle.sema_table_crew.specs.declared.work.Work.TheVariants.{HandsTwo}
use Rattle.sema_table_crew.specs.Turns.{ReleasesTwo}
use Rattle.sema_table_crew.proofs.Keeping.{one_more}
use Rattle.sema_table_crew.proofs.Ending.{acquired_keeps}
use Rattle.sema_table_crew.proofs.work.hands_two.Goals as goal

pub loop-turn-preserved : goal.loop-turn-preserved
loop-turn-preserved g c =
    let s = c.loop-turn.seat in let u = c.acquire-seat.result in let v = c.acquire-seat-in-loop-turn.result in
    let t = c.release_two-seat.result in let was = c.loop-turn.invariant in let own = c.args.seat.number in
    let takes : c.counter-takes.result ≡ own % length c.args.seat.table.setting.starts =
    was.4 ∙ ap (λ (z : TableModel). own % length z.setting.starts) (sym c.requires.0) in
    let gives : c.counter-gives.result ≡ (own + 1) % length c.args.seat.table.setting.starts =
    was.6 ∙ ap (λ (z : TableModel). (own + 1) % length z.setting.starts) (sym c.requires.0) in
    let one = acquired_keeps s u c.counter-takes.result false c.acquire-seat.ensures.caller in
    let two = acquired_keeps u v c.counter-takes.result false c.acquire-seat-in-loop-turn.ensures.caller in let given = c.release_two-seat.ensures.same in (
      given.0 ∙ two.table ∙ one.table ∙ was.0,
      given.1 ∙ two.number ∙ one.number ∙ was.1,
      search rules,
      one_more HandsTwo c.args.seat c.loop-turn._turn s t was.3 (
        u,
        v,
        subst (λ (k : ℕ). AcquiresUnit s k false u) takes c.acquire-seat.ensures.caller,
        subst (λ (k : ℕ). AcquiresUnit u k false v) takes c.acquire-seat-in-loop-turn.ensures.caller,
        subst (λ (k : ℕ). ReleasesTwo v k t) gives c.release_two-seat.ensures.released,
      ),
      was.4,
      was.5,
      was.6,
      was.7,
    )

pub acquire-seat-requires-in-loop-turn : goal.acquire-seat-requires-in-loop-turn
acquire-seat-requires-in-loop-turn g c = let was = c.loop-turn.invariant in
    ((acquired_keeps c.loop-turn.seat c.acquire-seat.result c.counter-takes.result false c.acquire-seat.ensures.caller).table ∙ was.0, was.5)

pub release_two-seat-requires : goal.release_two-seat-requires
release_two-seat-requires g c = let was = c.loop-turn.invariant in
    let one = acquired_keeps c.loop-turn.seat c.acquire-seat.result c.counter-takes.result false c.acquire-seat.ensures.caller in
    let two = acquired_keeps c.acquire-seat.result c.acquire-seat-in-loop-turn.result c.counter-takes.result false c.acquire-seat-in-loop-turn.ensures.caller in
    (two.table ∙ one.table ∙ was.0, was.7)
