use Rattle.std.proofs.Common.{◌≡◌, ℕ, ◌+◌, ◌%◌, length, rules, sym, ap, ◌∙◌, subst}
use Rattle.sema_table.specs.Seats.{TableModel}
use Rattle.sema_table.specs.Callers.{AcquiresUnit}
use Rattle.sema_table_crew.specs.declared.work.Work.TheVariants.{Hands}
use Rattle.sema_table_crew.specs.Turns.{Releases}
use Rattle.sema_table_crew.proofs.Keeping.{one_more}
use Rattle.sema_table_crew.proofs.Ending.{acquired_keeps}
use Rattle.sema_table_crew.proofs.work.hands.Goals as goal

pub loop-turn-preserved : goal.loop-turn-preserved
loop-turn-preserved g c =
    let s = c.loop-turn.seat in let u = c.acquire-seat.result in let t = c.release-seat.result in
    let was = c.loop-turn.invariant in let own = c.args.seat.number in let way = c.args.way in
    let takes : c.counter-takes.result ≡ own % length c.args.seat.table.setting.starts =
    was.4 ∙ ap (λ (z : TableModel). own % length z.setting.starts) (sym c.requires.0) in
    let gives : c.counter-gives.result ≡ (own + 1) % length c.args.seat.table.setting.starts =
    was.6 ∙ ap (λ (z : TableModel). (own + 1) % length z.setting.starts) (sym c.requires.0) in
    let taken = acquired_keeps s u c.counter-takes.result way.lifo c.acquire-seat.ensures.caller in let given = c.release-seat.ensures.same in (
      given.0 ∙ taken.table ∙ was.0,
      given.1 ∙ taken.number ∙ was.1,
      search rules,
      one_more (Hands way) c.args.seat c.loop-turn._turn s t was.3 (
        u,
        subst (λ (k : ℕ). AcquiresUnit s k way.lifo u) takes c.acquire-seat.ensures.caller,
        subst (λ (k : ℕ). Releases u k way.handoff t) gives c.release-seat.ensures.released,
      ),
      was.4,
      was.5,
      was.6,
      was.7,
    )

pub release-seat-requires : goal.release-seat-requires
release-seat-requires g c = let was = c.loop-turn.invariant in
    ((acquired_keeps c.loop-turn.seat c.acquire-seat.result c.counter-takes.result c.args.way.lifo c.acquire-seat.ensures.caller).table ∙ was.0, was.7)
