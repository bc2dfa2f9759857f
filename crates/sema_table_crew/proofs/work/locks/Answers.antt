use Rattle.std.proofs.Common.{◌≡◌, ℕ, ◌+◌, ◌%◌, ◌^◌, false, length, rules, sym, ap, ◌∙◌, subst}
use Rattle.sema_table.specs.Seats.{TableModel}
use Rattle.sema_table.specs.Callers.{AcquiresUnit}
use Rattle.sema_table_crew.specs.declared.work.Work.TheVariants.{Locks}
use Rattle.sema_table_crew.specs.Turns.{Releases}
use Rattle.sema_table_crew.proofs.Keeping.{one_more}
use Rattle.sema_table_crew.proofs.Ending.{acquired_keeps}
use Rattle.sema_table_crew.proofs.work.locks.Goals as goal

pub loop-turn-preserved : goal.loop-turn-preserved
loop-turn-preserved g c =
    let s = c.loop-turn.seat in let u = c.acquire-seat.result in let turn = c.loop-turn.turn in let was = c.loop-turn.invariant in
    let table = c.args.table.now in let own = c.args.seat.number in
    let at : c.counter-counter.result ≡ (own + turn) % 2 ^ 32 % length c.args.seat.table.setting.starts =
    c.counter-counter.ensures.is ∙ ap (λ (i : ℕ). (i + turn) % 2 ^ 32 % length table.setting.starts) was.4
    ∙ ap (λ (t : TableModel). (own + turn) % 2 ^ 32 % length t.setting.starts) (sym c.requires.0) in
    let taken = acquired_keeps s u c.counter-counter.result false c.acquire-seat.ensures.caller in let given = c.release-seat.ensures.same in (
      given.0 ∙ taken.table ∙ was.0,
      given.1 ∙ taken.number ∙ was.1,
      search rules,
      one_more Locks c.args.seat c.loop-turn.turn s c.release-seat.result was.3 (
        u,
        subst (λ (k : ℕ). AcquiresUnit s k false u) at c.acquire-seat.ensures.caller,
        subst (λ (k : ℕ). Releases u k false c.release-seat.result) at c.release-seat.ensures.released,
      ),
      was.4,
    )

pub release-seat-requires : goal.release-seat-requires
release-seat-requires g c = let was = c.loop-turn.invariant in (
  (acquired_keeps c.loop-turn.seat c.acquire-seat.result c.counter-counter.result false c.acquire-seat.ensures.caller).table
      ∙ was.0,
  c.counter-counter.ensures.inside,
)
