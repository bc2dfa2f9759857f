use Rattle.std.proofs.Common.{ℕ, subst}
use Rattle.sema_table.specs.Whole.{IsReleased, IsAcquired}
use Rattle.explorer_commands.specs.Threads.{is_odd}
use Rattle.explorer_commands.proofs.threads.run_round.Goals as goal

pub returns : goal.returns
returns g c =
    let u = c.in-Ok.seat in let wake = c.in-Ok.field-0-1 in let odd = is_odd c.args.round in let at = c.new-counter.ensures in (
      u,
      wake,
      subst (λ (k : ℕ). IsReleased c.args.seat k odd u wake) at c.in-Ok.ensures.rows.1,
      subst (λ (k : ℕ). IsAcquired u k odd c.acquire.result) at c.acquire.ensures.rows,
    )
