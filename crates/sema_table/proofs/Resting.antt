-- A seat between two calls has come by all units that were taken for it.
use Rattle.std.proofs.Common.{◌≡◌, ℕ, ◌+◌, ◌<◌, Bool, true, false, sym, ap, ◌∙◌, arith}
use mathlib.Core.Logic.{dite}
use native.Mathlib.Decide.{ℕ_discrete}
use Rattle.step_table.specs.World.{SemaWorld}
use Rattle.step_table.specs.Steps.{IsReached}
use Rattle.step_table.specs.Journal.{takes}
use Rattle.step_law_semaphores.specs.Served.{served}
use Rattle.step_law_semaphores.proofs.Promises.{the_law}
use Rattle.step_law_semaphores.proofs.Accounts.{the_accounts}
use Rattle.sema_table.specs.declared.view.Known.{Known}
use Rattle.sema_table.specs.declared.view.Setting.{Setting}
use Rattle.sema_table.specs.Setting.{layout}
use Rattle.sema_table.specs.Places.{is_free}

pub not_both : {A : Type 0} (b : Bool) → b ≡ false → b ≡ true → A
not_both b e f = absurd (cc)

-- nothing is served to it, since it isn't parked
pub free_counted : (z : Setting) (k : ℕ) (w : Known) (t : SemaWorld) → IsReached (layout z) t → k < z.seats
    → (t.seats k).place ≡ w.place → t.journal ≡ w.seen
    → takes k t.journal ≡ w.taken + served (layout z) t k → is_free w.place ≡ true → takes k w.seen ≡ w.taken
free_counted z k w t reached there at seen all free = ap (takes k) (sym seen) ∙ all ∙ (let e = none_served in omega arith)
  where
    none_served : served (layout z) t k ≡ 0
    none_served = dite (ℕ_discrete (served (layout z) t k) 0)
        (λ e. e)
        (λ ne. let parked = (the_accounts.served (layout z) t (the_law.invariant (layout z) t reached) k there).1 (omega (arith, ne)) in
        not_both (is_free w.place) (ap is_free (sym at ∙ parked.2.3)) free)
