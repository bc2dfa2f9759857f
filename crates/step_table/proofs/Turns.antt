-- What holds of the turns of every table.
use Rattle.std.proofs.Common.{◌≡◌, ℕ, ◌<◌, sym, ◌∙◌}
use Rattle.step_table.specs.Turn.{Rules, TurnOf, LeadsBy, none, more}

-- a rule that each step keeps holds wherever steps lead
pub steps_keep : {SemaWorld : Type 0} (Step : SemaWorld → ℕ → SemaWorld → Type 0) (seats : ℕ) (Rule : SemaWorld → Type 0)
    → ((s t : SemaWorld) (i : ℕ) → i < seats → Rule s → Step s i t → Rule t) → (s t : SemaWorld) → LeadsBy Step seats s t → Rule s → Rule t
steps_keep Step seats Rule kept s t none rule = rule
steps_keep Step seats Rule kept s t (more {t = r} i in_range before step) rule =
    kept r t i in_range (steps_keep Step seats Rule kept s r before rule) step

module _ {SemaWorld Word Value Next : Type 0} (r : Rules SemaWorld Word Value Next) where
  pub sole : (s t u : SemaWorld) (i : ℕ) → TurnOf r s i t → TurnOf r s i u → t ≡ u
  sole s t u i a b = a.is ∙ sym b.is
