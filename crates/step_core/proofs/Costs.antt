-- What calls cost, and the calls of all seats, when one more comes behind them.
use Rattle.std.proofs.Common.{◌≡◌, ℕ, ◌+◌, List, [], ◌∷◌, ◌++◌, ap, ◌∙◌, sym, add_assoc, add-zero, zero-add}
use Rattle.step_table.specs.declared.call.Call.{Call}
use Rattle.step_law_whole.specs.CoreWeight.{call_cost}
use Rattle.step_law_whole.specs.RunWeight.{calls_cost, scripts_cost}

pub calls_cost-push : (n : ℕ) (calls : List Call) (call : Call)
    → calls_cost n (calls ++ call ∷ []) ≡ calls_cost n calls + call_cost n call
calls_cost-push n [] call = add-zero (call_cost n call) ∙ sym (zero-add (call_cost n call))
calls_cost-push n (first ∷ calls) call =
    ap (λ c. call_cost n first + c) (calls_cost-push n calls call)
    ∙ sym (add_assoc (call_cost n first) (calls_cost n calls) (call_cost n call))

pub scripts_cost-push : (n : ℕ) (scripts : List (List Call)) (calls : List Call)
    → scripts_cost n (scripts ++ calls ∷ []) ≡ scripts_cost n scripts + calls_cost n calls
scripts_cost-push n [] calls = add-zero (calls_cost n calls) ∙ sym (zero-add (calls_cost n calls))
scripts_cost-push n (first ∷ scripts) calls =
    ap (λ c. calls_cost n first + c) (scripts_cost-push n scripts calls)
    ∙ sym (add_assoc (calls_cost n first) (scripts_cost n scripts) (calls_cost n calls))
