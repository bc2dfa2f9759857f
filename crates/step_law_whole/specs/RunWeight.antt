-- The weight of a run of a scenario: that of its machine, and what the calls cost that aren't begun.
use Rattle.std.specs.Prelude.{ℕ, ◌+◌, List, [], ◌∷◌, length, drop}
use Rattle.step_table.specs.declared.call.Call.{Call}
use Rattle.step_table.specs.declared.parts.Parts.{Parts}
use Rattle.step_table.specs.Counting.{total}
use Rattle.step_table.specs.Run.{Run, layout}
use Rattle.step_law_whole.specs.RunInvariant.{calls_of}
use Rattle.step_law_whole.specs.CoreWeight.{core_weight, call_cost}

-- of n seats: what these calls cost together, and what those of all these seats do
abbrev pub calls_cost : ℕ → List Call → ℕ
calls_cost n [] = 0
calls_cost n (call ∷ calls) = call_cost n call + calls_cost n calls

abbrev pub scripts_cost : ℕ → List (List Call) → ℕ
scripts_cost n [] = 0
scripts_cost n (calls ∷ scripts) = calls_cost n calls + scripts_cost n scripts

-- no schedule of the scenario has more steps: what all calls of all seats cost
abbrev pub most_steps : Parts → ℕ
most_steps parts = scripts_cost (length parts.calls) parts.calls

abbrev pub run_weight : Parts → Run → ℕ
run_weight parts run =
    core_weight (layout parts) run.core
    + total (length parts.calls)
    (λ k. calls_cost (length parts.calls) (drop (run.begun k) (calls_of parts k)))
