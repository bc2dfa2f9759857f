use Rattle.std.proofs.Common.{◌≡◌, ℕ, ◌<◌, ◌^◌, List, ap, ◌∙◌, slice_index, subst, rules}
use Rattle.step_table.specs.declared.parts.Parts.{Parts}
use Rattle.step_core.proofs.scenario.Scenario.starts.Goals as goal

pub returns-clause-fits : goal.returns-clause-fits
returns-clause-fits c =
    let same : c.as_slice-starts.result.now ≡ c.args.self.now.starts
    = c.as_slice-starts.ensures ∙ ap (λ (parts : Parts). parts.starts) c.self.view_is in
    λ k. subst (λ (starts : List ℕ). slice_index starts k < 2 ^ 32) same (search rules)
