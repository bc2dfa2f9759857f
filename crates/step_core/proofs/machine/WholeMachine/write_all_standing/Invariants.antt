use Rattle.std.proofs.Common.{◌≡◌, ◌++◌}
use Rattle.step_keys.specs.Key.{joined, standing_words}
use Rattle.step_table.specs.declared.standing.Standing.TheVariants.{Rest}
use Rattle.step_rows.specs.Stored.{each}
use Rattle.step_core.proofs.machine.WholeMachine.write_all_standing.Given as goal

abbrev pub invariant-loop-standing : goal.invariant-loop-standing
invariant-loop-standing l = l.key.items ≡ l.fn.key.items ++ joined l.standing-index (λ k. standing_words (each Rest l.fn.self.standing k))
