use Rattle.std.proofs.Common.{◌≡◌, ◌++◌}
use Rattle.step_table.specs.Group.{empty_word}
use Rattle.step_keys.specs.Key.{joined, group_words}
use Rattle.step_rows.specs.Stored.{each}
use Rattle.step_core.proofs.machine.WholeMachine.write_groups.Given as goal

abbrev pub invariant-loop-word : goal.invariant-loop-word
invariant-loop-word l = l.key.items ≡ l.fn.key.items ++ joined l.word-index (λ g. group_words (each empty_word l.fn.self.groups g))
