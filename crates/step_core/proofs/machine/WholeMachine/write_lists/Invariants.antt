use Rattle.std.proofs.Common.{◌≡◌, ◌++◌, [], length}
use Rattle.step_keys.specs.Key.{joined, list_words}
use Rattle.step_rows.specs.ListStored.{world_of}
use Rattle.step_core.specs.State.{no_list}
use Rattle.step_rows.specs.Stored.{each}
use Rattle.step_core.proofs.machine.WholeMachine.write_lists.Given as goal

abbrev pub invariant-loop-list : goal.invariant-loop-list
invariant-loop-list l =
    l.key.items ≡ l.fn.key.items ++ joined l.list-index
    (λ k. list_words (length (each no_list l.fn.self.lists k).seats) (world_of (each no_list l.fn.self.lists k) []))
