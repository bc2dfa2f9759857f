use Rattle.std.proofs.Common.{◌≡◌, ◌++◌}
use Rattle.program.proofs.draft.push_names.Given as goal

abbrev pub invariant-loop-name : goal.invariant-loop-name
invariant-loop-name l = l.names ≡ l.initial.names ++ l.yielded
