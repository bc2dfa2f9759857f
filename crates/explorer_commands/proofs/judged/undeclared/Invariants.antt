use Rattle.std.proofs.Common.{ℕ, ◌<◌, length}
use Rattle.std.specs.Prelude.{slice_index}
use Rattle.explorer_commands.proofs.judged.undeclared.Given as goal

-- the locks in front are declared
abbrev pub invariant-loop-lock : goal.invariant-loop-lock
invariant-loop-lock l = (k : ℕ) → k < l.lock-index → slice_index l.locks k < length l.journal.starts
