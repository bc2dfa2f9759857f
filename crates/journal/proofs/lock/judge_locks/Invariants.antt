use Rattle.journal.specs.Locks.{IsFirstOf}
use Rattle.journal.proofs.lock.judge_locks.Given as goal

-- of the locks in front
abbrev pub invariant-loop-lock : goal.invariant-loop-lock
invariant-loop-lock l = IsFirstOf l.journal l.locks l.lock-index l.first
