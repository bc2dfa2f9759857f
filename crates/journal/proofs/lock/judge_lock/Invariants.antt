use Rattle.std.proofs.Common.{◌≡◌, take}
use Rattle.journal.specs.LawfulJournal.{entries_of}
use Rattle.journal.specs.Locks.{holder_of, KeepsLock}
use Rattle.journal.proofs.lock.judge_lock.Given as goal

-- the lock is kept in front, and held so
abbrev pub invariant-loop-place : goal.invariant-loop-place
invariant-loop-place l =
    record {
      holder : l.holder ≡ holder_of l.lock (entries_of (take l.place l.journal.entries));
      kept : KeepsLock l.lock (entries_of (take l.place l.journal.entries));
    }
