-- The rows that the calls of a lock ran.
use Rattle.std.specs.Prelude.{false}
use Rattle.sema_table.specs.declared.answers.Wake.{Wake}
use Rattle.sema_table.specs.Meeting.{HasMet}
use Rattle.sema_table.specs.Whole.{IsAcquired, IsReleased}
use Rattle.sync_parts.specs.Lock.{LockModel}

-- the seat acquired the counter without lifo
abbrev pub RunsAcquire : LockModel → LockModel → Type 0
RunsAcquire l m = IsAcquired l.seat l.counter false m.seat

-- the seat released the counter without handoff
abbrev pub RunsRelease : LockModel → LockModel → Type 0
RunsRelease l m = (wake : Wake) × IsReleased l.seat l.counter false m.seat wake

-- each seat looked at the counter 0 once
abbrev pub RunsMeet : LockModel → LockModel → LockModel → LockModel → Type 0
RunsMeet one other one_now other_now = HasMet one.seat other.seat one_now.seat other_now.seat
