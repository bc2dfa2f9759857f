use Rattle.std.proofs.Common.{rules}
use Rattle.sync_parts.proofs.sema_lock.SemaLock.into_seat.Goals as goal

pub returns : goal.returns
returns c = search rules
