use Rattle.std.proofs.Common.{rules}
use Rattle.c_calls.proofs.handle.SeatHandle.free_table_seat.Goals as goal

-- a list's seat stays
pub returns-in_default-clause-other : goal.returns-in_default-clause-other
returns-in_default-clause-other c = search rules
