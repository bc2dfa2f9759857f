use Rattle.std.proofs.Common.{ℕ, [], Option, Some, None, IfNone}
use Rattle.sync_parts.specs.ListSeats.{SeatModel}
use Rattle.sync_parts.specs.ListCalls.{AllGranted}
use Rattle.sync_parts.specs.ListCallers.{IsSeatAfter, NotifiesOneTicket}
use Rattle.examples.proofs.calls.passes_on.Goals as goal

pub wait-seat-requires : goal.wait-seat-requires
wait-seat-requires g c = c.requires.0

-- a notification that answers no ticket has told nothing
found_none : (s t : SeatModel) (answer : Option ℕ) → NotifiesOneTicket s answer t → IfNone answer (IsSeatAfter s [] t) × IfNone answer (AllGranted s t)
found_none s t None none = none
found_none s t (Some word) some = (tt, tt)

pub returns-clause-waited : goal.returns-clause-waited
returns-clause-waited g c = let its = c.wait-seat.ensures.caller.2 in rw its.1 its.2

pub returns-clause-told : goal.returns-clause-told
returns-clause-told g c = (found_none c.args.notifier.now c.one-granted.new.seat c.one-granted.result c.one-granted.ensures.caller).0

pub returns-clause-granted : goal.returns-clause-granted
returns-clause-granted g c = (found_none c.args.notifier.now c.one-granted.new.seat c.one-granted.result c.one-granted.ensures.caller).1
