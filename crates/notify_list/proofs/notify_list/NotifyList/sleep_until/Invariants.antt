use Rattle.std.specs.Prelude.{◌≡◌}
use Rattle.notify_list.specs.declared.waited.WaitedUntil.{WaitedUntil}
use Rattle.notify_list.specs.Seats.{SeatModel}
use Rattle.notify_list.specs.CallersTimed.{SleepsInTime}
use Rattle.notify_list.proofs.notify_list.NotifyList.sleep_until.Given as goal

abbrev pub invariant-loop : goal.invariant-loop
invariant-loop g l = record {
  list : l.parked.list ≡ l.initial.parked.list;
  sleeps : (how : WaitedUntil) (t : SeatModel) → SleepsInTime l.parked how t → SleepsInTime l.initial.parked how t;
}
