-- What a wait on a condition variable promises of its list and of its locker.
use Rattle.notify_list.specs.declared.waited.Waited.{Waited}
use Rattle.notify_list.specs.declared.waited.WaitedUntil.{WaitedUntil}
use Rattle.notify_list.specs.Seats.{SeatModel}
use Rattle.notify_list.specs.Tickets.{IsAdded}
use Rattle.notify_list.specs.Waiting.{IsWaited, IsGranted}
use Rattle.notify_list.specs.Callers.{GetsTicket, WaitsForGrant}
use Rattle.notify_list.specs.CallersTimed.{WaitsInTime}

-- the seat took a ticket, unlocked the locker showing the holding that has it, waited with the ticket until
-- it was granted, and locked the locker. Its rows on the list are those of the two, and no others: so it
-- grants nothing
pub record HasWaited {L : Type 0} (unlocks : L → SeatModel → L → Type 0) (locks : L → L → Type 0)
    (s : SeatModel) (l : L) (waited : Waited) (t : SeatModel) (m : L) : Type 0 where
  pub holding : SeatModel
  pub between : L
  pub added : IsAdded s holding
  pub unlocked : unlocks l holding between
  pub waits : IsWaited holding waited t
  pub granted : IsGranted holding t
  pub locked : locks between m

-- the same to a caller who knows no rows: the seat got a ticket, and held it while the locker was unlocked;
-- it waited with it, and the locker was locked
pub record WaitsForSignal {L : Type 0} (unlocks : L → SeatModel → L → Type 0) (locks : L → L → Type 0)
    (s : SeatModel) (l : L) (waited : Waited) (t : SeatModel) (m : L) : Type 0 where
  pub holding : SeatModel
  pub between : L
  pub gets : GetsTicket s holding
  pub unlocked : unlocks l holding between
  pub waits : WaitsForGrant holding waited t
  pub locked : locks between m

-- the same of a wait with a time-out: it waited with the ticket until that was granted, or left
pub record WaitsForSignalInTime {L : Type 0} (unlocks : L → SeatModel → L → Type 0) (locks : L → L → Type 0)
    (s : SeatModel) (l : L) (waited : WaitedUntil) (t : SeatModel) (m : L) : Type 0 where
  pub holding : SeatModel
  pub between : L
  pub gets : GetsTicket s holding
  pub unlocked : unlocks l holding between
  pub waits : WaitsInTime holding waited t
  pub locked : locks between m
