-- What `run_threads` does: the rounds of its workers, each of which holds one seat, and the table that it
-- closes.
use Rattle.std.specs.Prelude.{◌≡◌, ◌⊎◌, ◌+◌, ◌%◌, ◌<◌, ◌≤◌, ◌==◌, ℕ, zero, suc, Bool, [], ◌∷◌, List, length}
use Rattle.std.specs.Prelude.{slice_index_or}
use Rattle.std.specs.List.{All}
use Rattle.std.specs.declared.thread.PromisedHandle.{PromisedHandle}
use Rattle.sema_table.specs.declared.answers.Wake.{Wake}
use Rattle.sema_table.specs.declared.settings.Settings.{Settings}
use Rattle.sema_table.specs.Seats.{TableModel, SeatModel}
use Rattle.sema_table.specs.Making.{new_seat, IsOutside}
use Rattle.sema_table.specs.Whole.{IsReleased, IsAcquired}
use Rattle.sema_table.specs.Closing.{ClosedModel, IsClosed, has_added}
use Rattle.explorer_commands.specs.declared.threads.Worked.{Worked}

-- 1 to 64 workers, and 1 to 1,000,000 rounds
pub record AreWithin (workers rounds : ℕ) : Type 0 where
  pub workers_are : (1 ≤ workers) × (workers ≤ 64)
  pub rounds_are : (1 ≤ rounds) × (rounds ≤ 1000000)

-- not 1 to 64 workers, or not 1 to 1,000,000 rounds
abbrev pub AreOutside : ℕ → ℕ → Type 0
AreOutside workers rounds = IsOutside 64 workers ⊎ IsOutside 1000000 rounds

-- one counter at 0, one root, a seat for each worker, and each may add a unit a round
pub record AreThreadsSettings (workers rounds : ℕ) (settings : Settings) : Type 0 where
  pub starts : settings.starts.items ≡ 0 ∷ []
  pub seats : settings.seats ≡ workers
  pub roots : settings.roots ≡ 1
  pub limit : settings.release_limit ≡ rounds

-- a table of these settings
pub record IsThreadsTable (workers rounds : ℕ) (t : TableModel) : Type 0 where
  pub starts : t.setting.starts ≡ 0 ∷ []
  pub seats : t.setting.seats ≡ workers
  pub roots : t.setting.roots ≡ 1
  pub limit : t.setting.limit ≡ rounds

abbrev pub is_odd : ℕ → Bool
is_odd round = round % 2 == 1

-- a release of counter 0, and then an acquire of it: in odd rounds with handoff, and with lifo
abbrev pub IsRound : ℕ → SeatModel → SeatModel → Type 0
IsRound round s t =
    (u : SeatModel) × (wake : Wake) × IsReleased s 0 (is_odd round) u wake × IsAcquired u 0 (is_odd round) t

-- so many rounds, one after the other, from round 0 on
abbrev pub HasRun : SeatModel → ℕ → SeatModel → Type 0
HasRun s zero t = t ≡ s
HasRun s (suc n) t = (u : SeatModel) × HasRun s n u × IsRound n u t

-- the new seat of this number has run so many rounds: it may add no more, and was given as many units
pub record HasWorked (t : TableModel) (number rounds : ℕ) (s : SeatModel) : Type 0 where
  pub own : s.table ≡ t
  pub number_is : s.number ≡ number
  pub left : s.left ≡ 0
  pub added : has_added s ≤ rounds
  pub taken : s.taken ≡ rounds
  pub ran : HasRun (new_seat t number) rounds s

-- a thread that was started, which promises something of the seat that it hands back
abbrev pub Worker : Type 0
Worker = PromisedHandle SeatModel Worked

-- the thread promises that the seat of this number has worked
pub record IsWorker (t : TableModel) (number rounds : ℕ) (worker : Worker) : Type 0 where
  pub table_is : worker.promise.table.now ≡ t
  pub number_is : worker.promise.number ≡ number
  pub rounds_are : worker.promise.rounds ≡ rounds

-- the seat has run all its rounds, or nothing: no thread has it
abbrev pub HasStopped : TableModel → ℕ → SeatModel → Type 0
HasStopped t rounds s = HasWorked t s.number rounds s ⊎ (s ≡ new_seat t s.number)

-- of so many seats the first are with threads, in the order of their numbers, and the others are back
pub record HaveBegun (t : TableModel) (workers rounds : ℕ) (started : List Worker) (back : List SeatModel)
    : Type 0 where
  pub count : length started + length back ≡ workers
  pub each : (i : ℕ) (d : Worker) → i < length started → IsWorker t i rounds (slice_index_or started i d)
  pub others : All (HasStopped t rounds) back

-- so many seats have, and stand in the order of their numbers
pub record HaveWorked (t : TableModel) (workers rounds : ℕ) (seats : List SeatModel) : Type 0 where
  pub count : length seats ≡ workers
  pub each : (i : ℕ) (d : SeatModel) → i < workers → HasWorked t i rounds (slice_index_or seats i d)

-- so many seats are back, and none is with a thread
pub record AreHome (t : TableModel) (workers rounds : ℕ) (seats : List SeatModel) : Type 0 where
  pub count : length seats ≡ workers
  pub each : All (HasStopped t rounds) seats

-- a table of this kind was closed with all its seats, each of which had run its rounds
pub record IsThreadsRun (workers rounds : ℕ) (c : ClosedModel) : Type 0 where
  pub table : TableModel
  pub seats : List SeatModel
  pub made : IsThreadsTable workers rounds table
  pub worked : HaveWorked table workers rounds seats
  pub closed : IsClosed table.setting seats c

-- a table of this kind was closed with all its seats, each of which had run its rounds, or nothing
pub record IsThreadsEnd (workers rounds : ℕ) (c : ClosedModel) : Type 0 where
  pub table : TableModel
  pub seats : List SeatModel
  pub made : IsThreadsTable workers rounds table
  pub home : AreHome table workers rounds seats
  pub closed : IsClosed table.setting seats c
