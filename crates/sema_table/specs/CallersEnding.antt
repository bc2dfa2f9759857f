-- What two seats know that met, and all seats as the table ends.
use Rattle.std.specs.Prelude.{◌≡◌, ◌≢◌, ℕ, ◌+◌, ◌<◌, List, [], length, slice_index}
use Rattle.std.specs.List.{filter, sum}
use Rattle.step_table.specs.declared.entry.Entry.{Entry}
use Rattle.step_table.specs.Journal.{plain_start, replay, IsLawful}
use Rattle.step_table.specs.Path.{GoesOn}
use Rattle.step_law_semaphores.specs.Balances.{added_by}
use Rattle.step_law_semaphores.specs.SemaPath.{is_own}
use Rattle.running_rows.specs.Rule.{In}
use Rattle.sema_table.specs.declared.view.Setting.{Setting}
use Rattle.sema_table.specs.Setting.{layout}
use Rattle.sema_table.specs.Seats.{SeatModel}
use Rattle.sema_table.specs.Closing.{sum_by, ClosedModel}
use Rattle.sema_table.specs.Callers.{IsSeatAfter}

-- two seats have seen one journal now, and nothing else of them has changed
pub record SeeTheSame (one other one_now other_now : SeatModel) : Type 0 where
  pub one_after : IsSeatAfter one 0 0 [] one_now
  pub other_after : IsSeatAfter other 0 0 [] other_now
  pub same : one_now.sight.seen ≡ other_now.sight.seen
  pub two : one.number ≢ other.number

-- all seats, of each number one, end their table. There is one lawful journal, of which each has seen a
-- beginning with all that it alone can tell; the values are the counters' numbers after it, and nobody waits.
-- What was added and given in all is what the seats have added and were given, and it balances
pub record EndsTable (z : Setting) (seats : List SeatModel) (c : ClosedModel) : Type 0 where
  pub journal : List Entry
  pub lawful : IsLawful (plain_start (layout z).starts) journal
  pub begins : (s : SeatModel) → In s seats → GoesOn journal s.sight.seen
  pub each : (k : ℕ) → k < z.seats → (s : SeatModel) × In s seats × (s.number ≡ k)
  pub own : (s : SeatModel) → In s seats
      → filter (is_own s.number) journal ≡ filter (is_own s.number) s.sight.seen
  pub counters : length c.values ≡ length z.starts
  pub values : (k : ℕ) → k < length z.starts →
      slice_index c.values k ≡ (replay (plain_start (layout z).starts) journal).numbers k
  pub nobody : (k : ℕ) → (replay (plain_start (layout z).starts) journal).lists k ≡ []
  pub released : c.releases ≡ sum_by (λ s. added_by s.number s.sight.seen) seats
  pub acquired : c.acquires ≡ sum_by (λ s. s.taken) seats
  pub balanced : sum c.values + c.acquires ≡ sum z.starts + c.releases
