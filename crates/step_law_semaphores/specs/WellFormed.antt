-- Form and bounds of the semaphores: what each run keeps, by the table or by a changed one.
use Rattle.std.specs.Prelude.{◌≡◌, ℕ, ◌<◌}
use Rattle.step_table.specs.World.{Layout, SemaWorld}
use Rattle.step_table.specs.Journal.{plain, plain_start, replay}
use Rattle.step_law_semaphores.specs.Invariant.{LocksOwned, WaitsPlaced, SleepersCounted, FewTurns}
use Rattle.step_law_semaphores.specs.Invariant.{SeatsKnown, Finds}

-- the parts of the invariant that tell of no unit and of no waiter word
pub record IsWellFormedWorld (m : Layout) (s : SemaWorld) : Type 0 where
  pub locks : LocksOwned m s
  pub placed : WaitsPlaced m s
  pub sleepers : SleepersCounted m s
  pub turns : FewTurns m s
  pub seats : SeatsKnown m s
  pub finds : (k : ℕ) → k < m.seats → Finds k s.words.lists (s.seats k).place
  pub replays : plain s.words ≡ replay (plain_start m.starts) s.journal
