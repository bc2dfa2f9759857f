-- What a root that keeps no shape is to whoever uses it.
use Rattle.std.specs.Prelude.{ℕ, List}
use Rattle.waiters.specs.declared.wait.Wait.{Wait}

-- the counters in rising order, each with its waits; and how many waits fit
pub record Root : Type 0 where
  pub queues : List (ℕ × List Wait)
  pub seats : ℕ
