-- What a root is to whoever uses it: a finite map from counters to nonempty lists of waits.
use Rattle.std.specs.Prelude.{◌≡◌, ◌≢◌, ◌<◌, ◌+◌, ℕ, Bool, List, [], ◌∷◌, ◌++◌, length, unwrap_or}
use Rattle.std.specs.Prelude.{if◌then◌else◌}
use Rattle.std.specs.List.{AllByRecursion}
use Rattle.waiters.specs.declared.wait.Wait.{Wait}
use Rattle.sema_root.specs.Entries.{entry_of, AreRising}

-- who waits on a counter, first to last; nobody where it isn't in
abbrev pub waits_on : List (ℕ × List Wait) → ℕ → List Wait
waits_on queues counter = unwrap_or (entry_of counter queues) []

-- how many wait, on all counters together
abbrev pub total : List (ℕ × List Wait) → ℕ
total [] = 0
total (queue ∷ rest) = length queue.1 + total rest

-- the counters rise, so each is in once, and somebody waits on each
pub record AreQueues (queues : List (ℕ × List Wait)) : Type 0 where
  pub rising : AreRising queues
  pub waited : AllByRecursion (λ queue. 0 < length queue.1) queues

-- a wait goes to the end of its queue, with lifo to the front
abbrev pub joined_by : Bool → Wait → List Wait → List Wait
joined_by lifo wait waits = if lifo then wait ∷ waits else waits ++ wait ∷ []

-- these wait on the counter now, and on every other counter those who did before
pub record Changes (old new : List (ℕ × List Wait)) (counter : ℕ) (waits : List Wait) : Type 0 where
  pub there : waits_on new counter ≡ waits
  pub elsewhere : (other : ℕ) → other ≢ counter → waits_on new other ≡ waits_on old other
