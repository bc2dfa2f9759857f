-- How much of a counter has changed.
use Rattle.std.specs.Prelude.{ℕ, ◌+◌, ◌<◌, ◌≤◌, ◌^◌, List}
use Rattle.step_table.specs.declared.entry.Entry.{Entry}
use Rattle.step_law_semaphores.specs.Balances.{added_on, taken_on, added_by, withdrawn_by}

-- how many units were added to the counter c, and how many were taken from it
abbrev pub changes : ℕ → List Entry → ℕ
changes c journal = added_on c journal + taken_on c journal

-- there are never more: seats add at most 2^62 units together, and what is taken was there at the start, which
-- is below 2^32, or was added
abbrev pub most_changes : ℕ
most_changes = 2 ^ 63 + 2 ^ 32

-- what a seat has spent: the units that it has added, and the waits that it has withdrawn
abbrev pub spent_by : ℕ → List Entry → ℕ
spent_by k journal = added_by k journal + withdrawn_by k journal

-- units of c were added or taken since so much was seen
pub record HasChanged (c : ℕ) (seen now : List Entry) : Type 0 where
  pub more : changes c seen < changes c now
  pub most : changes c now ≤ most_changes
