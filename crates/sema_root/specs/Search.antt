-- What a search finds in a sorted vector of entries. No public clause cites this.
use Rattle.std.specs.Prelude.{◌≡◌, ◌<◌, ◌≤◌, ℕ, List, map, length, take, drop, slice_index_or}
use Rattle.sema_root.specs.declared.sorted_root.CounterQueue.{CounterQueue}
use Rattle.sema_root.specs.Entries.{AllBelow, AllAbove}

-- the counters, each with the key of its list
abbrev pub pairs : List CounterQueue → List (ℕ × ℕ)
pairs = map (λ entry. (entry.counter, entry.list))

-- the entry at this place is the counter's
pub record IsAt (entries : List CounterQueue) (counter at : ℕ) : Type 0 where
  pub in_range : at < length entries
  pub here : (other : CounterQueue) → (slice_index_or entries at other).counter ≡ counter

-- the counter would go to this place: smaller ones before it, and greater ones from it on
pub record IsGapFor (entries : List CounterQueue) (counter at : ℕ) : Type 0 where
  pub in_range : at ≤ length entries
  pub below : AllBelow counter (pairs (take at entries))
  pub above : AllAbove counter (pairs (drop at entries))
