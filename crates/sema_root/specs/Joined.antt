-- How a root keeps its queues: an entry a counter names a list of `Lists`. No public clause cites this.
use Rattle.std.specs.Prelude.{◌≡◌, ◌≢◌, ◌<◌, ◌+◌, ℕ, List, [], ◌∷◌, map, length, ⊤}
use Rattle.std.specs.List.{AllByRecursion}
use Rattle.waiters.specs.declared.wait.Wait.{Wait}
use Rattle.waiters.specs.Lists.{Lists, waits_at}
use Rattle.sema_root.specs.Entries.{AreRising}
use Rattle.sema_root.specs.Queues.{total}

-- the counters with the waits that stand in their lists
abbrev pub queues_in : Lists → List (ℕ × ℕ) → List (ℕ × List Wait)
queues_in lists = map (λ entry. (entry.0, waits_at lists entry.1))

-- no two counters have one list
abbrev pub AreApart : List (ℕ × ℕ) → Type 0
AreApart [] = ⊤
AreApart (entry ∷ rest) = AllByRecursion (λ other. other.1 ≢ entry.1) rest × AreApart rest

-- each counter has a list of its own with somebody in it, and what is free is what the seats don't use
pub record AreJoined (lists : Lists) (entries : List (ℕ × ℕ)) (seats : ℕ) : Type 0 where
  pub rising : AreRising entries
  pub apart : AreApart entries
  pub waited : AllByRecursion (λ entry. 0 < length (waits_at lists entry.1)) entries
  pub room : lists.room + total (queues_in lists entries) ≡ seats
  pub list_room : lists.list_room + length entries ≡ seats
