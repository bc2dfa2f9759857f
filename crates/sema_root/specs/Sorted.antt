-- How a `SortedRoot` keeps its queues: the entries of the vector, in rising order, name lists of `Lists`.
use Rattle.std.specs.Prelude.{◌≤◌, vec_capacity}
use Rattle.sema_root.specs.declared.sorted_root.SortedRoot.TheInside.{Inside}
use Rattle.sema_root.specs.Root.{Root}
use Rattle.sema_root.specs.Joined.{queues_in, AreJoined}
use Rattle.sema_root.specs.Search.{pairs}

-- the waits of each entry's list
abbrev pub root_of : Inside → Root
root_of root = record {
  queues = queues_in root.lists (pairs root.entries.items);
  seats = root.seats;
}

-- the entries and the lists stand together, and no insertion takes memory
pub record IsSound (root : Inside) : Type 0 where
  pub joined : AreJoined root.lists (pairs root.entries.items) root.seats
  pub capacity : root.seats ≤ vec_capacity root.entries
