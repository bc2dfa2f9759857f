-- How a `TreapRoot` keeps its queues: each node of the treap names a list of `Lists`. No public clause cites
-- this.
use Rattle.std.specs.Prelude.{◌≡◌, ◌+◌, ℕ, List, map}
use Rattle.waiters.specs.Lists.{Lists, waits_at}
use Rattle.sema_root.specs.Joined.{AreJoined}
use Rattle.sema_root.specs.Planted.{Planted, Opens}
use Rattle.sema_root.specs.Reshaping.{grafted}
use Rattle.sema_root.specs.Treap.{Tickets, Treap, drawn_from}
use Rattle.sema_root.specs.Tree.{Tree, entries, size, mapped, IsTreap}

-- each counter with its list
abbrev pub listed : Tree ℕ → List (ℕ × ℕ)
listed tree = map (λ entry. (entry.0, entry.1.1)) (entries tree)

-- each counter with the waits of its list
abbrev pub shown : Lists → Tree ℕ → Tickets → ℕ → Treap
shown lists tree tickets seats = record {
  tree = mapped (waits_at lists) tree;
  tickets = tickets;
  seats = seats;
}

-- the nodes and the lists stand together, and there is a node for each seat
pub record IsRooted (planted : Planted) (lists : Lists) (seats : ℕ) : Type 0 where
  pub joined : AreJoined lists (listed planted.tree) seats
  pub treap : IsTreap planted.tree
  pub room : planted.room + size planted.tree ≡ seats

-- a counter came in, with the next ticket and an empty list
pub record Comes (old new : Planted) (old_tickets new_tickets : Tickets) (old_lists new_lists : Lists)
    (counter key : ℕ) : Type 0 where
  pub tree : new.tree ≡ grafted
      (record { counter = counter; ticket = old_tickets.next; value = key }) old.tree
  pub room : new.room + 1 ≡ old.room
  pub tickets : new_tickets ≡ drawn_from old_tickets.generator
  pub opens : Opens old_lists new_lists key

-- a counter that is in has this list, and nothing changed
pub record IsIn (old new : Planted) (old_tickets new_tickets : Tickets) (old_lists new_lists : Lists)
    (found key : ℕ) : Type 0 where
  pub list : key ≡ found
  pub same : new ≡ old
  pub same_tickets : new_tickets ≡ old_tickets
  pub same_lists : new_lists ≡ old_lists
