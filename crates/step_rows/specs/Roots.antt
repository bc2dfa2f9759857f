-- The lists of waits by counter, as the roots hold them.
use Rattle.std.specs.Prelude.{◌≡◌, ℕ, ◌<◌, List, [], length, map, slice_index_or}
use Rattle.std.specs.List.{range_with_len}
use Rattle.waiters.specs.declared.wait.WaitId.{WaitId}
use Rattle.sema_root.specs.Queues.{waits_on}
use Rattle.sema_root.specs.Queues as held
use Rattle.sema_root.specs.Tree.{leaf}
use Rattle.sema_root.specs.Treap.{Treap, queues_of}
use Rattle.step_table.specs.Counting.{total}

-- the list of each counter, and how many waits fit into each root
pub record Queues : Type 0 where
  pub lists : List (List WaitId)
  pub seats : ℕ

-- how many waits are in lists
abbrev pub queued : List (List WaitId) → ℕ
queued lists = total (length lists) (λ c. length (slice_index_or lists c []))

abbrev pub no_root : Treap
no_root = record { tree = leaf; tickets = record { next = 0; generator = [] }; seats = 0 }

abbrev pub root_at : List Treap → ℕ → Treap
root_at roots r = slice_index_or roots r no_root

-- who waits on the counter in this root, first to last
abbrev pub ids_in : Treap → ℕ → List WaitId
ids_in root c = map (λ wait. wait.id) (waits_on (queues_of root.tree) c)

-- who waits on the counter in its own root, whose place is this
abbrev pub ids_at : (ℕ → ℕ) → List Treap → ℕ → List WaitId
ids_at place roots c = ids_in (root_at roots (place c)) c

abbrev pub lists_in : (ℕ → ℕ) → List Treap → ℕ → List (List WaitId)
lists_in place roots counters = map (ids_at place roots) (range_with_len 0 counters)

abbrev pub held_in : Treap → ℕ
held_in root = held.total (queues_of root.tree)

-- the root of each counter is there; each has room for so many waits, and holds none but those of the lists
pub record AreRoots (place : ℕ → ℕ) (roots : List Treap) (counters seats : ℕ) : Type 0 where
  pub placed : (c : ℕ) → c < counters → place c < length roots
  pub seats_in : (r : ℕ) → r < length roots → (root_at roots r).seats ≡ seats
  pub counted : total counters (λ c. length (ids_at place roots c))
      ≡ total (length roots) (λ r. held_in (root_at roots r))

-- so many roots, with nobody in them
pub record AreEmpty (roots : List Treap) (number seats : ℕ) : Type 0 where
  pub length_is : length roots ≡ number
  pub empty : (r : ℕ) → r < number → (root_at roots r).tree ≡ leaf
  pub seats_in : (r : ℕ) → r < number → (root_at roots r).seats ≡ seats
