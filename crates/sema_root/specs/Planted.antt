-- What a contract sees of a `Treap`: its tree, with the ticket and the list key of each counter, and its
-- room.
use Rattle.std.specs.Prelude.{◌≡◌, ◌≢◌, ℕ, ◌+◌, [], Some, None, true, false, length, refl}
use Rattle.std.specs.Coded.{Coded, code_by, coded×, coded_ℕ}
use Rattle.waiters.specs.Lists.{Lists, list_at, waits_at, Changes}
use Rattle.sema_root.specs.declared.listed.Listed.{Listed}
use Rattle.sema_root.specs.Tree.{Tree}
use Rattle.sema_root.specs.TreeCode.{tree_code}
use Rattle.sema_root.specs.Reshaping.{grafted, pruned}

-- the tree, and how many more nodes fit
pub record Planted : Type 0 where
  pub tree : Tree ℕ
  pub room : ℕ

-- a treap is stored as the pair of its fields
abbrev pub planted_code : Coded Planted
planted_code =
    code_by (Tree ℕ × ℕ) (coded× (tree_code coded_ℕ) coded_ℕ)
    (λ t. (t.tree, t.room)) (λ p. record { tree = p.0; room = p.1 }) (λ _. refl)

-- an empty list was opened under this key
pub record Opens (old new : Lists) (key : ℕ) : Type 0 where
  pub was_closed : list_at old key ≡ None
  pub opened : Changes old new key (Some [])
  pub room : new.room ≡ old.room
  pub list_room : new.list_room + 1 ≡ old.list_room

-- the counter got a node with this ticket, and a list, which was opened
pub record Enters (old new : Planted) (counter ticket : ℕ) (old_lists new_lists : Lists) (listed : Listed)
    : Type 0 where
  pub is_new : listed.is_new ≡ true
  pub tree : new.tree ≡ grafted (record { counter = counter; ticket = ticket; value = listed.list }) old.tree
  pub room : new.room + 1 ≡ old.room
  pub opens : Opens old_lists new_lists listed.list

-- the counter had this list, and nothing changed
pub record IsFound (old new : Planted) (old_lists new_lists : Lists) (listed : Listed) (key : ℕ)
    : Type 0 where
  pub is_old : listed.is_new ≡ false
  pub list : listed.list ≡ key
  pub same : new ≡ old
  pub same_lists : new_lists ≡ old_lists

-- the counter went
pub record Prunes (old new : Planted) (counter : ℕ) : Type 0 where
  pub tree : new.tree ≡ pruned counter old.tree
  pub room : new.room ≡ old.room + 1

-- the counter went if only one wait was left in this list, else nothing changed
pub record Leaves (old new : Planted) (counter : ℕ) (lists : Lists) (key : ℕ) : Type 0 where
  pub last : length (waits_at lists key) ≡ 1 → Prunes old new counter
  pub others : length (waits_at lists key) ≢ 1 → new ≡ old
