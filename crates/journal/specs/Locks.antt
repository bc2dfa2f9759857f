-- When a counter of a journal is a lock: between what a seat takes and what is added next no other seat adds
-- or takes.
use Rattle.std.specs.Prelude.{◌≡◌, ◌≢◌, ℕ, ◌+◌, ◌<◌, ◌==◌, cond, nat_lt, List, [], ◌∷◌, ◌++◌, length}
use Rattle.std.specs.Prelude.{slice_index, Option, Some, None}
use Rattle.step_table.specs.declared.entry.Entry.{Entry}
use Rattle.step_table.specs.declared.entry.Entry.TheVariants.{Add, AddMany, Take}
use Rattle.journal.specs.declared.journal.Journal.{Journal}
use Rattle.journal.specs.declared.lock.Breach.{Breach}
use Rattle.journal.specs.declared.lock.LockUse.{LockUse}
use Rattle.journal.specs.declared.lock.LockUse.TheVariants.{Adds, Takes}
use Rattle.journal.specs.declared.lock_rule.LockRule.{LockRule}
use Rattle.journal.specs.declared.lock_rule.LockRule.TheVariants.{NotHeld, HeldByAnother}
use Rattle.journal.specs.LawfulJournal.{entries_of}

-- what the entry does to the lock, if anything
abbrev pub use_of : ℕ → Entry → Option LockUse
use_of lock (Add c s) = cond (c == lock) (Some (Adds s)) None
use_of lock (AddMany c n s) = cond (c == lock) (Some (Adds s)) None
use_of lock (Take c s) = cond (c == lock) (Some (Takes s)) None
use_of lock entry = None

-- the seat that does it
abbrev pub user_of : LockUse → ℕ
user_of (Adds s) = s
user_of (Takes s) = s

-- who holds the lock after that, by who held it before
abbrev pub holder_after : Option ℕ → Option LockUse → Option ℕ
holder_after holder None = holder
holder_after holder (Some (Adds s)) = None
holder_after holder (Some (Takes s)) = Some s

abbrev pub holder_from : ℕ → Option ℕ → List Entry → Option ℕ
holder_from lock holder [] = holder
holder_from lock holder (entry ∷ entries) = holder_from lock (holder_after holder (use_of lock entry)) entries

-- who holds the lock behind these entries: the seat that took last, if nothing was added since
abbrev pub holder_of : ℕ → List Entry → Option ℕ
holder_of lock entries = holder_from lock None entries

-- a unit is added, and nobody holds the lock; or another seat than its holder adds a unit, or takes one
abbrev pub BreaksUse : LockRule → Option ℕ → Option LockUse → Type 0
BreaksUse NotHeld None (Some (Adds s)) = Unit {0}
BreaksUse HeldByAnother (Some holder) (Some used) = holder ≢ user_of used
BreaksUse rule holder used = ⊥

-- the entry breaks the rule of the lock behind those before it
abbrev pub BreaksLock : LockRule → ℕ → List Entry → Entry → Type 0
BreaksLock rule lock before entry = BreaksUse rule (holder_of lock before) (use_of lock entry)

-- no entry breaks a rule of the lock
abbrev pub KeepsLock : ℕ → List Entry → Type 0
KeepsLock lock entries =
    (before after : List Entry) (entry : Entry) → entries ≡ before ++ (entry ∷ after)
    → (rule : LockRule) → BreaksLock rule lock before entry → ⊥

-- the journal's entry at this line is the first that breaks a rule of the lock, and breaks this one
pub record IsBreachAt (j : Journal) (lock line : ℕ) (rule : LockRule) : Type 0 where
  pub before : List Entry
  pub entry : Entry
  pub after : List Entry
  pub whole : entries_of j.entries ≡ before ++ (entry ∷ after)
  pub place : line ≡ j.heads + length before + 1
  pub kept : KeepsLock lock before
  pub breaks : BreaksLock rule lock before entry

-- what is told of what is done to a lock that is held so
abbrev pub IsToldOfUse : Option ℕ → Option LockUse → Option LockRule → Type 0
IsToldOfUse holder used None = (rule : LockRule) → BreaksUse rule holder used → ⊥
IsToldOfUse holder used (Some rule) = BreaksUse rule holder used

-- what is told of a lock
abbrev pub IsLockVerdict : Journal → ℕ → Option Breach → Type 0
IsLockVerdict j lock None = KeepsLock lock (entries_of j.entries)
IsLockVerdict j lock (Some breach) = IsBreachAt j lock breach.line breach.rule

-- no line before this one is the first to break a rule of the lock
abbrev pub IsKeptBefore : Journal → ℕ → ℕ → Type 0
IsKeptBefore j lock line = (at : ℕ) (rule : LockRule) → at < line → IsBreachAt j lock at rule → ⊥

-- what is told of the first so many of these locks: each is kept; or one is broken at this line, and none
-- before it
abbrev pub IsFirstOf : Journal → List ℕ → ℕ → Option Breach → Type 0
IsFirstOf j locks count None = (k : ℕ) → k < count → KeepsLock (slice_index locks k) (entries_of j.entries)
IsFirstOf j locks count (Some breach) =
    ((k : ℕ) × (k < count) × IsBreachAt j (slice_index locks k) breach.line breach.rule)
    × ((k : ℕ) → k < count → IsKeptBefore j (slice_index locks k) breach.line)

-- the breach of the lesser line; of one line the first
abbrev pub earlier : Option Breach → Option Breach → Option Breach
earlier None other = other
earlier (Some one) None = Some one
earlier (Some one) (Some breach) = cond (nat_lt breach.line one.line) (Some breach) (Some one)
