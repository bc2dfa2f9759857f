-- Who may change which word of a notify list: only the holder of the lock changes what it guards, and a grant
-- word is raised by another seat and lowered by its own.
use Rattle.std.specs.Prelude.{◌≡◌, ◌≢◌, ◌⊎◌, ℕ, ◌<◌, [], ◌∷◌, ◌++◌}
use Rattle.step_table.specs.declared.list_place.ListWord.TheVariants.{Lock, Grant}
use Rattle.step_table.specs.Wrapping.{word_of, next_word}
use Rattle.step_table.specs.EventOf.{store, take_lock, give_lock, take_grant}
use Rattle.step_table.specs.ListWorld.{ListWords, Took, Granted, Forgone, ListWorld}
use Rattle.step_table.specs.ListEvent.{ListNext, ListEvent}
use Rattle.step_table.specs.ListSteps.{event_of}
use Rattle.step_law_lists.specs.ListLawful.{told, counted, holds, IsInReach}

-- the event gives the lock back
abbrev pub GivesLock : ListEvent → Type 0
GivesLock event = (next : ListNext) × (event ≡ give_lock Lock next)

-- the event takes the lock
abbrev pub TakesLock : ListEvent → Type 0
TakesLock event = (next : ListNext) × (event ≡ take_lock Lock next)

-- the event takes the grant of the seat k
abbrev pub TakesGrant : ListEvent → ℕ → Type 0
TakesGrant event k = (leads : ℕ → ListNext) × (event ≡ take_grant (Grant k) leads)

-- the event stores x in the grant word of the seat k
abbrev pub StoresGrant : ListEvent → ℕ → ℕ → Type 0
StoresGrant event k x = (next : ListNext) × (event ≡ store (Grant k) x next)

-- the lock word is 1, and no other seat holds the lock
pub record HoldsAlone (seats i : ℕ) (s : ListWorld) : Type 0 where
  pub lock : s.words.lock ≡ 1
  pub alone : (k : ℕ) → k < seats → k ≢ i → holds (s.seats k).place ≡ 0

-- a seat that holds the lock is alone, and a seat that is about to give it back holds it
abbrev pub HolderAlone : ℕ → ListWorld → Type 0
HolderAlone seats s =
    (i : ℕ) → i < seats
    → (holds (s.seats i).place ≡ 1 → HoldsAlone seats i s)
    × (GivesLock (event_of s i) → holds (s.seats i).place ≡ 1)

-- from g to h the list, the notify word, the number passed and the gone tickets stay, and the lock stays or, where
-- it was free, is taken
pub record LeavesGuarded (g h : ListWords) : Type 0 where
  pub queue : h.queue ≡ g.queue
  pub notify : h.notify ≡ g.notify
  pub passed : h.numbers.passed ≡ g.numbers.passed
  pub gone : h.gone ≡ g.gone
  pub lock : (h.lock ≡ g.lock) ⊎ ((g.lock ≡ 0) × (h.lock ≡ 1))

-- only the holder of the lock changes what it guards
abbrev pub OnlyHolders : ℕ → ListWorld → ListWorld → Type 0
OnlyHolders i s t = holds (s.seats i).place ≡ 0 → LeavesGuarded s.words t.words

-- a lock word stays, or goes from 0 to 1 by taking the lock, or back to 0 by giving it
abbrev pub LockChanges : ListEvent → ℕ → ℕ → Type 0
LockChanges event before after =
    (after ≡ before)
    ⊎ ((TakesLock event × (before ≡ 0) × (after ≡ 1)) ⊎ (GivesLock event × (before ≡ 1) × (after ≡ 0)))

-- the grant word of the seat k stays, or goes from 0 to 1 by a store of another seat, or back to 0 where seat
-- i takes its own
abbrev pub GrantChanges : ℕ → ListEvent → ℕ → ℕ → ℕ → Type 0
GrantChanges i event k before after =
    (after ≡ before)
    ⊎ ((TakesGrant event k × (k ≡ i) × (0 < before) × (after ≡ 0))
    ⊎ (StoresGrant event k 1 × (k ≢ i) × (before ≡ 0) × (after ≡ 1)))

-- how a step of seat i may change the words: the wait word by a ticket that it tells, the notify word to that
-- of the number that is passed by the grant which it tells, or by its leave, where the journal is in reach, and the
-- lock and grants by its event
pub record ChangesWords (first i : ℕ) (s t : ListWorld) : Type 0 where
  pub wait : (t.words.wait ≡ s.words.wait)
      ⊎ ((t.words.wait ≡ next_word s.words.wait) × (t.journal ≡ s.journal ++ Took i ∷ []))
  pub notify : IsInReach t.journal
      → (t.words.notify ≡ s.words.notify)
      ⊎ (((upto : ℕ) × (t.words.notify ≡ word_of first (counted (Granted upto i) (told s.journal)).passed)
      × (t.journal ≡ s.journal ++ Granted upto i ∷ []))
      ⊎ ((n : ℕ) × (t.words.notify ≡ word_of first (counted (Forgone n i) (told s.journal)).passed)
      × (t.journal ≡ s.journal ++ Forgone n i ∷ [])))
  pub lock : LockChanges (event_of s i) s.words.lock t.words.lock
  pub grants : (k : ℕ) → GrantChanges i (event_of s i) k (s.words.grants k) (t.words.grants k)
