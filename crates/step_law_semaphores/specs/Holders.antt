-- Who may change which word: what a seat's next event may do, and what one step changes.
use Rattle.std.specs.Prelude.{◌≡◌, ◌≢◌, ◌⊎◌, ℕ, ◌+◌, ◌<◌, ◌≤◌, List, ◌∷◌}
use Rattle.waiters.specs.declared.wait.WaitId.{WaitId}
use Rattle.step_table.specs.declared.word.Word.TheVariants.{Lock, Waiters, Grant}
use Rattle.step_table.specs.World.{Layout, Words, SemaWorld}
use Rattle.step_table.specs.EventOf.{store, raise, lower, take_lock, give_lock, take_grant}
use Rattle.step_table.specs.Event.{Event, Next}
use Rattle.step_table.specs.Steps.{event_of}
use Rattle.step_law_semaphores.specs.Lawful.{holds, waits_of, IsParked}
use Rattle.step_table.specs.Counting.{wait, counter_at}

-- the event is this one, on a counter of the root r
abbrev pub IsOnRoot : (ℕ → ℕ) → ℕ → (ℕ → Next → Event) → Event → Type 0
IsOnRoot root r event e = (c : ℕ) × (next : Next) × (root c ≡ r) × (e ≡ event c next)

-- the event raises the waiter word of the root r by one
abbrev pub IsRaising : (ℕ → ℕ) → ℕ → Event → Type 0
IsRaising root r e = IsOnRoot root r (λ c. raise (Waiters c) 1) e

-- the event lowers the waiter word of the root r by one
abbrev pub IsLowering : (ℕ → ℕ) → ℕ → Event → Type 0
IsLowering root r e = IsOnRoot root r (λ c. lower (Waiters c) 1) e

-- the event takes the lock of the root r
abbrev pub IsLocking : (ℕ → ℕ) → ℕ → Event → Type 0
IsLocking root r e = IsOnRoot root r (λ c. take_lock (Lock c)) e

-- the event gives the lock of the root r back
abbrev pub IsGiving : (ℕ → ℕ) → ℕ → Event → Type 0
IsGiving root r e = IsOnRoot root r (λ c. give_lock (Lock c)) e

-- the event stores the grant n at the seat k
abbrev pub IsGranting : ℕ → ℕ → Event → Type 0
IsGranting k n e = (next : Next) × (e ≡ store (Grant k) n next)

-- the event takes the grant of the seat k
abbrev pub IsReceiving : ℕ → Event → Type 0
IsReceiving k e = (leads : ℕ → Next) × (e ≡ take_grant (Grant k) leads)

-- a seat that is about to lower a waiter word finds it above 0
abbrev pub LowersSome : Layout → SemaWorld → Type 0
LowersSome m s = (i r : ℕ) → i < m.seats → IsLowering m.root r (event_of s i) → 0 < s.words.waiters r

-- a seat that is about to give a lock back holds it, and the lock word is 1
abbrev pub GivesHeld : Layout → SemaWorld → Type 0
GivesHeld m s =
    (i r : ℕ) → i < m.seats → IsGiving m.root r (event_of s i)
    → (holds m.root r (s.seats i).place ≡ 1) × (s.words.locks r ≡ 1)

-- while a seat holds a lock, the lock word is 1 and no other seat holds that lock
abbrev pub HolderAlone : Layout → SemaWorld → Type 0
HolderAlone m s =
    (i r : ℕ) → i < m.seats → holds m.root r (s.seats i).place ≡ 1
    → (s.words.locks r ≡ 1) × ((k : ℕ) → k < m.seats → k ≢ i → holds m.root r (s.seats k).place ≡ 0)

-- from g to h the lists and the waiter word of the root r stay, and its lock stays or is taken
pub record LeavesRoot (m : Layout) (g h : Words) (r : ℕ) : Type 0 where
  pub lists : (c : ℕ) → m.root c ≡ r → h.lists c ≡ g.lists c
  pub waiters : h.waiters r ≡ g.waiters r
  pub lock : (h.locks r ≡ g.locks r) ⊎ ((g.locks r ≡ 0) × (h.locks r ≡ 1))

-- a step of seat i leaves each root whose lock the seat doesn't hold
abbrev pub LeavesOthers : Layout → ℕ → SemaWorld → SemaWorld → Type 0
LeavesOthers m i s t = (r : ℕ) → holds m.root r (s.seats i).place ≡ 0 → LeavesRoot m s.words t.words r

-- the grant n that seat i stores at the seat k is 1 or 2; k is another seat, that is there, parked on the
-- counter of i's call with the first wait in i's hand, and its grant word is 0
pub record GrantsParked (m : Layout) (s : SemaWorld) (i k n : ℕ) : Type 0 where
  pub turn : ℕ
  pub rest : List WaitId
  pub hand : (s.seats i).hand ≡ wait k turn ∷ rest
  pub parked : IsParked s k (counter_at (s.seats i).place) turn
  pub other : k ≢ i
  pub there : k < m.seats
  pub unset : s.words.grants k ≡ 0
  pub stored : (n ≡ 1) ⊎ (n ≡ 2)

-- each grant that a seat is about to store is such a grant
abbrev pub AllGrantParked : Layout → SemaWorld → Type 0
AllGrantParked m s = (i k n : ℕ) → i < m.seats → IsGranting k n (event_of s i) → GrantsParked m s i k n

-- a waiter word is the number of its root's waits, or one more, whoever holds the lock
abbrev pub WaitersNear : Layout → SemaWorld → Type 0
WaitersNear m s =
    (r : ℕ) → (waits_of m r s.words ≤ s.words.waiters r) × (s.words.waiters r ≤ waits_of m r s.words + 1)

-- a waiter word is raised or lowered by one
abbrev pub ChangesWaiters : (ℕ → ℕ) → Event → Words → Words → ℕ → Type 0
ChangesWaiters root e g h r =
    (h.waiters r ≡ g.waiters r)
    ⊎ ((IsRaising root r e × (h.waiters r ≡ g.waiters r + 1))
    ⊎ (IsLowering root r e × (h.waiters r + 1 ≡ g.waiters r)))

-- a lock that is free is taken, or one that is held given back
abbrev pub ChangesLock : (ℕ → ℕ) → Event → Words → Words → ℕ → Type 0
ChangesLock root e g h r =
    (h.locks r ≡ g.locks r)
    ⊎ ((IsLocking root r e × (g.locks r ≡ 0) × (h.locks r ≡ 1))
    ⊎ (IsGiving root r e × (g.locks r ≡ 1) × (h.locks r ≡ 0)))

-- seat i takes its own grant, or grants another seat that has none
abbrev pub ChangesGrant : ℕ → Event → Words → Words → ℕ → Type 0
ChangesGrant i e g h k =
    (h.grants k ≡ g.grants k)
    ⊎ ((IsReceiving k e × (k ≡ i) × (0 < g.grants k) × (h.grants k ≡ 0))
    ⊎ (IsGranting k (h.grants k) e × (k ≢ i) × (g.grants k ≡ 0) × (0 < h.grants k)))

-- by a step of seat i each word stays, or changes so by the event of its row
pub record ChangesWords (m : Layout) (i : ℕ) (s t : SemaWorld) : Type 0 where
  pub waiters : (r : ℕ) → ChangesWaiters m.root (event_of s i) s.words t.words r
  pub locks : (r : ℕ) → ChangesLock m.root (event_of s i) s.words t.words r
  pub grants : (k : ℕ) → ChangesGrant i (event_of s i) s.words t.words k
