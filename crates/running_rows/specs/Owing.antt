-- What a family owes for a step, so that the rule is kept.
use Rattle.std.specs.Prelude.{◌≡◌, ◌≢◌, ℕ, ◌<◌, ◌^◌, List, slice_index, slice_set}
use mathlib.Core.Option.{Option}
use Rattle.atomic_table.specs.Table.{Me, Act, Valid, homes_after, carried_after}
use Rattle.step_table.specs.Path.{looks}
use Rattle.running_rows.specs.declared.view.View.{View}
use Rattle.running_rows.specs.declared.view.Seated.{Seated}
use Rattle.running_rows.specs.Family.{Family}
use Rattle.running_rows.specs.Futex.{Futex, lock_at, grant_at}
use Rattle.running_rows.specs.History.{TellsOn}
use Rattle.running_rows.specs.Strides.{Went, becomes, here}

module _ {S V T K : Type 0} (f : Family S V T K) (k : f.Key) where
  -- what is known where a seat steps: words and records show a world that it may meet
  pub record Stands (u : Seated V T) (world : f.World) (words : List ℕ) (homes : List (Option S)) (i : ℕ)
      : Type 0 where
    pub shows : f.Shows k world words homes
    pub of_is : f.of u.knows ≡ k
    pub there : u.number < f.seats k
    pub knows : f.Knows k u world
    pub below : slice_index words i < 2 ^ 64

  -- the step leads to a world that words and records show then, and that the seat may meet, as all others may
  -- that could meet the one before. It is one stride at most, which tells how the journal goes on. What the
  -- step tells holds
  pub record Leads (m : Me S (View V T)) (world : f.World) (words : List ℕ) (homes : List (Option S))
      (i x : ℕ) (then : Me S (View V T) → Type 0) : Type 0 where
    pub next : f.World
    pub own : Seated V T
    pub act : Act S
    pub valid : Valid homes m.1 act
    pub shows : f.Shows k next (slice_set words i x) (homes_after homes m.1 act)
    pub same : own.number ≡ m.0.own.number
    pub of_is : f.of own.knows ≡ k
    pub knows : f.Knows k own next
    pub on : TellsOn f k world next m.0.own own
    pub others : (u : Seated V T) → u.number ≢ own.number → u.number < f.seats k → f.Knows k u world
        → f.Knows k u next
    pub tells : then (becomes f m own (carried_after m.1 act))

  -- wherever the token's seat makes of the number n at the word i the number g n, the step leads on
  abbrev pub Owes : Me S (View V T) → ℕ → (ℕ → ℕ) → (ℕ → Me S (View V T) → Type 0) → Type 0
  Owes m i g then =
      (world : f.World) (words : List ℕ) (homes : List (Option S)) → Stands m.0.own world words homes i
      → Leads m world words homes i (g (slice_index words i)) (then (slice_index words i))

  -- the seat u looked at the word in this world
  pub record Sees (u : Seated V T) (world : f.World) (i n : ℕ) : Type 0 where
    pub now : Seated V T
    pub went : Went f here (looks (f.word_at k i)) u n now
    pub world_is : went.ran.world ≡ world
    pub knows : f.Knows k now world

  -- each seat may look at the word
  abbrev pub IsSeen : ℕ → Type 0
  IsSeen i =
      (world : f.World) (words : List ℕ) (homes : List (Option S)) (u : Seated V T)
      → Stands u world words homes i
      → Sees u world i (slice_index words i)

  -- no thread ever sleeps at the word, and none counts sleepers there
  abbrev pub IsPlain : ℕ → Type 0
  IsPlain i = (x : Futex) → f.IsFutex k x → (x.word ≢ i) × (x.sleepers ≢ i)

  -- the word is a lock, or a grant, at which threads sleep
  abbrev pub IsLock : ℕ → Type 0
  IsLock i = (sleepers : ℕ) × f.IsFutex k (lock_at i sleepers)

  abbrev pub IsGrant : ℕ → Type 0
  IsGrant i = (sleepers : ℕ) × f.IsFutex k (grant_at i sleepers)

  -- the world knows nothing of the word
  abbrev pub IsAside : ℕ → Type 0
  IsAside i =
      (world : f.World) (words : List ℕ) (homes : List (Option S)) (x : ℕ) → f.Shows k world words homes
      → f.Shows k world (slice_set words i x) homes
