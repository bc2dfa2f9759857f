-- Paths of a seat of semaphores, and what their strides tell by what was read and seen.
use Rattle.std.specs.Prelude.{◌≡◌, ◌≢◌, ℕ, ◌<◌, Bool, false, eqb, IsTrue, List, [], ◌∷◌}
use Rattle.step_table.specs.declared.effect.Effect.{Effect}
use Rattle.step_table.specs.declared.effect.Effect.TheVariants.{Tells}
use Rattle.step_table.specs.declared.entry.Entry.{Entry}
use Rattle.step_table.specs.declared.entry.Entry.TheVariants.{Add, AddMany, Queue, Leave, Withdraw}
use Rattle.step_table.specs.declared.place.Place.{Place}
use Rattle.step_table.specs.declared.word.Word.{Word}
use Rattle.step_table.specs.declared.word.Word.TheVariants.{Counter}
use Rattle.step_table.specs.World.{Layout, SemaWorld, SeatState, seat_after}
use Rattle.step_table.specs.Event.{Event, Next}
use Rattle.step_table.specs.Table.{table}
use Rattle.step_table.specs.Journal.{Plain, plain_start, replay, IsLawful}
use Rattle.step_table.specs.Steps.{rules, event_of, finds, can_turn, turned, moved, Choice, Step, IsReached}
use Rattle.step_table.specs.Path.{Watched, Sight, Deed, runs, looks, Stride, OnlyLooked, sight, Meets, Ran}
use Rattle.step_table.specs.Path.{Path, row_in, ArePaths}

abbrev pub SemaSight : Type 0
SemaSight = Sight SeatState Entry

abbrev pub SemaStride : Type 0
SemaStride = Stride Word ℕ SeatState Entry

-- whether seat i alone can tell the entry: a unit may also be taken for it by the seat that releases it
abbrev pub is_own : ℕ → Entry → Bool
is_own i (Add c s) = eqb s i
is_own i (AddMany c n s) = eqb s i
is_own i (Queue c w lifo) = eqb w.seat i
is_own i (Leave c w s) = eqb s i
is_own i (Withdraw c w) = eqb w.seat i
is_own i _ = false

-- semaphores, in reached worlds
abbrev pub semaphores : Layout → Watched SemaWorld Word ℕ Next SeatState Entry
semaphores m =
    record {
      rules = rules m.root;
      seat = λ s. s.seats;
      journal = λ s. s.journal;
      met = IsReached m;
      own = is_own;
    }

abbrev pub SemaRan : Layout → ℕ → SemaSight → SemaStride → SemaSight → Type 0
SemaRan m = Ran (semaphores m)

abbrev pub SemaPath : Layout → ℕ → SemaSight → List SemaStride → SemaSight → Type 0
SemaPath m = Path (semaphores m)

-- the sight of a seat that has come to another place by its caller's choice: a call's path begins there
abbrev pub placed : Place → SemaSight → SemaSight
placed place v = record v { stands = record v.stands { place = place } }

-- the counters' numbers and lists as the journal told them before the stride
abbrev pub plain_before : Layout → SemaStride → Plain
plain_before m p = replay (plain_start m.starts) p.seen

-- the event of the row at which seat i stood before the stride
abbrev pub row_event : Layout → ℕ → SemaStride → Event
row_event m i p = table i p.stood (plain_before m p).lists

-- what followed it
abbrev pub row_next : Layout → ℕ → SemaStride → Next
row_next m i p = (row_event m i p).leads p.read

-- the word of a row that ran, or the one looked at
abbrev pub word_of_deed : Layout → ℕ → SemaStride → Deed Word → Word
word_of_deed m i p runs = (row_event m i p).word
word_of_deed m i p (looks w) = w

abbrev pub word_of_stride : Layout → ℕ → SemaStride → Word
word_of_stride m i p = word_of_deed m i p p.deed

-- the entries of an effect: one or none
abbrev pub entries_of : Effect → List Entry
entries_of (Tells e) = e ∷ []
entries_of _ = []

-- the stride ran a row: it could by what it read, told what the row tells, and led where the row leads
pub record RanSemaRow (m : Layout) (i : ℕ) (p : SemaStride) (to : SemaSight) : Type 0 where
  pub can : IsTrue ((row_event m i p).can p.read)
  pub told : p.told ≡ entries_of (row_next m i p).1
  pub leads : to.stands ≡ seat_after (row_next m i p).1 (row_next m i p).0 p.stood

-- what the stride did
abbrev pub SemaDid : Layout → ℕ → SemaStride → SemaSight → Deed Word → Type 0
SemaDid m i p to runs = RanSemaRow m i p to
SemaDid m i p to (looks w) = OnlyLooked p to

-- the row of seat i in this world, as a stride
abbrev pub row_stride : Layout → SemaWorld → ℕ → SemaStride
row_stride m s i = row_in (semaphores m) s i (entries_of ((event_of s i).leads (finds m.root s i)).1)

-- a seat may begin by its caller's choice, and run the row at which it stands; and whatever another seat
-- does, it may go on. A stride read of a counter the number that the journal told before it, and did what its
-- row does, or nothing; what it had seen is lawful, and of a seat that is there it ends as the seat sees a
-- reached world
pub record TheSemaPaths : Type 0 where
  pub paths : (m : Layout) → ArePaths (semaphores m)
  pub begins : (m : Layout) (s : SemaWorld) (i : ℕ) (v : SemaSight) (place : Place) → i < m.seats
      → Meets (semaphores m) s i v
      → Choice m.counters v.stands.place place → Meets (semaphores m) (moved s i place) i (placed place v)
  pub rows : (m : Layout) (s : SemaWorld) (i : ℕ) (v : SemaSight) → Meets (semaphores m) s i v
      → IsTrue (can_turn m.root s i)
      → SemaRan m i v (row_stride m s i) (sight (semaphores m) (turned m.root s i) i)
  pub others : (m : Layout) (s t : SemaWorld) (i j : ℕ) (v : SemaSight) → i < m.seats → j ≢ i → Step m s i t
      → Meets (semaphores m) s j v → Meets (semaphores m) t j v
  pub reads : (m : Layout) (i c : ℕ) (v w : SemaSight) (p : SemaStride) → SemaRan m i v p w
      → word_of_stride m i p ≡ Counter c → p.read ≡ (plain_before m p).numbers c
  pub does : (m : Layout) (i : ℕ) (v w : SemaSight) (p : SemaStride) → SemaRan m i v p w
      → SemaDid m i p w p.deed
  pub lawful : (m : Layout) (i : ℕ) (v w : SemaSight) (p : SemaStride) → SemaRan m i v p w
      → IsLawful (plain_start m.starts) p.seen
  pub ends : (m : Layout) (i : ℕ) (v w : SemaSight) (p : SemaStride) → i < m.seats → SemaRan m i v p w
      → (t : SemaWorld) × IsReached m t × (w ≡ sight (semaphores m) t i)
