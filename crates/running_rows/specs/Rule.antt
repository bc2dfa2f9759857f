-- The rule: words and records show a world of the family, and each view is that of its seats.
use Rattle.std.specs.Prelude.{◌≡◌, ◌≢◌, ◌⊎◌, ℕ, ◌+◌, ◌<◌, ◌≤◌, List, [], ◌∷◌, length, slice_index, slice_set}
use mathlib.Core.Option.{Option, some}
use lib.ListN.{get_elem?}
use Rattle.atomic_table.specs.Table.{State}
use Rattle.running_rows.specs.declared.view.View.{View}
use Rattle.running_rows.specs.declared.view.Seated.{Seated}
use Rattle.running_rows.specs.declared.parking.Parking.{Parking}
use Rattle.running_rows.specs.Futex.{Futex, ShareNoWord, IsServedYet, IsLeft, IsCalledSince, fresh_parking, sum, overflowed}
use Rattle.running_rows.specs.Family.{Family}
use Rattle.running_rows.specs.History.{SeatStride, strides_of, Writes, journal_of}

-- what is in a list
abbrev pub In : {A : Type 0} → A → List A → Type 0
In x [] = ⊥
In x (y ∷ ys) = (y ≡ x) ⊎ In x ys

-- no two of them are one seat
abbrev pub AreApart : {V T : Type 0} → List (Seated V T) → Type 0
AreApart [] = Unit {0}
AreApart {V} {T} (g ∷ gs) = ((h : Seated V T) → In h gs → h.number ≢ g.number) × AreApart gs

-- the seat n is one of the view
abbrev pub HasSeat : {V T : Type 0} → ℕ → View V T → Type 0
HasSeat {V} {T} n v = (v.own.number ≡ n) ⊎ ((g : Seated V T) × In g v.guests × (g.number ≡ n))

-- what each thread has to do with sleepers
abbrev pub parkings : {V T : Type 0} → List (View V T) → List Parking
parkings [] = []
parkings (v ∷ vs) = v.parking ∷ parkings vs

-- the seat 0 makes the others, in order
abbrev pub making : {V T : Type 0} → View V T → View V T
making v = record v { made = v.made + 1 }

module _ {S V T K : Type 0} (f : Family S V T K) where
  -- a seat that has run nothing
  abbrev pub fresh_seat : f.Key → ℕ → Seated V T
  fresh_seat k number = record { number = number; knows = f.fresh k; gone = [] }

  abbrev pub first_view : f.Key → View V T
  first_view k = record { own = fresh_seat k 0; guests = []; made = 1; parking = fresh_parking }

  abbrev pub made_by : View V T → View V T
  made_by v = record { own = fresh_seat (f.of v.own.knows) v.made; guests = []; made = 0; parking = fresh_parking }

  -- the view that is left of a token whose seats have gone to another
  abbrev pub nobody : View V T
  nobody = record { own = record { number = 0; knows = f.nobody; gone = [] }; guests = []; made = 0; parking = fresh_parking }

  -- the view of a seat: its words have seats
  abbrev pub IsSomeones : View V T → Type 0
  IsSomeones v = 0 < f.seats (f.of v.own.knows)

  -- the seat n is one of the view at the place j
  abbrev pub IsSeated : List (View V T) → ℕ → ℕ → Type 0
  IsSeated views j n = (v : View V T) × (get_elem? views j ≡ some v) × IsSomeones v × HasSeat n v

  -- this seat was made, of words made so, sits at the place j, and went its strides of the history
  pub record Sits (k : f.Key) (s : f.World) (history : List (SeatStride T)) (spot : ℕ → ℕ)
      (made j : ℕ) (u : Seated V T) : Type 0 where
    pub place_is : spot u.number ≡ j
    pub is_made : u.number < made
    pub of_is : f.of u.knows ≡ k
    pub knows : f.Knows k u s
    pub went : strides_of u.number history ≡ u.gone

  -- so it is, and each guest sits there too; all are different seats
  pub record HasSeats (k : f.Key) (s : f.World) (history : List (SeatStride T)) (spot : ℕ → ℕ)
      (made j : ℕ) (v : View V T) : Type 0 where
    pub own : Sits k s history spot made j v.own
    pub guests : (g : Seated V T) → In g v.guests → Sits k s history spot made j g
    pub others : (g : Seated V T) → In g v.guests → g.number ≢ v.own.number
    pub apart : AreApart v.guests

  -- the rule. Words and records at home show a world, whose journal the strides of all seats told, one after
  -- the other. Each view is that of its seats, no two of one seat. Seats are made one after the other: each
  -- of them sits somewhere, and those that aren't yet have run nothing
  pub record IsKept (k : f.Key) (s : State S (View V T)) : Type 0 where
    pub world : f.World
    pub shows : f.Shows k world s.words s.homes
    pub history : List (SeatStride T)
    pub writes : Writes f [] history (journal_of f k world)
    pub made : ℕ
    pub by_seats : (m : SeatStride T) → In m history → m.seat < made
    pub spot : ℕ → ℕ
    pub views : (j : ℕ) (v : View V T) → get_elem? s.views j ≡ some v → IsSomeones v
        → HasSeats k world history spot made j v
    pub seated : (n : ℕ) → n < made → IsSeated s.views (spot n) n
    pub unmade : (n : ℕ) → made ≤ n → n < f.seats k → f.Knows k (fresh_seat k n) world
    pub maker : (j : ℕ) (v : View V T) → get_elem? s.views j ≡ some v → IsSomeones v → 0 < v.made
        → (v.own.number ≡ 0) × (v.made ≡ made)
    pub fits : made ≤ f.seats k

  -- the words of futexes are there, and apart, and the world knows nothing of a count of sleepers
  pub record AreFutexes (k : f.Key) : Type 0 where
    pub two : (x : Futex) → f.IsFutex k x → x.word ≢ x.sleepers
    pub apart : (x y : Futex) → f.IsFutex k x → f.IsFutex k y → (x ≡ y) ⊎ ShareNoWord x y
    pub there : (x : Futex) (world : f.World) (words : List ℕ) (homes : List (Option S)) → f.IsFutex k x
        → f.Shows k world words homes → (x.word < length words) × (x.sleepers < length words)
    pub unseen : (x : Futex) (world : f.World) (words : List ℕ) (homes : List (Option S)) (n : ℕ) → f.IsFutex k x
        → f.Shows k world words homes → f.Shows k world (slice_set words x.sleepers n) homes

  -- the rule of sleepers, at each futex
  abbrev pub AreServed : f.Key → List ℕ → List (View V T) → Type 0
  AreServed k words views = (x : Futex) → f.IsFutex k x → IsServedYet x words (parkings views)

  -- both rules
  pub record Holds (k : f.Key) (s : State S (View V T)) : Type 0 where
    pub kept : IsKept k s
    pub served : AreServed k s.words s.views
    pub futexes : AreFutexes k

  -- no sleeper of a futex is lost: where threads sleep there though the word lets them go, nobody is between a store
  -- there and the look whom to wake, and each grant whose wake-up was left to another has been taken, the kernel was
  -- called there since each store. It may be otherwise once 2^64 threads were counted there at one time
  abbrev pub NoSleeperIsLost : f.Key → State S (View V T) → Futex → Type 0
  NoSleeperIsLost k s x =
      sum (overflowed x) (parkings s.views) ≡ 0 → IsLeft x s.words (parkings s.views) → IsCalledSince x (parkings s.views)

  -- words and records as they are made show a world of an empty journal, that each seat may meet which has
  -- run nothing
  pub record Opens (k : f.Key) (words : List ℕ) (homes : List (Option S)) : Type 0 where
    pub world : f.World
    pub shows : f.Shows k world words homes
    pub unwritten : journal_of f k world ≡ []
    pub unmade : (n : ℕ) → n < f.seats k → f.Knows k (fresh_seat k n) world
    pub some_seats : 0 < f.seats k
    pub futexes : AreFutexes k
    pub none_sleep : (x : Futex) → f.IsFutex k x → slice_index words x.sleepers ≡ 0
