-- The path of one seat: the rows that it ran and the words that it looked at, one after the other. Between
-- them other seats may do anything.
use Rattle.std.specs.Prelude.{◌≡◌, ℕ, List, [], ◌∷◌, ◌++◌, Bool, IsTrue}
use Rattle.std.specs.List.{filter}
use Rattle.step_table.specs.Turn.{Rules, finds, can_turn, turned}

-- the journal goes on from what was seen
pub record GoesOn {Entry : Type 0} (journal seen : List Entry) : Type 0 where
  pub more : List Entry
  pub is : journal ≡ seen ++ more

-- the rules of a world, how a seat stands in it, its journal, which worlds may be met, and which entries a
-- seat alone can tell
pub record Watched (World Word Value Next Seat Entry : Type 0) : Type 1 where
  pub rules : Rules World Word Value Next
  pub seat : World → ℕ → Seat
  pub journal : World → List Entry
  pub met : World → Type 0
  pub own : ℕ → Entry → Bool

-- what one seat knows: how it stands, and the journal as it was when it last ran or looked
pub record Sight (Seat Entry : Type 0) : Type 0 where
  pub stands : Seat
  pub seen : List Entry

-- what a seat does at one moment: it runs its row, or only looks at a word
pub data Deed (Word : Type 0) : Type 0 where
  runs : Deed Word
  looks : Word → Deed Word

-- one deed of a seat: how the seat stood before it, what it read, the journal before it, and the entries that
-- it told
pub record Stride (Word Value Seat Entry : Type 0) : Type 0 where
  pub deed : Deed Word
  pub stood : Seat
  pub read : Value
  pub seen : List Entry
  pub told : List Entry

-- the row ran at which the seat stood so: it read this, with this seen, and told these entries
abbrev pub ran_at : {Word Value Seat Entry : Type 0} → Seat → Value → List Entry → List Entry
    → Stride Word Value Seat Entry
ran_at stood read seen told = record { deed = runs; stood = stood; read = read; seen = seen; told = told }

-- the seat, which stood so, looked at the word w
abbrev pub looked_at : {Word Value Seat Entry : Type 0} → Word → Seat → Value → List Entry
    → Stride Word Value Seat Entry
looked_at w stood read seen = record { deed = looks w; stood = stood; read = read; seen = seen; told = [] }

-- the entries that strides told
abbrev pub all_told : {Word Value Seat Entry : Type 0} → List (Stride Word Value Seat Entry) → List Entry
all_told [] = []
all_told (p ∷ strides) = p.told ++ all_told strides

-- the stride only looked: the seat stands as it stood, and told nothing
pub record OnlyLooked {Word Value Seat Entry : Type 0} (p : Stride Word Value Seat Entry)
    (to : Sight Seat Entry) : Type 0 where
  pub told : p.told ≡ []
  pub leads : to.stands ≡ p.stood

module _ {World Word Value Next Seat Entry : Type 0}
    (watched : Watched World Word Value Next Seat Entry) where
  -- what seat i sees in this world
  abbrev pub sight : World → ℕ → Sight Seat Entry
  sight s i = record { stands = watched.seat s i; seen = watched.journal s }

  -- the seat's own entries of a journal
  abbrev pub own_entries : ℕ → List Entry → List Entry
  own_entries i journal = filter (watched.own i) journal

  -- the world may be met by seat i, which knows v: it stands so, and the journal goes on from what it has
  -- seen, with nothing of its own
  pub record Meets (s : World) (i : ℕ) (v : Sight Seat Entry) : Type 0 where
    pub met : watched.met s
    pub stands : watched.seat s i ≡ v.stands
    pub later : GoesOn (watched.journal s) v.seen
    pub quiet : own_entries i (watched.journal s) ≡ own_entries i v.seen

  -- seat i ran its row in the world s, and sees this after it
  pub record RanRow (s : World) (i : ℕ) (read : Value) (told : List Entry) (to : Sight Seat Entry)
      : Type 0 where
    pub can : IsTrue (can_turn watched.rules s i)
    pub read_is : read ≡ finds watched.rules s i
    pub told_is : watched.journal (turned watched.rules s i) ≡ watched.journal s ++ told
    pub leads : to ≡ sight (turned watched.rules s i) i

  -- it looked at the word w, and nothing changed
  pub record Looked (s : World) (i : ℕ) (w : Word) (read : Value) (told : List Entry) (to : Sight Seat Entry)
      : Type 0 where
    pub read_is : read ≡ watched.rules.found s w
    pub told_is : told ≡ []
    pub leads : to ≡ sight s i

  abbrev pub Did : World → ℕ → Deed Word → Value → List Entry → Sight Seat Entry → Type 0
  Did s i runs read told to = RanRow s i read told to
  Did s i (looks w) read told to = Looked s i w read told to

  -- one stride of seat i from one sight to the next, in a world that it may meet
  pub record Ran (i : ℕ) (from : Sight Seat Entry) (p : Stride Word Value Seat Entry) (to : Sight Seat Entry)
      : Type 0 where
    pub world : World
    pub meets : Meets world i from
    pub stood : p.stood ≡ from.stands
    pub seen : p.seen ≡ watched.journal world
    pub did : Did world i p.deed p.read p.told to

  -- strides of seat i, each from the sight to which the one before led
  abbrev pub Path : ℕ → Sight Seat Entry → List (Stride Word Value Seat Entry) → Sight Seat Entry → Type 0
  Path i from [] to = to ≡ from
  Path i from (p ∷ strides) to = (next : Sight Seat Entry) × Ran i from p next × Path i next strides to

  -- the row of seat i in this world as a stride that told these entries, and its look at a word
  abbrev pub row_in : World → ℕ → List Entry → Stride Word Value Seat Entry
  row_in s i told = ran_at (watched.seat s i) (finds watched.rules s i) (watched.journal s) told

  abbrev pub look_in : World → ℕ → Word → Stride Word Value Seat Entry
  look_in s i w = looked_at w (watched.seat s i) (watched.rules.found s w) (watched.journal s)

  -- what holds of the paths of every seat. A row that it can run is a stride, and so is each look. A path may
  -- have one more stride at its end; two paths, one after the other, are one, which can be parted again; one
  -- stride is a path. What is seen only grows, so that each stride saw what was seen at the start, and the
  -- end sees what each stride saw and told; and at the end nothing is seen but what the last stride saw and
  -- told. Of its own a seat has seen what it had seen at the start, and what its strides told
  pub record ArePaths : Type 0 where
    pub ran : (i : ℕ) (s : World) (v : Sight Seat Entry) (told : List Entry) → Meets s i v
        → IsTrue (can_turn watched.rules s i)
        → watched.journal (turned watched.rules s i) ≡ watched.journal s ++ told
        → Ran i v (row_in s i told) (sight (turned watched.rules s i) i)
    pub looked : (i : ℕ) (s : World) (v : Sight Seat Entry) (x : Word) → Meets s i v
        → Ran i v (look_in s i x) (sight s i)
    pub more : (i : ℕ) (u v w : Sight Seat Entry) (strides : List (Stride Word Value Seat Entry))
        (p : Stride Word Value Seat Entry) → Path i u strides v → Ran i v p w → Path i u (strides ++ p ∷ []) w
    pub joined : (i : ℕ) (u v w : Sight Seat Entry) (before after : List (Stride Word Value Seat Entry))
        → Path i u before v → Path i v after w → Path i u (before ++ after) w
    pub parted : (i : ℕ) (u w : Sight Seat Entry) (before after : List (Stride Word Value Seat Entry))
        → Path i u (before ++ after) w → (v : Sight Seat Entry) × Path i u before v × Path i v after w
    pub single : (i : ℕ) (v w : Sight Seat Entry) (p : Stride Word Value Seat Entry)
        → (Ran i v p w → Path i v (p ∷ []) w) × (Path i v (p ∷ []) w → Ran i v p w)
    pub grows : (i : ℕ) (v w : Sight Seat Entry) (strides : List (Stride Word Value Seat Entry))
        → Path i v strides w → GoesOn w.seen v.seen
    pub through : (i : ℕ) (v w : Sight Seat Entry) (before after : List (Stride Word Value Seat Entry))
        (p : Stride Word Value Seat Entry) → Path i v (before ++ p ∷ after) w
        → GoesOn p.seen v.seen × GoesOn w.seen (p.seen ++ p.told)
    pub ends : (i : ℕ) (v w : Sight Seat Entry) (before : List (Stride Word Value Seat Entry))
        (p : Stride Word Value Seat Entry) → Path i v (before ++ p ∷ []) w → w.seen ≡ p.seen ++ p.told
    pub own : (i : ℕ) (v w : Sight Seat Entry) (strides : List (Stride Word Value Seat Entry))
        → Path i v strides w
        → own_entries i w.seen ≡ own_entries i v.seen ++ own_entries i (all_told strides)
