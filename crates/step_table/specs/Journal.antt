-- The journal's own account of the counters and lists, and when a journal is lawful.
use Rattle.std.specs.Prelude.{◌≡◌, ℕ, ◌+◌, ◌-◌, ◌<◌, ◌≤◌, Bool, ◌&&◌, if◌then◌else◌, List, [], ◌∷◌, ◌++◌, eqb, cond}
use Rattle.waiters.specs.declared.wait.WaitId.{WaitId}
use Rattle.step_table.specs.declared.entry.Entry.{Entry}
use Rattle.step_table.specs.declared.entry.Entry.TheVariants.{Add, AddMany, Take, Queue, Leave, Withdraw}
use Rattle.step_table.specs.World.{Words, put, listed}
use Rattle.step_table.specs.Counting.{on, same, times}

-- each counter has a number and a list of waits
pub record Plain : Type 0 where
  pub numbers : ℕ → ℕ
  pub lists : ℕ → List WaitId

-- each counter at its start, and nobody waits
abbrev pub plain_start : (ℕ → ℕ) → Plain
plain_start starts = record { numbers = starts; lists = λ c. [] }

-- the numbers and lists among the words
abbrev pub plain : Words → Plain
plain g = record { numbers = g.numbers; lists = g.lists }

abbrev pub numbered : Entry → (ℕ → ℕ) → ℕ → ℕ
numbered (Add c s) numbers = put numbers c (numbers c + 1)
numbered (AddMany c n s) numbers = put numbers c (numbers c + n)
numbered (Take c s) numbers = put numbers c (numbers c - 1)
numbered _ numbers = numbers

-- the two are one wait
abbrev pub is_same : WaitId → WaitId → Bool
is_same w x = eqb w.seat x.seat && eqb w.turn x.turn

-- the list without this wait, the others in their order
abbrev pub without_wait : WaitId → List WaitId → List WaitId
without_wait w [] = []
without_wait w (x ∷ l) = if is_same x w then l else x ∷ without_wait w l

-- what an entry tells of the lists: one that is withdrawn is that very wait
abbrev pub told_lists : Entry → (ℕ → List WaitId) → ℕ → List WaitId
told_lists (Withdraw c w) lists = put lists c (without_wait w (lists c))
told_lists e lists = listed e lists

abbrev pub effect_of : Entry → Plain → Plain
effect_of e x = record { numbers = numbered e x.numbers; lists = told_lists e x.lists }

abbrev pub replay : Plain → List Entry → Plain
replay x [] = x
replay x (e ∷ es) = replay (effect_of e x) es

-- a unit is taken only where there is one, the wait that leaves is the first, and one that is withdrawn is in the
-- list
abbrev pub IsDefined : Entry → Plain → Type 0
IsDefined (Take c s) x = 0 < x.numbers c
IsDefined (Leave c w s) x = (l : List WaitId) × (x.lists c ≡ w ∷ l)
IsDefined (Withdraw c w) x = 0 < times w (x.lists c)
IsDefined _ x = Unit {0}

-- what a seat may still take out: the counter of its last release, and that release's units less the waits
-- taken out since
pub record Budget : Type 0 where
  pub counter : ℕ
  pub units : ℕ

-- the budget of the seat s after one more entry
unfoldable pub spent : ℕ → Entry → Budget → Budget
spent s (Add c t) b = cond (eqb s t) (record { counter = c; units = 1 }) b
spent s (AddMany c n t) b = cond (eqb s t) (record { counter = c; units = n }) b
spent s (Leave c w t) b = cond (eqb s t) (record b { units = b.units - 1 }) b
spent s _ b = b

abbrev pub budget_from : Budget → ℕ → List Entry → Budget
budget_from b s [] = b
budget_from b s (e ∷ es) = budget_from (spent s e b) s es

abbrev pub budget : ℕ → List Entry → Budget
budget s journal = budget_from (record { counter = 0; units = 0 }) s journal

-- the last release of s was of c, and m of its units have let nobody out yet
abbrev pub Owes : ℕ → ℕ → ℕ → List Entry → Type 0
Owes s c m journal = ((budget s journal).counter ≡ c) × (m ≤ (budget s journal).units)

-- a wait leaves for a unit of the seat's own last release
abbrev pub IsOwned : Entry → List Entry → Type 0
IsOwned (Leave c w s) before = Owes s c 1 before
IsOwned _ before = Unit {0}

-- how often a wait was queued, how often it has left for a release, and how often it was withdrawn
abbrev pub queued : WaitId → List Entry → ℕ
queued w [] = 0
queued w (Queue c x lifo ∷ es) = same w x + queued w es
queued w (e ∷ es) = queued w es

abbrev pub left : WaitId → List Entry → ℕ
left w [] = 0
left w (Leave c x s ∷ es) = same w x + left w es
left w (e ∷ es) = left w es

abbrev pub withdrawn : WaitId → List Entry → ℕ
withdrawn w [] = 0
withdrawn w (Withdraw c x ∷ es) = same w x + withdrawn w es
withdrawn w (e ∷ es) = withdrawn w es

-- each entry was defined where it stands, and each wait left for a unit of its releaser's own
abbrev pub Follows : Plain → List Entry → Type 0
Follows start journal =
    (before after : List Entry) (e : Entry) → journal ≡ before ++ e ∷ after
    → IsDefined e (replay start before) × IsOwned e before

-- and no wait was queued twice, and none left its list twice: it left for a release, or was withdrawn
abbrev pub IsLawful : Plain → List Entry → Type 0
IsLawful start journal =
    Follows start journal × ((w : WaitId) → (queued w journal ≤ 1) × (left w journal + withdrawn w journal ≤ 1))

-- how many units were taken for the seat s
abbrev pub takes : ℕ → List Entry → ℕ
takes s [] = 0
takes s (Take c t ∷ es) = on s t 1 + takes s es
takes s (e ∷ es) = takes s es

-- w has left c, and since then nothing was taken for its seat
abbrev pub HasLeft : ℕ → WaitId → List Entry → Type 0
HasLeft c w journal =
    (s : ℕ) × (before after : List Entry)
    × (journal ≡ before ++ Leave c w s ∷ after) × (takes w.seat after ≡ 0)

-- w has left c, and since then one unit of c was taken for its seat
abbrev pub HasItsUnit : ℕ → WaitId → List Entry → Type 0
HasItsUnit c w journal =
    (s : ℕ) × (before between after : List Entry)
    × (journal ≡ before ++ Leave c w s ∷ (between ++ Take c w.seat ∷ after))
    × (takes w.seat between ≡ 0) × (takes w.seat after ≡ 0)
