-- What each step at a futex makes of its thread's dealings.
use Rattle.std.specs.Prelude.{◌≡◌, ◌≢◌, ◌⊎◌, ℕ, List, [], ◌∷◌}
use Rattle.atomic_table.specs.Table.{Me, Step}
use Rattle.running_rows.specs.declared.parking.Stage.{Stage}
use Rattle.running_rows.specs.declared.parking.Stage.TheVariants.{Counted, Asleep, Wants, Owes, Overflowed}
use Rattle.running_rows.specs.declared.parking.Parking.{Parking}
use Rattle.running_rows.specs.declared.view.View.{View}
use Rattle.running_rows.specs.Futex.{Futex, lets_go}

-- a stage more
abbrev pub at_stage : Stage → Parking → Parking
at_stage p v = record v { stages = p ∷ v.stages }

-- the last stage is over
abbrev pub but_last : List Stage → List Stage
but_last [] = []
but_last (p ∷ ps) = ps

abbrev pub done : Parking → Parking
done v = record v { stages = but_last v.stages }

-- who is counted sleeps
abbrev pub fallen_asleep : List Stage → List Stage
fallen_asleep (Counted i ∷ ps) = Asleep i ∷ ps
fallen_asleep ps = ps

abbrev pub sleeping : Parking → Parking
sleeping v = record v { stages = fallen_asleep v.stages }

-- behind its sleep at a lock it owes that a try
abbrev pub wanting : ℕ → List Stage → List Stage
wanting i [] = []
wanting i (p ∷ ps) = p ∷ Wants i ∷ ps

abbrev pub to_try : ℕ → Parking → Parking
to_try i v = record v { stages = wanting i v.stages }

-- it stands at these stages
abbrev pub standing : List Stage → Parking → Parking
standing ps v = record v { stages = ps }

-- who owes a call makes it
abbrev pub called_at : List Stage → List ℕ → List ℕ
called_at (Owes i ∷ ps) is = i ∷ is
called_at ps is = is

abbrev pub having_called : Parking → Parking
having_called v = record v { stages = but_last v.stages; calls = called_at v.stages v.calls }

-- it stored in the word what lets a sleeper go, after so many calls, and one
abbrev pub owing_at : ℕ → ℕ → Parking → Parking
owing_at word number v =
    record v { stages = Owes word ∷ v.stages; stored = record { word = word; number = number } ∷ v.stored }

-- it stored a grant in the word, and leaves the wake-up to another
abbrev pub passing_at : ℕ → Parking → Parking
passing_at word v = record v { passed = word ∷ v.passed }

-- it took a grant from the word
abbrev pub paying_at : ℕ → ℕ → Parking → Parking
paying_at word number v = record v { paid = record { word = word; number = number } ∷ v.paid }

-- what was done meanwhile, of a thread that stands at the same stages again
abbrev pub back_at : Parking → Parking → Parking
back_at old now = record now { stages = old.stages }

module _ {S V T : Type 0} where
  -- the same with other dealings
  abbrev pub dealing : Parking → Me S (View V T) → Me S (View V T)
  dealing q m = (record m.0 { parking = q }, m.1)

  abbrev pub Dealt : Me S (View V T) → Parking → Me S (View V T) → Type 0
  Dealt m q t = t ≡ dealing q m

  -- the count of sleepers was n
  abbrev pub counts : Step S → Me S (View V T) → ℕ → Me S (View V T) → Type 0
  counts st m n t =
      (n ≢ 18446744073709551615 → Dealt m (at_stage (Counted st.word) m.0.parking) t)
      × (n ≡ 18446744073709551615 → Dealt m (at_stage (Overflowed st.word) m.0.parking) t)

  abbrev pub comes_back : Step S → Me S (View V T) → ℕ → Me S (View V T) → Type 0
  comes_back st m n t = Dealt m (done m.0.parking) t

  -- the last look before the kernel's own: a lock that is held, a grant that isn't there
  abbrev pub looks_at_lock : Step S → Me S (View V T) → ℕ → Me S (View V T) → Type 0
  looks_at_lock st m n t =
      (n ≡ 0 → Dealt m (to_try st.word m.0.parking) t) × (n ≢ 0 → Dealt m (to_try st.word (sleeping m.0.parking)) t)

  abbrev pub looks_at_grant : Step S → Me S (View V T) → ℕ → Me S (View V T) → Type 0
  looks_at_grant st m n t = (n ≢ 0 → t ≡ m) × (n ≡ 0 → Dealt m (sleeping m.0.parking) t)

  -- a look by one who owes a call: where it finds 0, nobody is left to wake
  abbrev pub looks_for_sleepers : Step S → Me S (View V T) → ℕ → Me S (View V T) → Type 0
  looks_for_sleepers st m n t = (n ≡ 0 → Dealt m (done m.0.parking) t) × (n ≢ 0 → t ≡ m)

  -- the kernel was called
  abbrev pub calls_kernel : Step S → Me S (View V T) → ℕ → Me S (View V T) → Type 0
  calls_kernel st m n t = Dealt m (having_called m.0.parking) t

-- the last stage is that it is counted there
abbrev pub IsAboutToSleep : ℕ → Parking → Type 0
IsAboutToSleep i v = (rest : List Stage) × (v.stages ≡ Counted i ∷ rest)

-- the same, or it is asleep
abbrev pub IsCountedIn : ℕ → Parking → Type 0
IsCountedIn i v = (rest : List Stage) × ((v.stages ≡ Counted i ∷ rest) ⊎ (v.stages ≡ Asleep i ∷ rest))

-- the last stage is that it stored in the word
abbrev pub IsOwing : ℕ → Parking → Type 0
IsOwing i v = (rest : List Stage) × (v.stages ≡ Owes i ∷ rest)

module _ {S V T : Type 0} where
  -- it is counted there still, or asleep, and once that is over only its dealings have changed, to these
  pub record StaysCounted (i : ℕ) (then : Parking) (m t : Me S (View V T)) : Type 0 where
    pub counted : IsCountedIn i t.0.parking
    pub same : dealing (done t.0.parking) t ≡ dealing then m

  -- the last stage is over, and nothing else has changed but how often it called the kernel
  pub record OwesNoMore (m t : Me S (View V T)) : Type 0 where
    pub same : t ≡ dealing t.0.parking m
    pub stages : t.0.parking.stages ≡ but_last m.0.parking.stages

-- who has found nothing at the futex may sleep there, while its word is as expected
pub record MayPark (IsFutex : Futex → Type 0) (word expected : ℕ) (v : Parking) : Type 0 where
  pub futex : Futex
  pub is_one : IsFutex futex
  pub there : futex.word ≡ word
  pub found : lets_go futex.is_lock expected → ⊥
  pub rest : List Stage
  pub asleep : v.stages ≡ Asleep futex.sleepers ∷ rest
