-- One step is one stride: what each kind of step tells its seat.
use Rattle.std.specs.Prelude.{◌≡◌, ◌≢◌, ℕ, ◌<◌, List, [], ◌∷◌, ◌++◌}
use Rattle.atomic_table.specs.Table.{Me, Step, rest}
use Rattle.step_table.specs.Path.{Deed, runs, looks, Ran}
use Rattle.running_rows.specs.declared.view.View.{View}
use Rattle.running_rows.specs.declared.view.Seated.{Seated}
use Rattle.running_rows.specs.Family.{Family}
use Rattle.running_rows.specs.declared.parking.Stage.{Stage}
use Rattle.running_rows.specs.declared.parking.Stage.TheVariants.{Wants}
use Rattle.running_rows.specs.Parking.{back_at, dealing, standing, owing_at}

-- as it stood
abbrev pub here : {V : Type 0} → V → V
here v = v

module _ {S V T K : Type 0} (f : Family S V T K) where
  -- one stride led the seat u, which began so, to w, by this deed, and read n
  pub record Went (at : V → V) (deed : Deed f.Word) (u : Seated V T) (n : ℕ) (w : Seated V T) : Type 0 where
    pub stride : T
    pub ran : Ran (f.watched
        (f.of u.knows)) u.number (f.sight (at u.knows)) (f.stride stride) (f.sight w.knows)
    pub did : (f.stride stride).deed ≡ deed
    pub read : (f.stride stride).read ≡ f.value n
    pub also : f.Also ran.world u.number (at u.knows) stride w.knows
    pub one : w.gone ≡ u.gone ++ stride ∷ []
    pub same : (w.number ≡ u.number) × (f.of w.knows ≡ f.of u.knows)

  -- the token's seat is this now, and it holds these slots; nothing else has changed
  abbrev pub becomes : Me S (View V T) → Seated V T → List (ℕ × S) → Me S (View V T)
  becomes m w slots = (record m.0 { own = w }, slots)

  -- the same, whatever its thread did meanwhile with sleepers: it owes nothing for that
  abbrev pub Changed : Me S (View V T) → List (ℕ × S) → Me S (View V T) → Type 0
  Changed m slots t = t ≡ (record m.0 { own = t.0.own; parking = back_at m.0.parking t.0.parking }, slots)

  -- a row that began so ran, and found n
  abbrev pub RanRow : (V → V) → Me S (View V T) → ℕ → Me S (View V T) → Type 0
  RanRow at m n t = Went at runs m.0.own n t.0.own × Changed m m.1 t

  -- the word at this address was looked at
  abbrev pub Looked : ℕ → Me S (View V T) → ℕ → Me S (View V T) → Type 0
  Looked i m n t = Went here (looks (f.word_at (f.of m.0.own.knows) i)) m.0.own n t.0.own × Changed m m.1 t

  -- a row ran that takes a lock, and the record came with it
  abbrev pub Took : (V → V) → Me S (View V T) → Me S (View V T) → Type 0
  Took at m t =
      Went at runs m.0.own 0 t.0.own
      × ((slot : ℕ) × (y : S) × Changed m ((slot, y) ∷ m.1) t × f.IsHeld t.0.own.knows slot y)

  abbrev pub looks_at : Step S → Me S (View V T) → ℕ → Me S (View V T) → Type 0
  looks_at st m n t = Looked st.word m n t

  abbrev pub runs_access : (Step S → V → V) → Step S → Me S (View V T) → ℕ → Me S (View V T) → Type 0
  runs_access at st m n t = RanRow (at st) m n t

  -- a store tells nothing of what it found
  abbrev pub runs_store : (Step S → V → V) → Step S → Me S (View V T) → ℕ → Me S (View V T) → Type 0
  runs_store at st m x t = (n : ℕ) × RanRow (at st) m n t

  -- a lock that is held changes nothing
  abbrev pub runs_lock : (Step S → V → V) → Step S → Me S (View V T) → ℕ → Me S (View V T) → Type 0
  runs_lock at st m n t = (n ≢ 0 → t ≡ m) × (n ≡ 0 → Took (at st) m t)

  -- the same by one who has slept there, and owes the lock a try: that is over
  abbrev pub tries : (Step S → V → V) → Step S → Me S (View V T) → ℕ → Me S (View V T) → Type 0
  tries at st m n t =
      (rest : List Stage) → m.0.parking.stages ≡ Wants st.word ∷ rest → runs_lock at st (dealing (standing rest m.0.parking) m) n t

  -- a look found the lock held, and is a stride
  abbrev pub FoundHeld : ℕ → Me S (View V T) → Me S (View V T) → Type 0
  FoundHeld i m t = (n : ℕ) × (n ≢ 0) × Looked i m n t

  -- the same, where it was looked at by what would have taken it
  abbrev pub runs_lock_or_look : (Step S → V → V) → Step S → Me S (View V T) → ℕ → Me S (View V T) → Type 0
  runs_lock_or_look at st m n t = (n ≢ 0 → Looked st.word m n t) × (n ≡ 0 → Took (at st) m t)

  -- a row that gives a lock back ran, and the record is at home; it began where it stood, or so
  abbrev pub runs_unlock_from : (Step S → V → V) → Step S → Me S (View V T) → ℕ → Me S (View V T) → Type 0
  runs_unlock_from at st m x t =
      (n : ℕ) × (w : Went (at st) runs m.0.own n t.0.own) × f.HasGiven w.stride m.1 × Changed m (rest m.1) t

  abbrev pub runs_unlock : Step S → Me S (View V T) → ℕ → Me S (View V T) → Type 0
  runs_unlock st m x t = runs_unlock_from (λ st. here) st m x t

  -- a row ran that stored x at the word
  abbrev pub runs_grant : Step S → Me S (View V T) → ℕ → Me S (View V T) → Type 0
  runs_grant st m x t =
      (n : ℕ) × (w : Went here runs m.0.own n t.0.own)
      × f.HasStored (f.of m.0.own.knows) w.stride st.word x × Changed m m.1 t

  -- a grant of 0 was looked at, and another was taken
  abbrev pub runs_take_or_look : Step S → Me S (View V T) → ℕ → Me S (View V T) → Type 0
  runs_take_or_look st m n t = (n ≡ 0 → Looked st.word m 0 t) × (0 < n → RanRow here m n t)

  -- a grant of 0 was left, and another was taken
  abbrev pub runs_take_or_nothing : Step S → Me S (View V T) → ℕ → Me S (View V T) → Type 0
  runs_take_or_nothing st m n t = (n ≡ 0 → t ≡ m) × (0 < n → RanRow here m n t)

-- a word was written of which the world knows nothing, and nothing changed
abbrev pub sets_aside : {S V T : Type 0} → Step S → Me S (View V T) → ℕ → Me S (View V T) → Type 0
sets_aside st m x t = t ≡ m

module _ {S V T K : Type 0} (f : Family S V T K) where
  -- the row ran that stores, and its thread owes who sleeps there a look
  pub record Owed (Ran : Me S (View V T) → Type 0) (st : Step S) (m t : Me S (View V T)) : Type 0 where
    pub ran : Ran (dealing m.0.parking t)
    pub number : ℕ
    pub owes : t.0.parking ≡ owing_at st.word number m.0.parking

  abbrev pub unlocks : (Step S → V → V) → Step S → Me S (View V T) → ℕ → Me S (View V T) → Type 0
  unlocks at st m x t = Owed (runs_unlock_from f at st m x) st m t

  abbrev pub grants : Step S → Me S (View V T) → ℕ → Me S (View V T) → Type 0
  grants st m x t = Owed (runs_grant f st m x) st m t
