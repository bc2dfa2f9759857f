-- Lemmas on slots, which have a value or nothing: what they hold up to the last value, and how many values.
use Rattle.std.proofs.Common.{◌≡◌, ◌≢◌, ℕ, zero, suc, ◌+◌, ◌<◌, ◌≤◌, List, [], ◌∷◌, length, get_or, Option, Some, None}
use Rattle.std.proofs.Common.{is_some, true, cond, count_by, refl}
use Rattle.std.proofs.Common.{sym, ap, ◌∙◌, inl, inr, arith}
use Rattle.std.proofs.lemmas.Bool.{cases_eq, cases_lt}
use Rattle.std.proofs.lemmas.List.{get_or_past}
use Rattle.std.proofs.lemmas.List.Sums.{sum_by-cons, count_by-le-length}
use Rattle.slab.specs.Slab.{Slab, get, ContainsKey, slab_len, HasRoomFor, SameValues, Updates}
use Rattle.waiters.specs.Chains.{put_before, trimmed}
use Rattle.waiters.specs.Slabs.{HasAll}

module _ {T : Type 0} where
  get_or-head : (slot : Option T) (rest : List (Option T)) → get_or (put_before slot rest) zero None ≡ slot
  get_or-head None [] = refl
  get_or-head None (other ∷ rest) = refl
  get_or-head (Some value) rest = refl

  get_or-tail : (slot : Option T) (rest : List (Option T)) (key : ℕ) → get_or (put_before slot rest) (suc key) None ≡ get_or rest key None
  get_or-tail None [] key = refl
  get_or-tail None (other ∷ rest) key = refl
  get_or-tail (Some value) rest key = refl

  -- each key finds what it found
  pub get_or-trimmed : (slots : List (Option T)) (key : ℕ) → get_or (trimmed slots) key None ≡ get_or slots key None
  get_or-trimmed [] key = refl
  get_or-trimmed (slot ∷ rest) zero = get_or-head slot (trimmed rest)
  get_or-trimmed (slot ∷ rest) (suc key) = get_or-tail slot (trimmed rest) key ∙ get_or-trimmed rest key

  -- slots that hold the same up to their last values are the same up to there
  pub trimmed-same : (slots others : List (Option T))
      → ((key : ℕ) → get_or slots key None ≡ get_or others key None) → trimmed slots ≡ trimmed others
  trimmed-same [] [] same = refl
  trimmed-same [] (other ∷ others) same =
      ap (λ rest. put_before None rest) (trimmed-same [] others (λ key. same (suc key))) ∙ ap (λ slot. put_before slot (trimmed others)) (same zero)
  trimmed-same (slot ∷ slots) [] same =
      ap (λ rest. put_before slot rest) (trimmed-same slots [] (λ key. same (suc key))) ∙ ap (λ slot. put_before slot []) (same zero)
  trimmed-same (slot ∷ slots) (other ∷ others) same =
      ap (λ rest. put_before slot rest) (trimmed-same slots others (λ key. same (suc key))) ∙ ap (λ slot. put_before slot (trimmed others)) (same zero)

  -- the first slots have each value of the others
  abbrev HaveAll : List (Option T) → List (Option T) → Type 0
  HaveAll slots others = (key : ℕ) (value : T) → get_or others key None ≡ Some value → get_or slots key None ≡ Some value

  abbrev pub values_in : List (Option T) → ℕ
  values_in = count_by is_some

  pub some_more : (value : T) (rest : List (Option T)) → values_in (Some value ∷ rest) ≡ suc (values_in rest)
  some_more value rest = omega (arith, sum_by-cons (λ slot. cond (is_some slot) 1 0) (Some value) rest)

  pub none_more : (rest : List (Option T)) → values_in (None ∷ rest) ≡ values_in rest
  none_more rest = omega (arith, sum_by-cons (λ slot. cond (is_some slot) 1 0) None rest)

  later : (slot other : Option T) (slots others : List (Option T)) → HaveAll (slot ∷ slots) (other ∷ others) → HaveAll slots others
  later slot other slots others all = λ key value. all (suc key) value

  count_all : (slots others : List (Option T)) → HaveAll slots others → values_in others ≤ values_in slots
  count_all slots [] all = omega arith
  count_all [] (None ∷ others) all =
      omega (arith, none_more others, count_all [] others (λ key value. all (suc key) value))
  count_all [] (Some value ∷ others) all = let wrong = all zero value refl in absurd (cc)
  count_all (None ∷ slots) (None ∷ others) all =
      omega (arith, none_more slots, none_more others, count_all slots others (later None None slots others all))
  count_all (Some value ∷ slots) (None ∷ others) all =
      omega (arith, some_more value slots, none_more others, count_all slots others (later (Some value) None slots others all))
  count_all (None ∷ slots) (Some value ∷ others) all = let wrong = all zero value refl in absurd (cc)
  count_all (Some found ∷ slots) (Some value ∷ others) all =
      omega (arith, some_more found slots, some_more value others, count_all slots others (later (Some found) (Some value) slots others all))

  -- where there are no more values, there are no others
  same_all : (slots others : List (Option T)) → HaveAll slots others → values_in slots ≤ values_in others → (key : ℕ)
      → get_or slots key None ≡ get_or others key None
  same_all [] [] all few key = refl
  same_all (None ∷ slots) [] all few zero = refl
  same_all (None ∷ slots) [] all few (suc key) =
      same_all slots [] (λ key value read. absurd (cc)) (omega (arith, none_more slots, few)) key
  same_all (Some value ∷ slots) [] all few key = absurd (omega (arith, some_more value slots, few))
  same_all [] (None ∷ others) all few zero = refl
  same_all [] (None ∷ others) all few (suc key) =
      same_all [] others (λ key value. all (suc key) value) (omega arith) key
  same_all [] (Some value ∷ others) all few key = let wrong = all zero value refl in absurd (cc)
  same_all (None ∷ slots) (Some value ∷ others) all few key = let wrong = all zero value refl in absurd (cc)
  same_all (Some value ∷ slots) (None ∷ others) all few key =
      absurd (omega (arith, some_more value slots, none_more others, few, count_all slots others (later (Some value) None slots others all)))
  same_all (None ∷ slots) (None ∷ others) all few zero = refl
  same_all (None ∷ slots) (None ∷ others) all few (suc key) =
      same_all slots others (later None None slots others all) (omega (arith, none_more slots, none_more others, few)) key
  same_all (Some found ∷ slots) (Some value ∷ others) all few zero = all zero value refl
  same_all (Some found ∷ slots) (Some value ∷ others) all few (suc key) =
      same_all slots others (later (Some found) (Some value) slots others all) (omega (arith, some_more found slots, some_more value others, few)) key

  -- a slab with each value of another, and no more of them, has the same
  pub SameValues-from : (slab other : Slab T) → HasAll slab other → slab_len slab ≤ slab_len other → SameValues other slab
  SameValues-from slab other all few = same_all slab.slots other.slots all few

  pub slab_len-same : (slab copy : Slab T) → SameValues slab copy → slab_len copy ≡ slab_len slab
  slab_len-same slab copy same =
      let fewer = count_all copy.slots slab.slots (λ key value read. same key ∙ read) in
      let more = count_all slab.slots copy.slots (λ key value read. sym (same key) ∙ read) in
      omega (arith, fewer, more)

  vacant_slot : (slots : List (Option T)) (key : ℕ) → key < length slots → get_or slots key None ≡ None → suc (values_in slots) ≤ length slots
  vacant_slot [] key within vacant = absurd (omega arith)
  vacant_slot (None ∷ rest) zero within vacant = omega (arith, none_more rest, count_by-le-length is_some rest)
  vacant_slot (Some value ∷ rest) zero within vacant = absurd (cc)
  vacant_slot (None ∷ rest) (suc key) within vacant = omega (arith, none_more rest, vacant_slot rest key (omega arith) vacant)
  vacant_slot (Some value ∷ rest) (suc key) within vacant = omega (arith, some_more value rest, vacant_slot rest key (omega arith) vacant)

  -- a vacant key below the capacity leaves room
  pub HasRoomFor-vacant : (slab : Slab T) (key : ℕ) → length slab.slots ≤ slab.capacity → key < slab.capacity
      → get slab key ≡ None → HasRoomFor slab 1
  HasRoomFor-vacant slab key slots within vacant = elim (cases_lt key (length slab.slots)) [
    | inl in_slots ↦ omega (arith, vacant_slot slab.slots key in_slots vacant)
    | inr past ↦ omega (arith, count_by-le-length is_some slab.slots)
  ]

  -- where there is no room, each key below the capacity has a value
  pub ContainsKey-full : (slab : Slab T) (key : ℕ) → length slab.slots ≤ slab.capacity → key < slab.capacity
      → slab.capacity ≤ slab_len slab → ContainsKey slab key
  ContainsKey-full slab key slots within full = by_slot (get slab key) refl
    where
      by_slot : (slot : Option T) → get slab key ≡ slot → is_some slot ≡ true
      by_slot None read = absurd (omega (arith, HasRoomFor-vacant slab key slots within read))
      by_slot (Some value) read = refl

  -- an insertion loses no value
  pub HasAll-inserted : (slab later other : Slab T) (key : ℕ) (value : T) → get slab key ≡ None → Updates slab later key (Some value)
      → HasAll slab other → HasAll later other
  HasAll-inserted slab later other key value vacant updates all at found read =
      let kept = all at found read in
      let apart : at ≢ key = λ same. let wrong = sym kept ∙ ap (get slab) same ∙ vacant in absurd (cc) in
      updates.others at apart ∙ kept

  -- past its slots a slab has nothing
  get-past : (slab : Slab T) (key : ℕ) → length slab.slots ≤ key → get slab key ≡ None
  get-past slab key past = get_or_past slab.slots key None past

  pub get-vacant : (slab : Slab T) (key : ℕ) → (ContainsKey slab key → ⊥) → get slab key ≡ None
  get-vacant slab key vacant = by_slot (get slab key) refl
    where
      by_slot : (slot : Option T) → get slab key ≡ slot → get slab key ≡ None
      by_slot None read = read
      by_slot (Some value) read = absurd (vacant (ap is_some read))

  -- the slab has what the other has below the key
  abbrev pub HasBelow : Slab T → Slab T → ℕ → Type 0
  HasBelow slab other key = (at : ℕ) (found : T) → at < key → get other at ≡ Some found → get slab at ≡ Some found

  pub HasBelow-put : (slab later other : Slab T) (key : ℕ) (value : T) → get other key ≡ Some value → get later key ≡ Some value
      → ((at : ℕ) (found : T) → at ≢ key → get slab at ≡ Some found → get later at ≡ Some found)
      → HasBelow slab other key → HasBelow later other (key + 1)
  HasBelow-put slab later other key value has there kept below at found within read = elim (cases_eq at key) [
    | inl same ↦ ap (get later) same ∙ there ∙ sym has ∙ sym (ap (get other) same) ∙ read
    | inr differs ↦ kept at found differs (below at found (omega arith) read)
  ]

  pub HasBelow-vacant : (slab other : Slab T) (key : ℕ) → get other key ≡ None → HasBelow slab other key → HasBelow slab other (key + 1)
  HasBelow-vacant slab other key vacant below at found within read = elim (cases_eq at key) [
    | inl same ↦ let wrong = sym read ∙ ap (get other) same ∙ vacant in absurd (cc)
    | inr differs ↦ below at found (omega arith) read
  ]

  pub HasAll-from : (slab other : Slab T) (key : ℕ) → length other.slots ≤ key → HasBelow slab other key → HasAll slab other
  HasAll-from slab other key past below at found read = elim (cases_lt at key) [
    | inl within ↦ below at found within read
    | inr beyond ↦ let wrong = sym read ∙ get-past other at (omega arith) in absurd (cc)
  ]

  -- the slab has what the other has, and nothing more below the key
  pub record IsCutTo (slab other : Slab T) (capacity key : ℕ) : Type 0 where
    pub all : HasAll slab other
    pub below : (at : ℕ) → at < key → get slab at ≡ get other at
    pub past : (at : ℕ) → capacity ≤ at → get slab at ≡ None

  pub IsCutTo-start : (slab other : Slab T) (capacity : ℕ) → length slab.slots ≤ capacity → HasAll slab other → IsCutTo slab other capacity 0
  IsCutTo-start slab other capacity slots all = record {
    all = all;
    below = λ at within. absurd (omega arith);
    past = λ at beyond. get-past slab at (omega arith);
  }

  pub IsCutTo-removed : (slab later other : Slab T) (capacity key : ℕ) → get other key ≡ None → Updates slab later key None
      → IsCutTo slab other capacity key → IsCutTo later other capacity (key + 1)
  IsCutTo-removed slab later other capacity key vacant updates cut = record {
    all = λ at found read.
        let apart : at ≢ key = λ same. let wrong = sym read ∙ ap (get other) same ∙ vacant in absurd (cc) in
        updates.others at apart ∙ cut.all at found read;
    below = λ at within. elim (cases_eq at key) [
      | inl same ↦ ap (get later) same ∙ updates.changed ∙ sym vacant ∙ sym (ap (get other) same)
      | inr differs ↦ updates.others at differs ∙ cut.below at (omega arith)
    ];
    past = λ at beyond. elim (cases_eq at key) [
      | inl same ↦ ap (get later) same ∙ updates.changed
      | inr differs ↦ updates.others at differs ∙ cut.past at beyond
    ];
  }

  pub IsCutTo-kept : (slab other : Slab T) (capacity key : ℕ) → ContainsKey other key → IsCutTo slab other capacity key
      → IsCutTo slab other capacity (key + 1)
  IsCutTo-kept slab other capacity key has cut = record {
    all = cut.all;
    below = λ at within. elim (cases_eq at key) [
      | inl same ↦ ap (get slab) same ∙ by_slot (get other key) refl ∙ sym (ap (get other) same)
      | inr differs ↦ cut.below at (omega arith)
    ];
    past = cut.past;
  }
    where
      by_slot : (slot : Option T) → get other key ≡ slot → get slab key ≡ get other key
      by_slot None read = let wrong = sym has ∙ ap is_some read in absurd (cc)
      by_slot (Some value) read = cut.all key value read ∙ sym read

  pub IsCutTo-done : (slab other : Slab T) (capacity key : ℕ) → capacity ≤ key → IsCutTo slab other capacity key → SameValues other slab
  IsCutTo-done slab other capacity key done cut at = elim (cases_lt at key) [
    | inl within ↦ cut.below at within
    | inr beyond ↦ by_slot (get other at) refl (cut.past at (omega arith))
  ]
    where
      by_slot : (slot : Option T) → get other at ≡ slot → get slab at ≡ None → get slab at ≡ get other at
      by_slot None read vacant = vacant ∙ sym read
      by_slot (Some value) read vacant = cut.all at value read ∙ sym read
