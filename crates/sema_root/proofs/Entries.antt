-- The entries of the counters, and the queues of the lists that they name.
use Rattle.std.proofs.Common.{◌≡◌, ◌≢◌, ◌==◌, ℕ, ◌+◌, ◌<◌, ◌≤◌, Bool, true, false, List, [], ◌∷◌, ◌++◌, Option, Some}
use Rattle.std.proofs.Common.{None, length, if◌then◌else◌, refl, sym, ap, ◌∙◌, subst, arith, eqb-true, unwrap_or}
use Rattle.std.specs.List.{AllByRecursion}
use Rattle.waiters.specs.declared.wait.Wait.{Wait}
use Rattle.waiters.specs.Lists.{Lists, waits_at, Changes as ListChanges}
use Rattle.sema_root.specs.Entries.{entry_of, AllBelow, AllAbove, AreRising, Adds, Removes}
use Rattle.sema_root.specs.Queues.{waits_on, total}
use Rattle.sema_root.specs.Joined.{queues_in, AreApart}
use Rattle.sema_root.proofs.Rising.{All-append, All-append_left, All-append_right}

-- each entry names another list than this one
abbrev pub AreOthers : ℕ → List (ℕ × ℕ) → Type 0
AreOthers key = AllByRecursion (λ entry. entry.1 ≢ key)

-- each entry's list has somebody in it
abbrev pub AreWaited : Lists → List (ℕ × ℕ) → Type 0
AreWaited lists = AllByRecursion (λ entry. 0 < length (waits_at lists entry.1))

-- an entry between two lists of entries
module _ {X : Type 0} (P : X → Type 0) where
  pub All-with : (x : X) (xs ys : List X) → P x → AllByRecursion P (xs ++ ys) → AllByRecursion P (xs ++ x ∷ ys)
  All-with x xs ys this all = All-append P xs (x ∷ ys) (All-append_left P xs ys all) (this, All-append_right P xs ys all)

  pub All-without : (x : X) (xs ys : List X) → AllByRecursion P (xs ++ x ∷ ys) → AllByRecursion P (xs ++ ys)
  All-without x xs ys all = All-append P xs ys (All-append_left P xs (x ∷ ys) all) (All-append_right P xs (x ∷ ys) all).1

  pub All-at : (x : X) (xs ys : List X) → AllByRecursion P (xs ++ x ∷ ys) → P x
  All-at x xs ys all = (All-append_right P xs (x ∷ ys) all).0

-- a list of its own beside lists that are apart
pub apart-with : (c k : ℕ) (xs ys : List (ℕ × ℕ)) → AreApart (xs ++ ys) → AreOthers k (xs ++ ys) → AreApart (xs ++ (c, k) ∷ ys)
apart-with c k [] ys apart others = (others, apart)
apart-with c k (x ∷ xs) ys apart others =
    (All-with _ (c, k) xs ys (λ same. others.0 (sym same)) apart.0, apart-with c k xs ys apart.1 others.1)

-- without an entry the others are apart
pub apart-without : (c k : ℕ) (xs ys : List (ℕ × ℕ)) → AreApart (xs ++ (c, k) ∷ ys) → AreApart (xs ++ ys)
apart-without c k [] ys apart = apart.1
apart-without c k (x ∷ xs) ys apart = (All-without _ (c, k) xs ys apart.0, apart-without c k xs ys apart.1)

-- and name other lists than its own
pub others-without : (c k : ℕ) (xs ys : List (ℕ × ℕ)) → AreApart (xs ++ (c, k) ∷ ys) → AreOthers k (xs ++ ys)
others-without c k [] ys apart = apart.0
others-without c k (x ∷ xs) ys apart =
    (λ same. All-at _ (c, k) xs ys apart.0 (sym same), others-without c k xs ys apart.1)

-- the queues of two lists of entries in a row
pub queues_in-append : (lists : Lists) (xs ys : List (ℕ × ℕ)) → queues_in lists (xs ++ ys) ≡ queues_in lists xs ++ queues_in lists ys
queues_in-append lists [] ys = refl
queues_in-append lists (x ∷ xs) ys = ap (λ rest. (x.0, waits_at lists x.1) ∷ rest) (queues_in-append lists xs ys)

-- they are as many waits as the two have
total-append : (xs ys : List (ℕ × List Wait)) → total (xs ++ ys) ≡ total xs + total ys
total-append [] ys = omega arith
total-append (x ∷ xs) ys = omega (arith, total-append xs ys)

module _ (lists : Lists) where
  pub queues_in-below : (c : ℕ) (xs : List (ℕ × ℕ)) → AllBelow c xs → AllBelow c (queues_in lists xs)
  queues_in-below c [] below = tt
  queues_in-below c (x ∷ xs) below = (below.0, queues_in-below c xs below.1)

  pub queues_in-above : (c : ℕ) (xs : List (ℕ × ℕ)) → AllAbove c xs → AllAbove c (queues_in lists xs)
  queues_in-above c [] above = tt
  queues_in-above c (x ∷ xs) above = (above.0, queues_in-above c xs above.1)

  -- the queues stand in the order of the entries
  pub queues_in-rising : (xs : List (ℕ × ℕ)) → AreRising xs → AreRising (queues_in lists xs)
  queues_in-rising [] rising = tt
  queues_in-rising (x ∷ xs) rising = (queues_in-above x.0 xs rising.0, queues_in-rising xs rising.1)

  -- somebody waits in each
  pub queues_in-waited : (xs : List (ℕ × ℕ)) → AreWaited lists xs → AllByRecursion (λ queue. 0 < length queue.1) (queues_in lists xs)
  queues_in-waited [] waited = tt
  queues_in-waited (x ∷ xs) waited = (waited.0, queues_in-waited xs waited.1)

  -- so there are no more entries than waits
  pub entries_le_total : (xs : List (ℕ × ℕ)) → AreWaited lists xs → length xs ≤ total (queues_in lists xs)
  entries_le_total [] waited = omega arith
  entries_le_total (x ∷ xs) waited = omega (arith, waited.0, entries_le_total xs waited.1)

  -- who waits on a counter that is in: its list
  pub waits_on-entry : (c k : ℕ) (entries : List (ℕ × ℕ)) → entry_of c entries ≡ Some k → waits_on (queues_in lists entries) c ≡ waits_at lists k
  waits_on-entry c k [] has = cc
  waits_on-entry c k (x ∷ xs) has = by (x.0 == c) (waits_on-entry c k xs) has
    where
      by : (here : Bool) → (entry_of c xs ≡ Some k → waits_on (queues_in lists xs) c ≡ waits_at lists k)
          → (if here then Some x.1 else entry_of c xs) ≡ Some k
          → unwrap_or (if here then Some (waits_at lists x.1) else entry_of c (queues_in lists xs)) [] ≡ waits_at lists k
      by true further some = ap (λ found. waits_at lists (unwrap_or found 0)) some
      by false further some = further some

  -- nobody waits on a counter that isn't in
  pub waits_on-absent : (c : ℕ) (entries : List (ℕ × ℕ)) → entry_of c entries ≡ None → waits_on (queues_in lists entries) c ≡ []
  waits_on-absent c [] lacks = refl
  waits_on-absent c (x ∷ xs) lacks = by (x.0 == c) (waits_on-absent c xs) lacks
    where
      by : (here : Bool) → (entry_of c xs ≡ None → waits_on (queues_in lists xs) c ≡ [])
          → (if here then Some x.1 else entry_of c xs) ≡ None
          → unwrap_or (if here then Some (waits_at lists x.1) else entry_of c (queues_in lists xs)) [] ≡ []
      by true further none = cc
      by false further none = further none

  -- an entry that comes in or goes takes its queue with it
  abbrev pub queues_in-Adds : {old new : List (ℕ × ℕ)} {c k : ℕ} → Adds old new c k
      → Adds (queues_in lists old) (queues_in lists new) c (waits_at lists k)
  queues_in-Adds {c = c} {k = k} adds = record {
    before = queues_in lists adds.before;
    behind = queues_in lists adds.behind;
    were = ap (queues_in lists) adds.were ∙ queues_in-append lists adds.before adds.behind;
    are = ap (queues_in lists) adds.are ∙ queues_in-append lists adds.before ((c, k) ∷ adds.behind);
    below = queues_in-below c adds.before adds.below;
    above = queues_in-above c adds.behind adds.above;
  }

  abbrev pub queues_in-Removes : {old new : List (ℕ × ℕ)} {c : ℕ} → Removes old new c → Removes (queues_in lists old) (queues_in lists new) c
  queues_in-Removes {c = c} removes = record {
    before = queues_in lists removes.before;
    value = waits_at lists removes.value;
    behind = queues_in lists removes.behind;
    were = ap (queues_in lists) removes.were ∙ queues_in-append lists removes.before ((c, removes.value) ∷ removes.behind);
    are = ap (queues_in lists) removes.are ∙ queues_in-append lists removes.before removes.behind;
  }

-- a queue that comes in brings its waits
pub total-Adds : {old new : List (ℕ × List Wait)} {c : ℕ} {waits : List Wait} → Adds old new c waits → total new ≡ total old + length waits
total-Adds {c = c} {waits = waits} adds =
    omega (arith, ap total adds.were, ap total adds.are, total-append adds.before adds.behind, total-append adds.before ((c, waits) ∷ adds.behind))

-- one that goes takes them
pub total-Removes : {old new : List (ℕ × List Wait)} {c : ℕ} (removes : Removes old new c) → total old ≡ total new + length removes.value
total-Removes {c = c} removes =
    omega (
      arith,
      ap total removes.were,
      ap total removes.are,
      total-append removes.before removes.behind,
      total-append removes.before ((c, removes.value) ∷ removes.behind),
    )

-- where the entry of a counter stands among the others
pub record Stands (entries : List (ℕ × ℕ)) (c k : ℕ) : Type 0 where
  pub before : List (ℕ × ℕ)
  pub behind : List (ℕ × ℕ)
  pub are : entries ≡ before ++ (c, k) ∷ behind

pub stands : (c k : ℕ) (entries : List (ℕ × ℕ)) → entry_of c entries ≡ Some k → Stands entries c k
stands c k [] has = absurd (none_some has)
  where
    none_some : None ≡ Some k → ⊥
    none_some same = cc
stands c k (x ∷ xs) has = by (x.0 == c) refl (stands c k xs) has
  where
    by : (here : Bool) → (x.0 == c) ≡ here → (entry_of c xs ≡ Some k → Stands xs c k)
        → (if here then Some x.1 else entry_of c xs) ≡ Some k → Stands (x ∷ xs) c k
    by true here further some = record {
      before = [];
      behind = xs;
      are = ap (λ counter. (counter, x.1) ∷ xs) (eqb-true x.0 c here) ∙ ap (λ found. (c, unwrap_or found 0) ∷ xs) some;
    }
    by false here further some = let rest = further some in record {
      before = x ∷ rest.before;
      behind = rest.behind;
      are = ap (λ rest. x ∷ rest) rest.are;
    }

module _ {old new : Lists} {k : ℕ} {list : Option (List Wait)} (changed : ListChanges old new k list) where
  -- a change of one list leaves the queues of the others
  pub queues_in-others : (xs : List (ℕ × ℕ)) → AreOthers k xs → queues_in new xs ≡ queues_in old xs
  queues_in-others [] others = refl
  queues_in-others (x ∷ xs) others =
      ap (λ found. (x.0, unwrap_or found []) ∷ queues_in new xs) (changed.elsewhere x.1 others.0)
      ∙ ap (λ rest. (x.0, waits_at old x.1) ∷ rest) (queues_in-others xs others.1)

  -- so somebody still waits in each
  pub waited-others : (xs : List (ℕ × ℕ)) → AreOthers k xs → AreWaited old xs → AreWaited new xs
  waited-others [] others waited = tt
  waited-others (x ∷ xs) others waited =
      (subst (λ found. 0 < length (unwrap_or found [])) (sym (changed.elsewhere x.1 others.0)) waited.0, waited-others xs others.1 waited.1)
