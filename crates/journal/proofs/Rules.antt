-- One more entry keeps a lawful journal lawful exactly where it breaks no rule.
use Rattle.std.proofs.Common.{◌≡◌, ◌≢◌, ℕ, ◌+◌, ◌<◌, ◌≤◌, ◌⊎◌, Bool, true, false, cond, eqb, List, [], ◌∷◌, ◌++◌}
use Rattle.std.proofs.Common.{refl, sym, ap, subst, ◌∙◌, inl, inr, eq-eqb}
use Rattle.std.proofs.Common.{arith}
use Rattle.std.proofs.lemmas.List.{append-nil}
use Rattle.std.proofs.lemmas.Bool.{cases_eq, cases_lt, eqb-true}
use Rattle.waiters.specs.declared.wait.WaitId.{WaitId}
use Rattle.step_table.specs.declared.entry.Entry.{Entry}
use Rattle.step_table.specs.declared.entry.Entry.TheVariants.{Add, AddMany, Take, Queue, Leave, Withdraw, Ticket, Grant, Forgo}
use Rattle.step_table.specs.Core.{sema_entries, list_entries}
use Rattle.step_table.specs.Counting.{same, times, among}
use Rattle.step_table.specs.Journal.{Plain, replay, IsDefined, IsOwned, IsLawful, Owes, budget, queued, left, withdrawn}
use Rattle.step_table.specs.ListWorld.{ListEntry, Took, Granted, Forgone}
use Rattle.step_law_lists.specs.ListLawful as list
use Rattle.journal.specs.declared.rule.Rule.TheVariants.{NoUnit, NotFirst, NotQueued, GrantedBefore, PassedBefore, GoneBefore}
use Rattle.journal.specs.declared.rule.Rule.TheVariants.{NotHandedOut, QueuedTwice, LeftTwice, NoRelease}
use Rattle.journal.specs.LawfulJournal.{start_of, IsLawfulJournal, plain_after, told_after}
use Rattle.journal.specs.Rules.{BreaksNone, TheRules}
use Rattle.journal.proofs.Entries.{sema_append, list_append, queued_append, left_append, withdrawn_append, same_own, same_some, same_most, stands_more, stands_front}
use Rattle.journal.proofs.Entries.{stands_last}

-- an entry stands where it may
abbrev pub Stands : Plain → Entry → List Entry → Type 0
Stands start e before = IsDefined e (replay start before) × IsOwned e before

abbrev pub ListStands : ListEntry → List ListEntry → Type 0
ListStands e before = list.IsDefined e (list.told before)

-- ---- what is lawful is lawful in front

pub lawful_front : (starts : List ℕ) (xs ys : List Entry) → IsLawfulJournal starts (xs ++ ys) → IsLawfulJournal starts xs
lawful_front starts xs ys h =
    let whole : IsLawful (start_of starts) (sema_entries xs ++ sema_entries ys) = subst (IsLawful (start_of starts)) (sema_append xs ys) h.0 in (
      (
        stands_front (Stands (start_of starts)) (sema_entries xs) (sema_entries ys) whole.0,
        (λ w. (
          omega (arith, (whole.1 w).0, queued_append w (sema_entries xs) (sema_entries ys)),
          omega (arith, (whole.1 w).1, left_append w (sema_entries xs) (sema_entries ys), withdrawn_append w (sema_entries xs) (sema_entries ys)),
        )),
      ),
      (λ l. stands_front ListStands (list_entries l xs) (list_entries l ys) (subst list.Follows (list_append l xs ys) (h.1 l))),
    )

-- ---- an entry that stands

-- an entry of a counter
abbrev IsOfCounter : Entry → Type 0
IsOfCounter e = (sema_entries (e ∷ []) ≡ e ∷ []) × ((l : ℕ) → list_entries l (e ∷ []) ≡ [])

-- an entry of the list m
abbrev IsOfList : Entry → ℕ → ListEntry → Type 0
IsOfList e m x = (sema_entries (e ∷ []) ≡ []) × ((l : ℕ) → list_entries l (e ∷ []) ≡ cond (eqb m l) (x ∷ []) [])

-- what the last entry of a lawful journal meets
pub record Met (starts : List ℕ) (before : List Entry) (e : Entry) : Type 0 where
  pub stands : Stands (start_of starts) e (sema_entries before)
  pub queued_once : (w : WaitId) → queued w (sema_entries before) + queued w (e ∷ []) ≤ 1
  pub left_once : (w : WaitId) → left w (sema_entries before) + withdrawn w (sema_entries before) + (left w (e ∷ []) + withdrawn w (e ∷ [])) ≤ 1

counter_met : (starts : List ℕ) (before : List Entry) (e : Entry) → IsOfCounter e → IsLawfulJournal starts (before ++ e ∷ []) → Met starts before e
counter_met starts before e is h =
    let path : sema_entries (before ++ e ∷ []) ≡ sema_entries before ++ e ∷ [] = sema_append before (e ∷ [])
    ∙ ap (λ z. sema_entries before ++ z) is.0 in
    let whole : IsLawful (start_of starts) (sema_entries before ++ e ∷ []) = subst (IsLawful (start_of starts)) path h.0 in
    record {
      stands = stands_last (Stands (start_of starts)) (sema_entries before) e whole.0;
      queued_once = λ w. omega (arith, (whole.1 w).0, queued_append w (sema_entries before) (e ∷ []));
      left_once = λ w. omega (arith, (whole.1 w).1, left_append w (sema_entries before) (e ∷ []), withdrawn_append w (sema_entries before) (e ∷ []));
    }

counter_more : (starts : List ℕ) (before : List Entry) (e : Entry) → IsOfCounter e → IsLawfulJournal starts before → Met starts before e
    → IsLawfulJournal starts (before ++ e ∷ [])
counter_more starts before e is h m =
    let path : sema_entries (before ++ e ∷ []) ≡ sema_entries before ++ e ∷ [] = sema_append before (e ∷ [])
    ∙ ap (λ z. sema_entries before ++ z) is.0 in (
      subst (IsLawful (start_of starts)) (sym path) (
        stands_more (Stands (start_of starts)) (sema_entries before) e h.0.0 m.stands,
        (λ w. (
          omega (arith, m.queued_once w, queued_append w (sema_entries before) (e ∷ [])),
          omega (arith, m.left_once w, left_append w (sema_entries before) (e ∷ []), withdrawn_append w (sema_entries before) (e ∷ [])),
        )),
      ),
      (λ l. subst list.Follows
          (sym (list_append l before (e ∷ []) ∙ ap (λ z. list_entries l before ++ z) (is.1 l) ∙ append-nil (list_entries l before))) (h.1 l)),
    )

list_met : (starts : List ℕ) (before : List Entry) (e : Entry) (m : ℕ) (x : ListEntry) → IsOfList e m x → IsLawfulJournal starts (before ++ e ∷ [])
    → ListStands x (list_entries m before)
list_met starts before e m x is h =
    let mine : cond (eqb m m) (x ∷ []) [] ≡ x ∷ [] = ap (λ (b : Bool). cond b (x ∷ []) []) (eq-eqb m m refl) in
    stands_last ListStands (list_entries m before) x
    (subst list.Follows (list_append m before (e ∷ []) ∙ ap (λ z. list_entries m before ++ z) (is.1 m ∙ mine)) (h.1 m))

list_more : (starts : List ℕ) (before : List Entry) (e : Entry) (m : ℕ) (x : ListEntry) → IsOfList e m x → IsLawfulJournal starts before
    → ListStands x (list_entries m before)
    → IsLawfulJournal starts (before ++ e ∷ [])
list_more starts before e m x is h stands =
    let path : sema_entries (before ++ e ∷ []) ≡ sema_entries before = sema_append before (e ∷ []) ∙ ap (λ z. sema_entries before ++ z)
    is.0 ∙ append-nil (sema_entries before) in
    (subst (IsLawful (start_of starts)) (sym path) h.0, (λ l. by l (eqb m l) refl))
  where
    by : (l : ℕ) (b : Bool) → eqb m l ≡ b → list.Follows (list_entries l (before ++ e ∷ []))
    by l false q =
        subst list.Follows
        (sym (list_append l before (e ∷ []) ∙ ap (λ z. list_entries l before ++ z) (is.1 l ∙ ap (λ (b : Bool). cond b (x ∷ []) []) q)
        ∙ append-nil (list_entries l before))) (h.1 l)
    by l true q =
        let here : m ≡ l = eqb-true m l q in
        subst list.Follows
        (sym (list_append l before (e ∷ []) ∙ ap (λ z. list_entries l before ++ z) (is.1 l ∙ ap (λ (b : Bool). cond b (x ∷ []) []) q)))
        (stands_more ListStands (list_entries l before) x (h.1 l) (subst (λ (k : ℕ). ListStands x (list_entries k before)) here stands))

-- ---- the rules are broken by what doesn't stand

pub lawful_breaks_none : (starts : List ℕ) (before : List Entry) (e : Entry) → IsLawfulJournal starts (before ++ e ∷ []) → BreaksNone starts before e
lawful_breaks_none starts before (Take c s) h NoUnit b = let m = counter_met starts before (Take c s) (refl, λ l. refl) h in omega (arith, b, m.stands.0)
lawful_breaks_none starts before (Leave c w s) h NotFirst b =
    let m = counter_met starts before (Leave c w s) (refl, λ l. refl) h in b m.stands.0.0 m.stands.0.1
lawful_breaks_none starts before (Leave c w s) h NoRelease b = let m = counter_met starts before (Leave c w s) (refl, λ l. refl) h in b m.stands.1
lawful_breaks_none starts before (Leave c w s) h LeftTwice b =
    let m = counter_met starts before (Leave c w s) (refl, λ l. refl) h in omega (arith, b, m.left_once w, same_own w)
lawful_breaks_none starts before (Withdraw c w) h NotQueued b =
    let m = counter_met starts before (Withdraw c w) (refl, λ l. refl) h in omega (arith, b, m.stands.0)
lawful_breaks_none starts before (Withdraw c w) h LeftTwice b =
    let m = counter_met starts before (Withdraw c w) (refl, λ l. refl) h in omega (arith, b, m.left_once w, same_own w)
lawful_breaks_none starts before (Queue c w lifo) h QueuedTwice b = let m = counter_met starts before (Queue c w lifo) (refl, λ l. refl) h in
    omega (arith, b, m.queued_once w, same_own w)
lawful_breaks_none starts before (Grant l u s) h GrantedBefore b =
    let d = list_met starts before (Grant l u s) l (Granted u s) (refl, λ k. refl) h in omega (arith, b, d.0)
lawful_breaks_none starts before (Grant l u s) h NotHandedOut b =
    let d = list_met starts before (Grant l u s) l (Granted u s) (refl, λ k. refl) h in omega (arith, b, d.1)
lawful_breaks_none starts before (Forgo l n s) h PassedBefore b =
    let d = list_met starts before (Forgo l n s) l (Forgone n s) (refl, λ k. refl) h in omega (arith, b, d.0)
lawful_breaks_none starts before (Forgo l n s) h GoneBefore b =
    let d = list_met starts before (Forgo l n s) l (Forgone n s) (refl, λ k. refl) h in omega (arith, b, d.2)
lawful_breaks_none starts before (Forgo l n s) h NotHandedOut b =
    let d = list_met starts before (Forgo l n s) l (Forgone n s) (refl, λ k. refl) h in omega (arith, b, d.1)
lawful_breaks_none starts before (Add c s) h NoUnit b = b
lawful_breaks_none starts before (AddMany c k s) h NoUnit b = b
lawful_breaks_none starts before (Ticket l s) h NoUnit b = b
lawful_breaks_none starts before e h rule b = b

-- ---- what breaks none stands

pub first_or : (w : WaitId) (l : List WaitId) → ((m : List WaitId) × (l ≡ w ∷ m)) ⊎ ((m : List WaitId) → l ≢ w ∷ m)
first_or w [] = inr (λ m e. cc)
first_or w (x ∷ l) = by (cases_lt 0 (same w x))
  where
    by : (0 < same w x) ⊎ (same w x ≤ 0) → ((m : List WaitId) × (x ∷ l ≡ w ∷ m)) ⊎ ((m : List WaitId) → x ∷ l ≢ w ∷ m)
    by (inl some) = inl (l, ap (λ (y : WaitId). y ∷ l) (sym (same_some w x some)))
    by (inr none) = inr (λ m e. let head : x ≡ w = cc in let own = same_own w in let k : same w x ≡ same w w = ap (same w) head in omega arith)

owes_or : (s c : ℕ) (before : List Entry) → Owes s c 1 before ⊎ (Owes s c 1 before → ⊥)
owes_or s c before = by (cases_eq (budget s before).counter c) (cases_lt 0 (budget s before).units)
  where
    by : ((budget s before).counter ≡ c) ⊎ ((budget s before).counter ≡ c → ⊥) → (0 < (budget s before).units) ⊎ ((budget s before).units ≤ 0)
        → Owes s c 1 before ⊎ (Owes s c 1 before → ⊥)
    by (inl e) (inl some) = inl (e, omega arith)
    by (inr ne) u = inr (λ o. ne o.0)
    by (inl e) (inr none) = inr (λ o. omega (arith, o.1))

none_one : (n : ℕ) → (0 < n → ⊥) → n ≡ 0
none_one n h = omega arith

-- a count that was 0 for w is at most 1 after w
once : (count : WaitId → ℕ) (w x : WaitId) → count w ≡ 0 → count x ≤ 1 → count x + (same x w + 0) ≤ 1
once count w x none most = by (cases_lt 0 (same x w))
  where
    by : (0 < same x w) ⊎ (same x w ≤ 0) → count x + (same x w + 0) ≤ 1
    by (inl some) = let e = ap count (same_some x w some) in let m = same_most x w in omega arith
    by (inr apart) = omega arith

pub breaks_none_lawful : (starts : List ℕ) (before : List Entry) (e : Entry) → IsLawfulJournal starts before → BreaksNone starts before e
    → IsLawfulJournal starts (before ++ e ∷ [])
breaks_none_lawful starts before (Add c s) h n = counter_more starts before (Add c s) (refl, λ l. refl) h
    (record { stands = (tt, tt); queued_once = λ w. omega (arith, (h.0.1 w).0); left_once = λ w. omega (arith, (h.0.1 w).1) })
breaks_none_lawful starts before (AddMany c k s) h n =
    counter_more starts before (AddMany c k s) (refl, λ l. refl) h
    (record { stands = (tt, tt); queued_once = λ w. omega (arith, (h.0.1 w).0); left_once = λ w. omega (arith, (h.0.1 w).1) })
breaks_none_lawful starts before (Take c s) h n =
    let some : (plain_after starts before).numbers c ≡ 0 → ⊥ = n NoUnit in
    counter_more starts before (Take c s) (refl, λ l. refl) h
    (record { stands = (omega arith, tt); queued_once = λ w. omega (arith, (h.0.1 w).0); left_once = λ w. omega (arith, (h.0.1 w).1) })
breaks_none_lawful starts before (Queue c w lifo) h n =
    counter_more starts before (Queue c w lifo) (refl, λ l. refl) h (record {
      stands = (tt, tt);
      queued_once = λ x. once (λ y. queued y (sema_entries before)) w x (none_one (queued w (sema_entries before)) (n QueuedTwice)) (h.0.1 x).0;
      left_once = λ x. omega (arith, (h.0.1 x).1);
    })
breaks_none_lawful starts before (Leave c w s) h n =
    counter_more starts before (Leave c w s) (refl, λ l. refl) h (record {
      stands = (first (first_or w ((plain_after starts before).lists c)), owed (owes_or s c (sema_entries before)));
      queued_once = λ x. omega (arith, (h.0.1 x).0);
      left_once = λ x. let o = once (λ y. left y (sema_entries before) + withdrawn y (sema_entries before)) w x
          (none_one (left w (sema_entries before) + withdrawn w (sema_entries before)) (n LeftTwice)) (h.0.1 x).1 in omega (arith, o);
    })
  where
    first : (let l = (plain_after starts before).lists c in ((m : List WaitId) × (l ≡ w ∷ m)) ⊎ ((m : List WaitId) → l ≢ w ∷ m))
        → (m : List WaitId) × ((plain_after starts before).lists c ≡ w ∷ m)
    first (inl f) = f
    first (inr other) = absurd (n NotFirst other)

    owed : Owes s c 1 (sema_entries before) ⊎ (Owes s c 1 (sema_entries before) → ⊥) → Owes s c 1 (sema_entries before)
    owed (inl o) = o
    owed (inr none) = absurd (n NoRelease none)
breaks_none_lawful starts before (Withdraw c w) h n =
    let there : times w ((plain_after starts before).lists c) ≡ 0 → ⊥ = n NotQueued in
    counter_more starts before (Withdraw c w) (refl, λ l. refl) h (record {
      stands = (omega arith, tt);
      queued_once = λ x. omega (arith, (h.0.1 x).0);
      left_once = λ x. let o = once (λ y. left y (sema_entries before) + withdrawn y (sema_entries before)) w x
          (none_one (left w (sema_entries before) + withdrawn w (sema_entries before)) (n LeftTwice)) (h.0.1 x).1 in omega (arith, o);
    })
breaks_none_lawful starts before (Ticket l s) h n = list_more starts before (Ticket l s) l (Took s) (refl, λ k. refl) h tt
breaks_none_lawful starts before (Grant l u s) h n =
    let more : u ≤ (told_after before l).passed → ⊥ = n GrantedBefore in
    let out : (told_after before l).handed < u → ⊥ = n NotHandedOut in
    list_more starts before (Grant l u s) l (Granted u s) (refl, λ k. refl) h (omega arith, omega arith)
breaks_none_lawful starts before (Forgo l m s) h n =
    let left_over : m < (told_after before l).passed → ⊥ = n PassedBefore in
    let out : (told_after before l).handed ≤ m → ⊥ = n NotHandedOut in
    let there : 0 < among m (told_after before l).gone → ⊥ = n GoneBefore in
    list_more starts before (Forgo l m s) l (Forgone m s) (refl, λ k. refl) h (omega arith, omega arith, omega arith)

pub the_rules : TheRules
the_rules starts before entry h = (lawful_breaks_none starts before entry, breaks_none_lawful starts before entry h)
