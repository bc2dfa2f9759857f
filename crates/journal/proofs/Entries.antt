-- A journal and one entry more: what its parts, its replay and its counts become.
use Rattle.std.proofs.Common.{◌≡◌, ℕ, ◌+◌, ◌<◌, ◌≤◌, ◌⊎◌, Bool, true, false, cond, eqb, List, [], ◌∷◌, ◌++◌, refl, ap}
use Rattle.std.proofs.Common.{◌∙◌, append_assoc, inl, inr, arith}
use Rattle.waiters.specs.declared.wait.WaitId.{WaitId}
use Rattle.step_table.specs.declared.entry.Entry.{Entry}
use Rattle.step_table.specs.declared.entry.Entry.TheVariants.{Queue, Leave, Withdraw, Ticket, Grant, Forgo}
use Rattle.step_table.specs.Core.{sema_entries, list_entries}
use Rattle.step_table.specs.Counting.{on, same}
use Rattle.step_table.specs.Journal.{Plain, Budget, effect_of, replay, spent, budget_from, queued, left, withdrawn}
use Rattle.step_table.specs.ListWorld.{ListEntry, Took, Granted, Forgone}
use Rattle.step_table.proofs.Sums.{on_here, on_some, on_most}

-- ---- the parts

pub sema_append : (xs ys : List Entry) → sema_entries (xs ++ ys) ≡ sema_entries xs ++ sema_entries ys
sema_append [] ys = refl
sema_append (Ticket l s ∷ xs) ys = sema_append xs ys
sema_append (Grant l u s ∷ xs) ys = sema_append xs ys
sema_append (Forgo l n s ∷ xs) ys = sema_append xs ys
sema_append (e ∷ xs) ys = ap (λ z. e ∷ z) (sema_append xs ys)

chosen : (b : Bool) (x : ListEntry) (u v w : List ListEntry) → w ≡ u ++ v → cond b (x ∷ w) w ≡ cond b (x ∷ u) u ++ v
chosen true x u v w e = ap (λ z. x ∷ z) e
chosen false x u v w e = e

pub list_append : (l : ℕ) (xs ys : List Entry) → list_entries l (xs ++ ys) ≡ list_entries l xs ++ list_entries l ys
list_append l [] ys = refl
list_append l (Ticket m s ∷ xs) ys = chosen (eqb m l) (Took s) (list_entries l xs) (list_entries l ys) (list_entries l (xs ++ ys)) (list_append l xs ys)
list_append l (Grant m u s ∷ xs) ys = chosen (eqb m l) (Granted u s) (list_entries l xs) (list_entries l ys) (list_entries l (xs ++ ys)) (list_append l xs ys)
list_append l (Forgo m n s ∷ xs) ys = chosen (eqb m l) (Forgone n s) (list_entries l xs) (list_entries l ys) (list_entries l (xs ++ ys)) (list_append l xs ys)
list_append l (e ∷ xs) ys = list_append l xs ys

-- ---- replays and counts

pub replay_append : (x : Plain) (xs ys : List Entry) → replay x (xs ++ ys) ≡ replay (replay x xs) ys
replay_append x [] ys = refl
replay_append x (e ∷ xs) ys = replay_append (effect_of e x) xs ys

pub budget_append : (b : Budget) (s : ℕ) (xs ys : List Entry) → budget_from b s (xs ++ ys) ≡ budget_from (budget_from b s xs) s ys
budget_append b s [] ys = refl
budget_append b s (e ∷ xs) ys = budget_append (spent s e b) s xs ys

pub queued_append : (w : WaitId) (xs ys : List Entry) → queued w (xs ++ ys) ≡ queued w xs + queued w ys
queued_append w [] ys = omega arith
queued_append w (Queue c x lifo ∷ xs) ys = omega (arith, queued_append w xs ys)
queued_append w (e ∷ xs) ys = queued_append w xs ys

pub left_append : (w : WaitId) (xs ys : List Entry) → left w (xs ++ ys) ≡ left w xs + left w ys
left_append w [] ys = omega arith
left_append w (Leave c x s ∷ xs) ys = omega (arith, left_append w xs ys)
left_append w (e ∷ xs) ys = left_append w xs ys

pub withdrawn_append : (w : WaitId) (xs ys : List Entry) → withdrawn w (xs ++ ys) ≡ withdrawn w xs + withdrawn w ys
withdrawn_append w [] ys = omega arith
withdrawn_append w (Withdraw c x ∷ xs) ys = omega (arith, withdrawn_append w xs ys)
withdrawn_append w (e ∷ xs) ys = withdrawn_append w xs ys

-- ---- waits

pub same_own : (w : WaitId) → same w w ≡ 1
same_own w = rw (on_here w.turn 1) (on_here w.seat 1)

pub same_some : (w x : WaitId) → 0 < same w x → w ≡ x
same_some w x h =
    let a = on_some w.seat x.seat (on w.turn x.turn 1) h in
    let b = on_some w.turn x.turn 1 a.1 in
    (λ i. record { seat = a.0 i; turn = b.0 i })

pub same_most : (w x : WaitId) → same w x ≤ 1
same_most w x = omega (arith, on_most w.seat x.seat (on w.turn x.turn 1), on_most w.turn x.turn 1)

-- ---- facts of each entry where it stands

module _ {E : Type 0} (D : E → List E → Type 0) where
  abbrev pub EachStands : List E → Type 0
  EachStands journal = (before after : List E) (e : E) → journal ≡ before ++ e ∷ after → D e before

  -- the entry e behind `before` is within the journal j, or is the one after it
  abbrev IsWithinOrLast : List E → E → List E → E → Type 0
  IsWithinOrLast j x before e = ((rest : List E) × (j ≡ before ++ e ∷ rest)) ⊎ ((before ≡ j) × (e ≡ x))

  snoc_split : (j before after : List E) (x e : E) → j ++ x ∷ [] ≡ before ++ e ∷ after → IsWithinOrLast j x before e
  snoc_split [] [] after x e q = inr (refl, cc)
  snoc_split [] (b ∷ []) after x e q = absurd cc
  snoc_split [] (b ∷ c ∷ before) after x e q = absurd cc
  snoc_split (y ∷ ys) [] after x e q = inl (ys, cc)
  snoc_split (y ∷ ys) (b ∷ bs) after x e q = more (snoc_split ys bs after x e cc)
    where
      more : IsWithinOrLast ys x bs e → IsWithinOrLast (y ∷ ys) x (b ∷ bs) e
      more (inl r) = let f = r.1 in inl (r.0, cc)
      more (inr r) = let f = r.0 in inr (cc, r.1)

  pub stands_more : (j : List E) (x : E) → EachStands j → D x j → EachStands (j ++ x ∷ [])
  stands_more j x f d = λ before after e q. by before after e (snoc_split j before after x e q)
    where
      by : (before after : List E) (e : E) → IsWithinOrLast j x before e → D e before
      by before after e (inl r) = f before r.0 e r.1
      by before after e (inr r) = rw r.0 (rw r.1 d)

  pub stands_front : (xs ys : List E) → EachStands (xs ++ ys) → EachStands xs
  stands_front xs ys f = λ before after e q. f before (after ++ ys) e (ap (λ z. z ++ ys) q ∙ append_assoc before (e ∷ after) ys)

  pub stands_last : (j : List E) (x : E) → EachStands (j ++ x ∷ []) → D x j
  stands_last j x f = f j [] x refl
