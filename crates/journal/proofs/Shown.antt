-- What a ledger shows after a change.
use Rattle.std.proofs.Common.{Result, Ok, Err, ◌≡◌, ℕ, ◌-◌, ◌<◌, ◌⊎◌, List, [], ◌∷◌, ◌++◌, Bool, true, false, cond}
use Rattle.std.proofs.Common.{eqb, ◌||◌, map, length, get_or}
use Rattle.std.proofs.Common.{set, Option, Some, refl, sym, ap, subst, ◌∙◌, inl, inr, eq-eqb, ne_eqb, arith}
use Rattle.std.proofs.lemmas.List.{map_push, get_or-set_same, get_or-set_other}
use Rattle.std.specs.Prelude.{OnOk}
use Rattle.std.proofs.lemmas.Bool.{cases_eq}
use Rattle.waiters.specs.declared.wait.WaitId.{WaitId}
use Rattle.step_table.specs.declared.entry.Entry.TheVariants.{Add, AddMany, Leave}
use Rattle.step_table.specs.Journal.{spent}
use Rattle.step_table.specs.ListWorld.{Numbers, ListEntry}
use Rattle.step_table.specs.World.{put, insert_wait}
use Rattle.step_table.proofs.Sums.{put_here, put_else}
use Rattle.step_law_lists.specs.ListLawful as list
use Rattle.journal.specs.declared.entry.JournalWait.{JournalWait}
use Rattle.journal.specs.declared.budget.Budget.{Budget}
use Rattle.journal.specs.LawfulJournal.{wait_of}
use Rattle.journal.specs.Account.{Account, after}
use Rattle.journal.specs.Shown.{budget_of}

-- ---- a queue

pub front_put : (old new : List JournalWait) (w : JournalWait) (lifo : Bool) → lifo ≡ true → new ≡ w ∷ old
    → map wait_of new ≡ insert_wait lifo (wait_of w) (map wait_of old)
unfolding insert_wait
front_put old new w true q e = ap (map wait_of) e
front_put old new w false q e = absurd cc

pub back_put : (old new : List JournalWait) (w : JournalWait) (lifo : Bool) → lifo ≡ false → new ≡ old ++ w ∷ []
    → map wait_of new ≡ insert_wait lifo (wait_of w) (map wait_of old)
unfolding insert_wait
back_put old new w true q e = absurd cc
back_put old new w false q e = ap (map wait_of) e ∙ map_push wait_of old w

-- ---- one element of a list

pub at_put : {A : Type 0} (xs : List A) (i n : ℕ) (x d : A) → i < n → n ≡ length xs → (c : ℕ)
    → get_or (set xs i x) c d ≡ put (λ k. get_or xs k d) i x c
at_put {A} xs i n x d lt e c = by (cases_eq c i)
  where
    by : (c ≡ i) ⊎ (c ≡ i → ⊥) → get_or (set xs i x) c d ≡ put (λ k. get_or xs k d) i x c
    by (inl q) =
        subst (λ (k : ℕ). get_or (set xs i x) k d ≡ put (λ k. get_or xs k d) i x k) (sym q)
        (get_or-set_same xs i x d (omega arith) ∙ sym (put_here (λ k. get_or xs k d) i x))
    by (inr ne) = get_or-set_other xs i c x d ne ∙ sym (put_else (λ k. get_or xs k d) i x c ne)

-- ---- the tickets of a list

pub tickets_put : (ts : List Numbers) (i n : ℕ) (t d : Numbers) (x : ListEntry) → i < n → n ≡ length ts
    → t ≡ list.counted x (get_or ts i d)
    → (k : ℕ) → get_or (set ts i t) k d ≡ list.replay (get_or ts k d) (cond (eqb i k) (x ∷ []) [])
tickets_put ts i n t d x lt e is k = by (cases_eq i k)
  where
    by : (i ≡ k) ⊎ (i ≡ k → ⊥) → get_or (set ts i t) k d ≡ list.replay (get_or ts k d) (cond (eqb i k) (x ∷ []) [])
    by (inl q) =
        subst (λ (m : ℕ). get_or (set ts i t) m d ≡ list.replay (get_or ts m d) (cond (eqb i m) (x ∷ []) [])) q
        (get_or-set_same ts i t d (omega arith) ∙ is
        ∙ ap (λ (b : Bool). list.replay (get_or ts i d) (cond b (x ∷ []) [])) (sym (eq-eqb i i refl)))
    by (inr ne) =
        get_or-set_other ts i k t d (λ q. ne (sym q))
        ∙ ap (λ (b : Bool). list.replay (get_or ts k d) (cond b (x ∷ []) [])) (sym (ne_eqb i k ne))

-- ---- what a seat may let out

pub budget_put : (old new : ℕ → Option Budget) (s : ℕ) (v : Budget) → ((k : ℕ) → new k ≡ cond (eqb s k) (Some v) (old k))
    → (k : ℕ) → budget_of (new k) ≡ spent k (AddMany v.counter v.units s) (budget_of (old k))
unfolding spent
budget_put old new s v is k = by (cases_eq s k)
  where
    by : (s ≡ k) ⊎ (s ≡ k → ⊥) → budget_of (new k) ≡ cond (eqb k s) (record { counter = v.counter; units = v.units }) (budget_of (old k))
    by (inl q) = ap budget_of (is k ∙ ap (λ (b : Bool). cond b (Some v) (old k)) (eq-eqb s k q))
        ∙ ap (λ (b : Bool). cond b (record { counter = v.counter; units = v.units }) (budget_of (old k))) (sym (eq-eqb k s (sym q)))
    by (inr ne) = ap budget_of (is k ∙ ap (λ (b : Bool). cond b (Some v) (old k)) (ne_eqb s k ne))
        ∙ ap (λ (b : Bool). cond b (record { counter = v.counter; units = v.units }) (budget_of (old k))) (sym (ne_eqb k s (λ q. ne (sym q))))

pub budget_less : (old new : ℕ → Option Budget) (s c : ℕ) (w : WaitId) (v : Budget) → ((k : ℕ) → new k ≡ cond (eqb s k) (Some v) (old k))
    → v.counter ≡ (budget_of (old s)).counter → v.units ≡ (budget_of (old s)).units - 1
    → (k : ℕ) → budget_of (new k) ≡ spent k (Leave c w s) (budget_of (old k))
unfolding spent
budget_less old new s c w v is at less k = by (cases_eq s k)
  where
    by : (s ≡ k) ⊎ (s ≡ k → ⊥) → budget_of (new k)
        ≡ cond (eqb k s) (record (budget_of (old k)) { units = (budget_of (old k)).units - 1 }) (budget_of (old k))
    by (inl q) =
        ap budget_of (is k ∙ ap (λ (b : Bool). cond b (Some v) (old k)) (eq-eqb s k q))
        ∙ (λ i. record {
          counter = (at ∙ ap (λ (m : ℕ). (budget_of (old m)).counter) q) i;
          units = (less ∙ ap (λ (m : ℕ). (budget_of (old m)).units - 1) q) i;
        })
        ∙ ap (λ (b : Bool). cond b (record (budget_of (old k)) { units = (budget_of (old k)).units - 1 }) (budget_of (old k))) (sym (eq-eqb k s (sym q)))
    by (inr ne) =
        ap budget_of (is k ∙ ap (λ (b : Bool). cond b (Some v) (old k)) (ne_eqb s k ne))
        ∙ ap (λ (b : Bool). cond b (record (budget_of (old k)) { units = (budget_of (old k)).units - 1 }) (budget_of (old k)))
        (sym (ne_eqb k s (λ q. ne (sym q))))

-- ---- the waits that were queued

pub or_is : (b x : Bool) → cond b true x ≡ b || x
or_is true x = refl
or_is false x = refl

-- ---- one unit, and as many as one

pub add_one : (a : Account) (c s : ℕ) → after a (AddMany c 1 s) ≡ after a (Add c s)
unfolding spent
add_one a c s = refl

-- ---- before the first entry

-- ---- where a call succeeded

pub on_ok : {T E P Q : Type 0} (r : Result T E) → OnOk r P → (P → Q) → OnOk r Q
on_ok (Ok x) p f = f p
on_ok (Err e) p f = tt
