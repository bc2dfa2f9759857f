-- What the account of a journal says of one entry more.
use Rattle.std.proofs.Common.{◌≡◌, ℕ, ◌+◌, ◌<◌, ◌≤◌, ◌⊎◌, Bool, true, false, eqb, nat_lt, ◌||◌, List, [], ◌∷◌, ◌++◌}
use Rattle.std.proofs.Common.{refl, sym, ap, ◌∙◌, inl, inr, eq-eqb}
use Rattle.std.proofs.Common.{arith}
use Rattle.std.proofs.lemmas.Bool.{cases_lt, eqb-true, and_parts, and_from, lt-ltb}
use Rattle.waiters.specs.declared.wait.WaitId.{WaitId}
use Rattle.step_table.specs.declared.entry.Entry.{Entry}
use Rattle.step_table.specs.declared.entry.Entry.TheVariants.{Add, AddMany, Take, Queue, Leave, Withdraw, Ticket, Grant, Forgo}
use Rattle.step_table.specs.Core.{sema_entries, list_entries}
use Rattle.step_table.specs.Counting.{same}
use Rattle.step_table.specs.Journal.{Plain, Budget, replay, effect_of, spent, budget, budget_from, queued, is_same}
use Rattle.step_law_lists.specs.ListLawful as list
use Rattle.step_law_lists.proofs.ListJournals.{replay_append as list_replay_append}
use Rattle.journal.specs.LawfulJournal.{start_of, plain_after, told_after}
use Rattle.journal.specs.Account.{account, after, queues}
use Rattle.journal.proofs.Entries.{sema_append, list_append, replay_append, budget_append, queued_append, same_own, same_some}

-- ---- waits

pub same_is : (w x : WaitId) → is_same w x ≡ true → w ≡ x
same_is w x h = let p = and_parts (eqb w.seat x.seat) (eqb w.turn x.turn) h in let s = eqb-true w.seat x.seat p.0 in let t = eqb-true w.turn x.turn p.1 in
    (λ i. record { seat = s i; turn = t i })

pub is_same_own : (w x : WaitId) → w ≡ x → is_same w x ≡ true
is_same_own w x e = and_from (eqb w.seat x.seat) (eqb w.turn x.turn) (eq-eqb w.seat x.seat (ap (λ (v : WaitId). v.seat) e))
    (eq-eqb w.turn x.turn (ap (λ (v : WaitId). v.turn) e))

-- ---- one entry more

-- that a wait was queued, after a count has grown
queued_by : (n m : ℕ) (b : Bool) → (b ≡ true → 0 < m) → (b ≡ false → m ≡ 0) → nat_lt 0 (n + m) ≡ b || nat_lt 0 n
queued_by n m true some none = let k = some refl in lt-ltb 0 (n + m) (omega arith)
queued_by n m false some none = ap (nat_lt 0) (omega (arith, none refl))

queued_more : (w : WaitId) (e : Entry) → (queues w e ≡ true → 0 < queued w (e ∷ [])) × (queues w e ≡ false → queued w (e ∷ []) ≡ 0)
queued_more w (Queue c x lifo) = (
  (λ h. let same_wait = same_is x w h in let k = ap (same w) same_wait in omega (arith, same_own w)),
  (λ h. none (cases_lt 0 (same w x)) h),
)
  where
    none : (0 < same w x) ⊎ (same w x ≤ 0) → is_same x w ≡ false → same w x + 0 ≡ 0
    none (inl some) h = let t = is_same_own x w (sym (same_some w x some)) in absurd cc
    none (inr no_more) h = omega arith
queued_more w (Add c s) = ((λ h. absurd cc), (λ h. refl))
queued_more w (AddMany c n s) = ((λ h. absurd cc), (λ h. refl))
queued_more w (Take c s) = ((λ h. absurd cc), (λ h. refl))
queued_more w (Leave c x s) = ((λ h. absurd cc), (λ h. refl))
queued_more w (Ticket l s) = ((λ h. absurd cc), (λ h. refl))
queued_more w (Grant l u s) = ((λ h. absurd cc), (λ h. refl))
queued_more w (Withdraw c x) = ((λ h. absurd cc), (λ h. refl))
queued_more w (Forgo l n s) = ((λ h. absurd cc), (λ h. refl))

-- of the entries of counters
plain_last : (starts : List ℕ) (before : List Entry) (e : Entry) → plain_after starts (before ++ e ∷ [])
    ≡ replay (plain_after starts before) (sema_entries (e ∷ []))
plain_last starts before e =
    ap (replay (start_of starts)) (sema_append before (e ∷ [])) ∙ replay_append (start_of starts) (sema_entries before) (sema_entries (e ∷ []))

told_last : (before : List Entry) (e : Entry) (l : ℕ) → told_after (before ++ e ∷ []) l ≡ list.replay (told_after before l) (list_entries l (e ∷ []))
told_last before e l = ap list.told (list_append l before (e ∷ [])) ∙ list_replay_append list.none_told
    (list_entries l before) (list_entries l (e ∷ []))

budget_last : (before : List Entry) (e : Entry) (s : ℕ) → budget s (sema_entries (before ++ e ∷ []))
    ≡ budget_from (budget s (sema_entries before)) s (sema_entries (e ∷ []))
budget_last before e s =
    ap (budget s) (sema_append before (e ∷ [])) ∙ budget_append (record { counter = 0; units = 0 }) s (sema_entries before) (sema_entries (e ∷ []))

-- an entry changes numbers, lists and budgets as its part of the journal does
one_plain : (x : Plain) (e : Entry) → replay x (sema_entries (e ∷ [])) ≡ effect_of e x
one_plain x (Ticket l s) = refl
one_plain x (Grant l u s) = refl
one_plain x (Forgo l n s) = refl
one_plain x e = refl

one_budget : (b : Budget) (s : ℕ) (e : Entry) → budget_from b s (sema_entries (e ∷ [])) ≡ spent s e b
unfolding spent
one_budget b s (Ticket l t) = refl
one_budget b s (Grant l u t) = refl
one_budget b s (Forgo l n t) = refl
one_budget b s e = refl

one_queued : (w : WaitId) (e : Entry) → queued w (sema_entries (e ∷ [])) ≡ queued w (e ∷ [])
one_queued w (Ticket l s) = refl
one_queued w (Grant l u s) = refl
one_queued w (Forgo l n s) = refl
one_queued w e = refl

pub account_last : (starts : List ℕ) (before : List Entry) (e : Entry) → account starts (before ++ e ∷ []) ≡ after (account starts before) e
account_last starts before e =
    let plain_is : plain_after starts (before ++ e ∷ []) ≡ effect_of e (plain_after starts before) = plain_last starts before e
    ∙ one_plain (plain_after starts before) e in
    let budget_is : (s : ℕ) → budget s (sema_entries (before ++ e ∷ [])) ≡ spent s e (budget s (sema_entries before)) = λ s. budget_last before e s
    ∙ one_budget (budget s (sema_entries before)) s e in
    let queued_is : (w : WaitId) → nat_lt 0 (queued w (sema_entries (before ++ e ∷ []))) ≡ queues w e || nat_lt 0 (queued w (sema_entries before)) =
    λ w. ap (λ (es : List Entry). nat_lt 0 (queued w es)) (sema_append before (e ∷ []))
    ∙ ap (nat_lt 0) (queued_append w (sema_entries before) (sema_entries (e ∷ []))
    ∙ ap (λ (n : ℕ). queued w (sema_entries before) + n) (one_queued w e))
    ∙ queued_by (queued w (sema_entries before)) (queued w (e ∷ [])) (queues w e) (queued_more w e).0 (queued_more w e).1 in
    (λ i. record {
      numbers = (plain_is i).numbers;
      lists = (plain_is i).lists;
      told = λ l. told_last before e l i;
      budgets = λ s. budget_is s i;
      queued = λ w. queued_is w i;
    })
