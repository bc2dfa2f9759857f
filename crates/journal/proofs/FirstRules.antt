-- The first rule by the account is the first rule.
use Rattle.std.proofs.Common.{◌≡◌, ℕ, ◌<◌, Bool, true, false, cond, eqb, nat_lt, List, [], ◌∷◌, Option, Some, None, refl, ap, inl, inr, eq-eqb, arith}
use Rattle.std.specs.Option.{MatchOption}
use Rattle.std.proofs.lemmas.Bool.{eqb-true, ltb-true, ltb-false, lt-ltb, and_parts, and_from}
use Rattle.waiters.specs.declared.wait.WaitId.{WaitId}
use Rattle.step_table.specs.declared.entry.Entry.{Entry}
use Rattle.step_table.specs.declared.entry.Entry.TheVariants.{Add, AddMany, Take, Queue, Leave, Withdraw, Ticket, Grant, Forgo}
use Rattle.step_table.specs.Core.{sema_entries}
use Rattle.step_table.specs.Journal.{Owes, budget, queued}
use Rattle.step_table.specs.Counting.{times, among}
use Rattle.step_table.specs.ListWorld.{is_gone}
use Rattle.step_table.proofs.Skipping.{Tells, gone_tells}
use Rattle.journal.specs.declared.rule.Rule.{Rule}
use Rattle.journal.specs.declared.rule.Rule.TheVariants.{NoUnit, NotFirst, NotQueued, GrantedBefore, PassedBefore, GoneBefore}
use Rattle.journal.specs.declared.rule.Rule.TheVariants.{NotHandedOut, QueuedTwice, LeftTwice, NoRelease}
use Rattle.journal.specs.LawfulJournal.{start_of, IsLawfulJournal, plain_after, told_after}
use Rattle.journal.specs.Rules.{Breaks, BreaksNone, BreaksFirst, rank}
use Rattle.journal.specs.Account.{account, begins, has_unit, first_broken}
use Rattle.journal.proofs.Accounts.{same_is, is_same_own}
use Rattle.journal.proofs.Entries.{same_own}
use Rattle.journal.proofs.Placing.{not_left}

-- the answer is the first rule that the entry breaks, or that it breaks none
abbrev pub Judged : List ℕ → List Entry → Entry → Option Rule → Type 0
Judged starts before e o = MatchOption o (BreaksNone starts before e) (λ rule. BreaksFirst starts before e rule)

differs : (b : Bool) → b ≡ true → b ≡ false → ⊥
differs b t f = cc

begins_is : (w : WaitId) (l : List WaitId) → begins w l ≡ true → (m : List WaitId) × (l ≡ w ∷ m)
begins_is w [] h = absurd cc
begins_is w (x ∷ l) h = (l, ap (λ (y : WaitId). y ∷ l) (same_is x w h))

is_begins : (w : WaitId) (l m : List WaitId) → l ≡ w ∷ m → begins w l ≡ true
is_begins w [] m e = absurd cc
is_begins w (x ∷ l) m e = let head : x ≡ w = cc in is_same_own x w head

first_counted : (w : WaitId) (l m : List WaitId) → l ≡ w ∷ m → 0 < times w l
first_counted w l m e = let k : times w l ≡ times w (w ∷ m) = ap (times w) e in omega (arith, same_own w)

gone_is : (n : ℕ) (gone : List ℕ) → is_gone n gone ≡ true → 0 < among n gone
gone_is n gone q = by (gone_tells n gone)
  where
    by : Tells n gone → 0 < among n gone
    by (inl r) = r.1
    by (inr r) = absurd (differs (is_gone n gone) q r.0)

gone_not : (n : ℕ) (gone : List ℕ) → is_gone n gone ≡ false → among n gone ≡ 0
gone_not n gone q = by (gone_tells n gone)
  where
    by : Tells n gone → among n gone ≡ 0
    by (inl r) = absurd (differs (is_gone n gone) r.0 q)
    by (inr r) = r.1

unit_is : (s c : ℕ) (before : List Entry) → has_unit (budget s before) c ≡ true → Owes s c 1 before
unit_is s c before h = let p = and_parts (eqb (budget s before).counter c) (nat_lt 0 (budget s before).units) h in
    let some = ltb-true 0 (budget s before).units p.1 in (eqb-true (budget s before).counter c p.0, omega arith)

is_unit : (s c : ℕ) (before : List Entry) → Owes s c 1 before → has_unit (budget s before) c ≡ true
is_unit s c before o = and_from (eqb (budget s before).counter c) (nat_lt 0 (budget s before).units) (eq-eqb (budget s before).counter c o.0)
    (lt-ltb 0 (budget s before).units (omega (arith, o.1)))

module _ (starts : List ℕ) (before : List Entry) where
  take_judged : (c s : ℕ) (b : Bool) → eqb ((plain_after starts before).numbers c) 0 ≡ b → Judged starts before (Take c s) (cond b (Some NoUnit) None)
  take_judged c s true q = record { broken = eqb-true ((plain_after starts before).numbers c) 0 q; first = λ r lt. absurd (omega arith) }
  take_judged c s false q = none
    where
      none : (r : Rule) → Breaks r starts before (Take c s) → ⊥
      none NoUnit b = differs (eqb ((plain_after starts before).numbers c) 0) (eq-eqb ((plain_after starts before).numbers c) 0 b) q
      none r b = b

  queue_judged : (c : ℕ) (w : WaitId) (lifo b : Bool) → nat_lt 0 (queued w (sema_entries before)) ≡ b
      → Judged starts before (Queue c w lifo) (cond b (Some QueuedTwice) None)
  queue_judged c w lifo true q = record { broken = ltb-true 0 (queued w (sema_entries before)) q; first = first }
    where
      first : (r : Rule) → rank r < 7 → Breaks r starts before (Queue c w lifo) → ⊥
      first QueuedTwice lt b = omega arith
      first r lt b = b
  queue_judged c w lifo false q = none
    where
      none : (r : Rule) → Breaks r starts before (Queue c w lifo) → ⊥
      none QueuedTwice b = differs (nat_lt 0 (queued w (sema_entries before))) (lt-ltb 0 (queued w (sema_entries before)) b) q
      none r b = b

  grant_judged : (l u s : ℕ) (b d : Bool) → nat_lt (told_after before l).passed u ≡ b → nat_lt (told_after before l).handed u ≡ d
      → Judged starts before (Grant l u s) (cond b (cond d (Some NotHandedOut) None) (Some GrantedBefore))
  grant_judged l u s false d q t = record { broken = ltb-false (told_after before l).passed u q; first = first }
    where
      first : (r : Rule) → rank r < 3 → Breaks r starts before (Grant l u s) → ⊥
      first GrantedBefore lt b = omega arith
      first NotHandedOut lt b = omega arith
      first r lt b = b
  grant_judged l u s true true q t = record { broken = ltb-true (told_after before l).handed u t; first = first }
    where
      first : (r : Rule) → rank r < 6 → Breaks r starts before (Grant l u s) → ⊥
      first GrantedBefore lt b = omega (arith, ltb-true (told_after before l).passed u q, b)
      first NotHandedOut lt b = omega arith
      first r lt b = b
  grant_judged l u s true false q t = none
    where
      none : (r : Rule) → Breaks r starts before (Grant l u s) → ⊥
      none GrantedBefore b = omega (arith, ltb-true (told_after before l).passed u q, b)
      none NotHandedOut b = omega (arith, ltb-false (told_after before l).handed u t, b)
      none r b = b

  leave_judged : (c : ℕ) (w : WaitId) (s : ℕ) (b d : Bool) → IsLawfulJournal starts before → begins w ((plain_after starts before).lists c) ≡ b
      → has_unit (budget s (sema_entries before)) c ≡ d
      → Judged starts before (Leave c w s) (cond b (cond d None (Some NoRelease)) (Some NotFirst))
  leave_judged c w s false d h q t = record {
    broken = λ m e. differs (begins w ((plain_after starts before).lists c)) (is_begins w ((plain_after starts before).lists c) m e) q;
    first = first;
  }
    where
      first : (r : Rule) → rank r < 1 → Breaks r starts before (Leave c w s) → ⊥
      first NotFirst lt b = omega arith
      first NoRelease lt b = omega arith
      first LeftTwice lt b = omega arith
      first r lt b = b
  leave_judged c w s true d h q t = by d t
    where
      seen : (m : List WaitId) × ((plain_after starts before).lists c ≡ w ∷ m)
      seen = begins_is w ((plain_after starts before).lists c) q

      by : (d : Bool) → has_unit (budget s (sema_entries before)) c ≡ d → Judged starts before (Leave c w s) (cond d None (Some NoRelease))
      by false t = record { broken = λ o. differs (has_unit (budget s (sema_entries before)) c) (is_unit s c (sema_entries before) o) t; first = first }
        where
          first : (r : Rule) → rank r < 9 → Breaks r starts before (Leave c w s) → ⊥
          first NotFirst lt b = b seen.0 seen.1
          first LeftTwice lt b = omega (arith, b, not_left w (λ k. (start_of starts).numbers k) (sema_entries before) c h.0 (first_counted w ((plain_after starts before).lists c) seen.0 seen.1))
          first NoRelease lt b = omega arith
          first r lt b = b
      by true t = none
        where
          none : (r : Rule) → Breaks r starts before (Leave c w s) → ⊥
          none NotFirst b = b seen.0 seen.1
          none LeftTwice b = omega (arith, b, not_left w (λ k. (start_of starts).numbers k) (sema_entries before) c h.0 (first_counted w ((plain_after starts before).lists c) seen.0 seen.1))
          none NoRelease b = b (unit_is s c (sema_entries before) t)
          none r b = b

  withdraw_judged : (c : ℕ) (w : WaitId) (b : Bool) → IsLawfulJournal starts before → nat_lt 0 (times w ((plain_after starts before).lists c)) ≡ b
      → Judged starts before (Withdraw c w) (cond b None (Some NotQueued))
  withdraw_judged c w false h q =
      let none = ltb-false 0 (times w ((plain_after starts before).lists c)) q in record { broken = omega arith; first = first }
    where
      first : (r : Rule) → rank r < 2 → Breaks r starts before (Withdraw c w) → ⊥
      first NotQueued lt b = omega arith
      first LeftTwice lt b = omega arith
      first r lt b = b
  withdraw_judged c w true h q = none
    where
      some : 0 < times w ((plain_after starts before).lists c)
      some = ltb-true 0 (times w ((plain_after starts before).lists c)) q

      none : (r : Rule) → Breaks r starts before (Withdraw c w) → ⊥
      none NotQueued b = omega (arith, some, b)
      none LeftTwice b = omega (arith, b, not_left w (λ k. (start_of starts).numbers k) (sema_entries before) c h.0 some)
      none r b = b

  forgo_judged : (l n s : ℕ) (b d t : Bool) → nat_lt n (told_after before l).passed ≡ b → is_gone n (told_after before l).gone ≡ d
      → nat_lt n (told_after before l).handed ≡ t
      → Judged starts before (Forgo l n s) (cond b (Some PassedBefore) (cond d (Some GoneBefore) (cond t None (Some NotHandedOut))))
  forgo_judged l n s true d t q g o = record { broken = ltb-true n (told_after before l).passed q; first = first }
    where
      first : (r : Rule) → rank r < 4 → Breaks r starts before (Forgo l n s) → ⊥
      first PassedBefore lt b = omega arith
      first GoneBefore lt b = omega arith
      first NotHandedOut lt b = omega arith
      first r lt b = b
  forgo_judged l n s false true t q g o = record { broken = gone_is n (told_after before l).gone g; first = first }
    where
      first : (r : Rule) → rank r < 5 → Breaks r starts before (Forgo l n s) → ⊥
      first PassedBefore lt b = omega (arith, ltb-false n (told_after before l).passed q, b)
      first GoneBefore lt b = omega arith
      first NotHandedOut lt b = omega arith
      first r lt b = b
  forgo_judged l n s false false false q g o = record { broken = ltb-false n (told_after before l).handed o; first = first }
    where
      first : (r : Rule) → rank r < 6 → Breaks r starts before (Forgo l n s) → ⊥
      first PassedBefore lt b = omega (arith, ltb-false n (told_after before l).passed q, b)
      first GoneBefore lt b = omega (arith, gone_not n (told_after before l).gone g, b)
      first NotHandedOut lt b = omega arith
      first r lt b = b
  forgo_judged l n s false false true q g o = none
    where
      none : (r : Rule) → Breaks r starts before (Forgo l n s) → ⊥
      none PassedBefore b = omega (arith, ltb-false n (told_after before l).passed q, b)
      none GoneBefore b = omega (arith, gone_not n (told_after before l).gone g, b)
      none NotHandedOut b = omega (arith, ltb-true n (told_after before l).handed o, b)
      none r b = b

  pub judged : (e : Entry) → IsLawfulJournal starts before → Judged starts before e (first_broken (account starts before) e)
  judged (Take c s) h = take_judged c s (eqb ((plain_after starts before).numbers c) 0) refl
  judged (Queue c w lifo) h = queue_judged c w lifo (nat_lt 0 (queued w (sema_entries before))) refl
  judged (Leave c w s) h = leave_judged c w s (begins w ((plain_after starts before).lists c)) (has_unit (budget s (sema_entries before)) c) h refl refl
  judged (Withdraw c w) h = withdraw_judged c w (nat_lt 0 (times w ((plain_after starts before).lists c))) h refl
  judged (Forgo l n s) h = forgo_judged l n s (nat_lt n (told_after before l).passed) (is_gone n (told_after before l).gone)
      (nat_lt n (told_after before l).handed) refl refl refl
  judged (Grant l u s) h = grant_judged l u s (nat_lt (told_after before l).passed u) (nat_lt (told_after before l).handed u) refl refl
  judged (Add c s) h = none
    where
      none : (r : Rule) → Breaks r starts before (Add c s) → ⊥
      none NoUnit b = b
      none r b = b
  judged (AddMany c n s) h = none
    where
      none : (r : Rule) → Breaks r starts before (AddMany c n s) → ⊥
      none NoUnit b = b
      none r b = b
  judged (Ticket l s) h = none
    where
      none : (r : Rule) → Breaks r starts before (Ticket l s) → ⊥
      none NoUnit b = b
      none r b = b
