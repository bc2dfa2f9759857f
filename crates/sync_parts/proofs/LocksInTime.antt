-- What a lock keeps that was tried until a time.
use Rattle.std.proofs.Common.{◌≡◌, ◌⊎◌, ℕ, zero, suc, ◌+◌, ◌≤◌, Bool, true, false, List, [], ◌∷◌, ◌++◌, map, Some, refl, sym, ap, ◌∙◌, subst}
use Rattle.std.proofs.Common.{MatchBool, inl, inr, arith, append-nil, append_assoc}
use Rattle.std.specs.List.{All}
use Rattle.std.proofs.lemmas.List.Elements.{filter-append, All-head, All-tail}
use Rattle.waiters.specs.declared.wait.WaitId.{WaitId}
use Rattle.step_table.specs.declared.entry.Entry.{Entry}
use Rattle.step_table.specs.declared.entry.Entry.TheVariants.{Take, Queue, Leave, Withdraw}
use Rattle.step_table.specs.Journal.{takes}
use Rattle.step_table.specs.Path.{GoesOn}
use Rattle.step_table.proofs.Paths.{goes_on_more}
use Rattle.step_law_semaphores.specs.SemaPath.{is_own}
use Rattle.sema_table.specs.declared.answers.Acquired.TheVariants.{Taken, TimedOut}
use Rattle.sema_table.specs.Seats.{TableModel, SeatModel}
use Rattle.sema_table.specs.Calls.{TellsIn, plain_seen}
use Rattle.sema_table.specs.Callers.{IsSeatAfter, FindsNoUnit, WaitsForUnit}
use Rattle.sema_table.specs.CallersTimed.{QueuesUpTo, AcquiresInTime}
use Rattle.sema_table.proofs.After.{after_then}
use Rattle.sync_parts.specs.Lock.{uses, lock_of, IsLock}
use Rattle.sync_parts.specs.Locking.{HasLockedInTime, HasTimedOut}
use Rattle.sync_parts.proofs.Calling.{Sees}
use Rattle.sync_parts.proofs.Locks.{kept, own_table}
use Rattle.sync_parts.proofs.Uses.{gifts, TakenLast, uses_told, uses_taken, told_last}

goes_on : (seen told now : List Entry) → TellsIn seen told now → GoesOn now seen
goes_on seen [] now tells = tells
goes_on seen (e ∷ told) now tells =
    goes_on_more seen ((seen ++ tells.0) ++ e ∷ []) now (record { more = tells.0 ++ e ∷ []; is = append_assoc seen tells.0 (e ∷ []) })
    (goes_on ((seen ++ tells.0) ++ e ∷ []) told now tells.1)

sees_after : (s t : SeatModel) (spent given : ℕ) (told : List Entry) → IsSeatAfter s spent given told t
    → Sees s.number s.sight.seen t.sight.seen told
sees_after s t spent given told after = record {
  later = goes_on s.sight.seen told t.sight.seen after.tells;
  owns = after.own ∙ filter-append (is_own s.number) s.sight.seen told;
}

last_has : (P : WaitId → Type 0) (before : List WaitId) (w : WaitId) → All P (before ++ w ∷ []) → P w
last_has P [] w all = All-head P w [] all
last_has P (x ∷ before) w all = last_has P before w (All-tail P x (before ++ w ∷ []) all)

-- what the seat told: waits that it queued, and then this
abbrev queueing : ℕ → Bool → List WaitId → List Entry
queueing c lifo waits = map (λ x. Queue c x lifo) waits

gifts_waits : (c i d : ℕ) (lifo : Bool) (waits : List WaitId) (rest : List Entry) → gifts c i rest ≡ [] → gifts c i (queueing d lifo waits ++ rest) ≡ []
gifts_waits c i d lifo [] rest none = none
gifts_waits c i d lifo (w ∷ waits) rest none = gifts_waits c i d lifo waits rest none

-- it has told this, of which nothing adds to c, and spent at most one unit
pub record ToldInTime (c : ℕ) (s : SeatModel) (given : ℕ) (t : SeatModel) : Type 0 where
  pub spent : ℕ
  pub few : spent ≤ 1
  pub told : List Entry
  pub after : IsSeatAfter s spent given told t
  pub none : gifts c s.number told ≡ []

-- and a unit of c was the last that was taken for it, if no more than one was
abbrev TookInTime : ℕ → SeatModel → SeatModel → Type 0
TookInTime c s t = ToldInTime c s 1 t
    × (takes s.number t.sight.seen ≤ takes s.number s.sight.seen + 1 → TakenLast c s.number t.sight.seen)

module _ (s t : SeatModel) (c : ℕ) (lifo : Bool) where
  -- its own take came last
  own_take : (spent : ℕ) (told : List Entry) → spent ≤ 1 → gifts c s.number (told ++ Take c s.number ∷ []) ≡ []
      → IsSeatAfter s spent 1 (told ++ Take c s.number ∷ []) t → TookInTime c s t
  own_take spent told few none after = (
    record { spent = spent; few = few; told = told ++ Take c s.number ∷ []; after = after; none = none },
    λ once. told_last c s.number s.sight.seen told t.sight.seen after.tells once,
  )

  module _ (u : SeatModel) (found : FindsNoUnit s c u) where
    number : u.number ≡ s.number
    number = found.0.number

    since : (spent given : ℕ) (told : List Entry) → IsSeatAfter u spent given told t → IsSeatAfter s spent given told t
    since spent given told after = subst (λ (q : ℕ × ℕ). IsSeatAfter s q.0 q.1 told t) (λ i. (plus spent i, plus given i))
        (after_then s u t 0 spent 0 given [] told found.0 after)
      where
        plus : (n : ℕ) → 0 + n ≡ n
        plus n = omega arith

    waited : WaitsForUnit u c lifo t → TookInTime c s t
    waited (waits, all, inl after) =
        own_take 0 (queueing c lifo waits) (omega arith) (gifts_waits c s.number c lifo waits (Take c s.number ∷ []) refl)
        (since 0 1 (queueing c lifo waits ++ Take c s.number ∷ [])
        (subst (λ i. IsSeatAfter u 0 1 (queueing c lifo waits ++ Take c i ∷ []) t) number after))
    waited (waits, all, inr (after, (before, w, last, unit))) = (
      record {
        spent = 0;
        few = omega arith;
        told = queueing c lifo waits;
        after = since 0 1 (queueing c lifo waits) after;
        none = ap (gifts c s.number) (sym (append-nil (queueing c lifo waits))) ∙ gifts_waits c s.number c lifo waits [] refl;
      },
      λ once. record {
        before = unit.1 ++ Leave c w unit.0 ∷ unit.2;
        after = unit.3;
        is = unit.4 ∙ sym (append_assoc unit.1 (Leave c w unit.0 ∷ unit.2) (Take c w.seat ∷ unit.3))
            ∙ ap (λ i. (unit.1 ++ Leave c w unit.0 ∷ unit.2) ++ Take c i ∷ unit.3) mine;
        last = ap (λ i. takes i unit.3) (sym mine) ∙ unit.6;
      },
    )
      where
        mine : w.seat ≡ s.number
        mine =
            last_has (λ (x : WaitId). x.seat ≡ u.number) before w (subst (All (λ (x : WaitId). x.seat ≡ u.number)) last all) ∙ number

    withdrew : (w : WaitId) (v : SeatModel) → QueuesUpTo u c lifo w 1 0 (Withdraw c w ∷ []) v → IsSeatAfter v 0 1 (Take c u.number ∷ []) t
        → TookInTime c s t
    withdrew w v (before, all, after) took = let waits = queueing c lifo (before ++ w ∷ []) in
        own_take 1 (waits ++ Withdraw c w ∷ []) (omega arith)
        (ap (gifts c s.number) (append_assoc waits (Withdraw c w ∷ []) (Take c s.number ∷ []))
        ∙ gifts_waits c s.number c lifo (before ++ w ∷ []) (Withdraw c w ∷ Take c s.number ∷ []) refl)
        (since 1 1 ((waits ++ Withdraw c w ∷ []) ++ Take c s.number ∷ [])
        (subst (λ i. IsSeatAfter u 1 1 ((waits ++ Withdraw c w ∷ []) ++ Take c i ∷ []) t) number
        (after_then u v t 1 0 0 1 (waits ++ Withdraw c w ∷ []) (Take c u.number ∷ []) after took)))

  took : AcquiresInTime s c lifo (Taken t) → TookInTime c s t
  took (inl after) = own_take 0 [] (omega arith) refl after
  took (inr (u, found, inl waits)) = waited u found waits
  took (inr (u, found, inr (v, (w, queues), after))) = withdrew u found w v queues after

  timed_out : AcquiresInTime s c lifo (TimedOut t) → ToldInTime c s 0 t × ((plain_seen t).numbers c ≡ 0)
  timed_out (inl found) = (record { spent = 0; few = omega arith; told = []; after = found.0; none = refl }, found.1)
  timed_out (inr (u, found, (v, inl (w, (before, all, after)), last))) = let waits = queueing c lifo (before ++ w ∷ []) in (
    record {
      spent = 1;
      few = omega arith;
      told = (waits ++ Withdraw c w ∷ []) ++ [];
      after = since u found 1 0 ((waits ++ Withdraw c w ∷ []) ++ []) (after_then u v t 1 0 0 0 (waits ++ Withdraw c w ∷ []) [] after last.0);
      none = ap (gifts c s.number) (append-nil (waits ++ Withdraw c w ∷ []))
          ∙ gifts_waits c s.number c lifo (before ++ w ∷ []) (Withdraw c w ∷ []) refl;
    },
    last.1,
  )
  timed_out (inr (u, found, (v, inr (w, left, (before, all, after)), last))) = let waits = queueing c lifo (before ++ w ∷ []) in (
    record {
      spent = 0;
      few = omega arith;
      told = (waits ++ []) ++ [];
      after = since u found 0 0 ((waits ++ []) ++ []) (after_then u v t 0 0 0 0 (waits ++ []) [] after last.0);
      none = ap (gifts c s.number) (append-nil (waits ++ [])) ∙ gifts_waits c s.number c lifo (before ++ w ∷ []) [] refl;
    },
    last.1,
  )

at_most_one : (spent left was : ℕ) → spent ≤ 1 → left + spent ≡ was → (left ≡ was) ⊎ (left + 1 ≡ was)
at_most_one zero left was few e = inl (omega arith)
at_most_one (suc zero) left was few e = inr e
at_most_one (suc (suc n)) left was few e = absurd (omega arith)

module _ (z : TableModel) (s t : SeatModel) (c : ℕ) (held : Bool) (is : IsLock z (Some s) c held)
    (counted : takes t.number t.sight.seen ≡ t.taken) where
  counts : (given : ℕ) → (x : ToldInTime c s given t) → takes s.number t.sight.seen ≡ takes s.number s.sight.seen + given
  counts given x =
      ap (λ i. takes i t.sight.seen) (sym x.after.number) ∙ counted ∙ x.after.taken ∙ ap (λ n. n + given) (sym (kept z s c held is))

  module _ (acquired : AcquiresInTime s c false (Taken t)) where
    abbrev x : TookInTime c s t
    x = took s t c false acquired

    abbrev sees : Sees s.number s.sight.seen t.sight.seen x.0.told
    sees = sees_after s t x.0.spent 1 x.0.told x.0.after

    calls : uses c t.number t.sight.seen ≡ uses c s.number s.sight.seen ++ Take c s.number ∷ []
    calls =
        ap (λ i. uses c i t.sight.seen) x.0.after.number
        ∙ uses_taken c s.number s.sight.seen t.sight.seen x.0.told sees.later sees.owns (counts 1 x.0) x.0.none
        (x.1 (let e = counts 1 x.0 in omega arith))

    pub in_time_keeps : IsLock z (Some t) c true
    in_time_keeps = record {
      mine = t;
      seat_is = refl;
      own = x.0.after.table ∙ own_table z s c held is;
      inside = is.inside;
      counted = counted;
      took = λ _. (uses c s.number s.sight.seen, calls ∙ ap (λ i. uses c s.number s.sight.seen ++ Take c i ∷ []) (sym x.0.after.number));
    }

    pub locked_in_time : HasLockedInTime (lock_of z (Some s) c held) (lock_of z (Some t) c true)
    locked_in_time = record {
      called = record { table = x.0.after.table; number = x.0.after.number; counter = refl; later = sees.later; calls = calls };
      left = at_most_one x.0.spent t.left s.left x.0.few x.0.after.left;
      taken = x.0.after.taken;
      held = refl;
    }

  module _ (acquired : AcquiresInTime s c false (TimedOut t)) where
    abbrev y : ToldInTime c s 0 t × ((plain_seen t).numbers c ≡ 0)
    y = timed_out s t c false acquired

    abbrev seen : Sees s.number s.sight.seen t.sight.seen y.0.told
    seen = sees_after s t y.0.spent 0 y.0.told y.0.after

    no_calls : uses c t.number t.sight.seen ≡ uses c s.number s.sight.seen
    no_calls =
        ap (λ i. uses c i t.sight.seen) y.0.after.number
        ∙ uses_told c s.number s.sight.seen t.sight.seen y.0.told seen.later seen.owns (let e = counts 0 y.0 in omega arith)
        ∙ ap (λ l. uses c s.number s.sight.seen ++ l) y.0.none ∙ append-nil (uses c s.number s.sight.seen)

    pub out_keeps : IsLock z (Some t) c false
    out_keeps = record {
      mine = t;
      seat_is = refl;
      own = y.0.after.table ∙ own_table z s c held is;
      inside = is.inside;
      counted = counted;
      took = λ e. cc;
    }

    pub out_in_time : HasTimedOut (lock_of z (Some s) c held) (lock_of z (Some t) c false)
    out_in_time = record {
      table = y.0.after.table;
      number = y.0.after.number;
      counter = refl;
      later = seen.later;
      calls = no_calls;
      left = at_most_one y.0.spent t.left s.left y.0.few y.0.after.left;
      taken = (let e = y.0.after.taken in omega arith);
      none = y.1;
      held = refl;
    }

  -- whichever it was
  module _ (took : Bool) (acquired : MatchBool took (AcquiresInTime s c false (Taken t)) (AcquiresInTime s c false (TimedOut t))) where
    pub keeps_in_time : IsLock z (Some t) c took
    keeps_in_time = by took acquired
      where
        by : (b : Bool) → MatchBool b (AcquiresInTime s c false (Taken t)) (AcquiresInTime s c false (TimedOut t)) → IsLock z (Some t) c b
        by true x = in_time_keeps x
        by false x = out_keeps x

    pub ends_in_time : MatchBool took (HasLockedInTime (lock_of z (Some s) c held) (lock_of z (Some t) c took))
        (HasTimedOut (lock_of z (Some s) c held) (lock_of z (Some t) c took))
    ends_in_time = by took acquired
      where
        by : (b : Bool) → MatchBool b (AcquiresInTime s c false (Taken t)) (AcquiresInTime s c false (TimedOut t))
            → MatchBool b (HasLockedInTime (lock_of z (Some s) c held) (lock_of z (Some t) c b))
            (HasTimedOut (lock_of z (Some s) c held) (lock_of z (Some t) c b))
        by true x = locked_in_time x
        by false x = out_in_time x
