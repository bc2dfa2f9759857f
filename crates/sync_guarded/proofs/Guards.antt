-- What a token is after each step of a guarded value.
use Rattle.std.specs.Bool.{MatchBool}
use Rattle.std.proofs.Common.{◌≡◌, ◌<◌, Bool, true, false, Some, None, List, [], ◌∷◌, ◌++◌, refl, sym, ap, ◌∙◌, subst}
use Rattle.running_rows.specs.Strides.{Took, FoundHeld, here, runs_unlock}
use Rattle.running_rows.specs.Table as atomic
use mathlib.Core.Option as slot
use Rattle.sync_parts.specs.declared.locker_call.LockerCall.TheVariants as call
use Rattle.sync_guarded.specs.declared.view.GuardDeed.{GuardDeed}
use Rattle.sync_guarded.specs.declared.view.GuardDeed.TheVariants.{Locked, Unlocked, Looked}
use Rattle.sync_guarded.specs.declared.view.GuardCall.{GuardCall}
use Rattle.sync_guarded.specs.Rule.{Token, is_some, guard_rows}
use Rattle.sync_guarded.specs.Rule as rule
use Rattle.sync_guarded.specs.Seats.{GuardedModel, SeatModel, seat_of, lent_of, guard_of, IsGuard}
use Rattle.sync_guarded.specs.Calls.{locker_call, locker_calls, having_called, HasLocked, HasFoundHeld, HasUnlocked}
use Rattle.sync_guarded.proofs.Turns.{turn_locked, turn_unlocked, found_held, given_is}
use Rattle.sync_guarded.proofs.Keeping.{Me}

locker_more : {T : Type 0} (calls : List (GuardCall T)) (c : GuardCall T) → locker_calls (calls ++ c ∷ []) ≡ locker_calls calls ++ locker_call c.deed []
locker_more [] c = refl
locker_more {T} (d ∷ calls) c = by d.deed (locker_more calls c)
  where
    by : (deed : GuardDeed) → locker_calls (calls ++ c ∷ []) ≡ locker_calls calls ++ locker_call c.deed []
        → locker_call deed (locker_calls (calls ++ c ∷ [])) ≡ locker_call deed (locker_calls calls) ++ locker_call c.deed []
    by Locked rest = ap (λ l. call.Locked ∷ l) rest
    by Unlocked rest = ap (λ l. call.Unlocked ∷ l) rest
    by (Looked has held) rest = rest

-- as a locker has its calls, there is this one more
pub calls_more : {T : Type 0} (s t : SeatModel T) (c : GuardCall T) → t ≡ having_called s (c ∷ [])
    → locker_calls t.calls ≡ locker_calls s.calls ++ locker_call c.deed []
calls_more {T} s t c is = ap (λ (u : SeatModel T). locker_calls u.calls) is ∙ locker_more s.calls c

module _ {T : Type 0} (g : GuardedModel) (s t : Token T) where
  -- the token of a seat that made this call
  pub seat_after : (call : GuardCall T) → t.table_id ≡ s.table_id → t.me.0.own.number ≡ s.me.0.own.number
      → t.me.0.own.knows.seats ≡ s.me.0.own.knows.seats
      → t.me.0.own.gone ≡ s.me.0.own.gone ++ call ∷ [] → seat_of t ≡ having_called (seat_of s) (call ∷ [])
  seat_after call table number seats gone i = record {
    guarded = record { id = table i; seats = seats i };
    number = number i;
    calls = gone i;
  }

  module _ (is : IsGuard g s false) (table : t.table_id ≡ s.table_id) (took : Took (guard_rows {T = T}) here s.me t.me) where
    -- the value that was taken
    abbrev taken : T
    taken = took.1.1

    holds_it : t.me.0.own.knows.holds ≡ Some taken
    holds_it = took.1.3.1

    call_is : took.0.stride ≡ rule.locked taken
    call_is = turn_locked s.me.0.own.knows.holds took.0.stride t.me.0.own.knows.holds taken is.holds took.0.also holds_it

    out_is : t.me.1 ≡ (0, taken) ∷ []
    out_is = ap (λ (m : Me T). m.1) took.1.2 ∙ (λ i. (took.1.3.0 i, taken) ∷ is.out i)

    pub locked : HasLocked (guard_of s) (guard_of t)
    locked = record {
      value = taken;
      seat = seat_after (rule.locked taken) table took.0.same.0 took.0.same.1 (took.0.one ∙ ap (λ c. s.me.0.own.gone ++ c ∷ []) call_is);
      lent = ap lent_of out_is;
    }

    pub is_locked : IsGuard g t true
    is_locked = record {
      own = ap (λ (x : SeatModel T). x.guarded) locked.seat ∙ is.own;
      some = subst (λ n. 0 < n) (sym took.0.same.1) is.some;
      holds = ap is_some holds_it;
      out = (taken, out_is);
    }

  module _ (is : IsGuard g s false) (table : t.table_id ≡ s.table_id) (found : FoundHeld (guard_rows {T = T}) 0 s.me t.me) where
    -- the look was one of a seat without the lock, which was held
    look : (found.2.0.stride ≡ rule.looked false true) × (t.me.0.own.knows.holds ≡ None)
    look = found_held s.me.0.own.knows.holds found.2.0.stride t.me.0.own.knows.holds found.0 is.holds found.2.0.also found.2.0.did found.2.0.read found.1

    out_same : t.me.1 ≡ s.me.1
    out_same = ap (λ (m : Me T). m.1) found.2.1

    pub looked : HasFoundHeld (guard_of s) (guard_of t)
    looked = (
      seat_after (rule.looked false true) table found.2.0.same.0 found.2.0.same.1 (found.2.0.one ∙ ap (λ c. s.me.0.own.gone ++ c ∷ []) look.0),
      ap lent_of out_same,
    )

    pub is_free : IsGuard g t false
    is_free = record {
      own = ap (λ (x : SeatModel T). x.guarded) looked.0 ∙ is.own;
      some = subst (λ n. 0 < n) (sym found.2.0.same.1) is.some;
      holds = ap is_some look.1;
      out = out_same ∙ is.out;
    }

  -- a try took the lock, or found it held
  pub tried : (took : Bool) → IsGuard g s false → t.table_id ≡ s.table_id
      → MatchBool took (Took (guard_rows {T = T}) here s.me t.me) (FoundHeld (guard_rows {T = T}) 0 s.me t.me)
      → IsGuard g t took × MatchBool took (HasLocked (guard_of s) (guard_of t)) (HasFoundHeld (guard_of s) (guard_of t))
  tried true is table took = (is_locked is table took, locked is table took)
  tried false is table found = (is_free is table found, looked is table found)

  module _ (is : IsGuard g s true) (table : t.table_id ≡ s.table_id)
      (gave : runs_unlock (guard_rows {T = T}) (atomic.step 1 0 0 0 slot.none) s.me 0 t.me) where
    -- the value that was given back
    abbrev given : T
    given = is.out.0

    unlock_is : gave.1.stride ≡ rule.unlocked given
    unlock_is = given_is gave.1.stride s.me.1 given gave.2 is.out.1

    home_is : t.me.1 ≡ []
    home_is = ap (λ (m : Me T). m.1) gave.3 ∙ ap atomic.rest is.out.1

    pub unlocked : HasUnlocked (guard_of s) (guard_of t)
    unlocked = record {
      value = given;
      held = ap lent_of is.out.1;
      seat = seat_after (rule.unlocked given) table gave.1.same.0 gave.1.same.1 (gave.1.one ∙ ap (λ c. s.me.0.own.gone ++ c ∷ []) unlock_is);
      lent = ap lent_of home_is;
    }

    pub is_unlocked : IsGuard g t false
    is_unlocked = record {
      own = ap (λ (x : SeatModel T). x.guarded) unlocked.seat ∙ is.own;
      some = subst (λ n. 0 < n) (sym gave.1.same.1) is.some;
      holds = turn_unlocked s.me.0.own.knows.holds gave.1.stride t.me.0.own.knows.holds is.holds (ap (λ c. c.deed) unlock_is) gave.1.also;
      out = home_is;
    }
