-- What a lock keeps by its calls.
use Rattle.std.proofs.Common.{◌≡◌, ℕ, ◌+◌, ◌<◌, Bool, true, false, [], ◌∷◌, ◌++◌, Some, refl, sym, ap, ◌∙◌, subst, arith}
use Rattle.step_table.specs.declared.entry.Entry.TheVariants.{Take}
use Rattle.step_table.specs.Journal.{takes}
use Rattle.sema_table.specs.declared.answers.Wake.{Wake}
use Rattle.sema_table.specs.Seats.{TableModel, SeatModel}
use Rattle.sema_table.specs.Whole.{IsAcquired, IsReleased}
use Rattle.sync_parts.specs.Lock.{uses, lock_of, IsLock}
use Rattle.sync_parts.specs.Locking.{HasLocked, HasUnlocked}
use Rattle.sync_parts.proofs.Calling.{uses_acquired, later_acquired, stays_acquired, uses_released, later_released, stays_released}

-- the seat is that which the lock keeps
pub kept : (z : TableModel) (s : SeatModel) (c : ℕ) (held : Bool) → IsLock z (Some s) c held → takes s.number s.sight.seen ≡ s.taken
kept z s c held is = let same : is.mine ≡ s = cc in subst (λ (x : SeatModel). takes x.number x.sight.seen ≡ x.taken) same is.counted

pub own_table : (z : TableModel) (s : SeatModel) (c : ℕ) (held : Bool) → IsLock z (Some s) c held → s.table ≡ z
own_table z s c held is = let same : is.mine ≡ s = cc in ap (λ (x : SeatModel). x.table) (sym same) ∙ is.own

module _ (z : TableModel) (s t : SeatModel) (c : ℕ) (held : Bool) (is : IsLock z (Some s) c held)
    (counted : takes t.number t.sight.seen ≡ t.taken) where
  module _ (acquired : IsAcquired s c false t) where
    one_more : takes s.number t.sight.seen ≡ takes s.number s.sight.seen + 1
    one_more =
        let stays = stays_acquired s t c acquired in
        ap (λ i. takes i t.sight.seen) (sym stays.number) ∙ counted ∙ stays.taken_is ∙ ap (λ n. n + 1) (sym (kept z s c held is))

    calls : uses c t.number t.sight.seen ≡ uses c s.number s.sight.seen ++ Take c s.number ∷ []
    calls =
        ap (λ i. uses c i t.sight.seen) (stays_acquired s t c acquired).number
        ∙ uses_acquired s t c one_more acquired

    pub locked_keeps : IsLock z (Some t) c true
    locked_keeps =
        let stays = stays_acquired s t c acquired in
        record {
          mine = t;
          seat_is = refl;
          own = stays.table ∙ own_table z s c held is;
          inside = is.inside;
          counted = counted;
          took = λ _. (uses c s.number s.sight.seen, calls ∙ ap (λ i. uses c s.number s.sight.seen ++ Take c i ∷ []) (sym stays.number));
        }

    pub locked : HasLocked (lock_of z (Some s) c held) (lock_of z (Some t) c true)
    locked =
        let stays = stays_acquired s t c acquired in
        record {
          called = record {
            table = stays.table;
            number = stays.number;
            counter = refl;
            later = later_acquired s t c one_more acquired;
            calls = calls;
          };
          left = stays.left_is;
          taken = stays.taken_is;
          held = refl;
        }

  module _ (wake : Wake) (released : IsReleased s c false t wake) where
    same_taken : takes s.number t.sight.seen ≡ takes s.number s.sight.seen
    same_taken =
        let stays = stays_released s t c wake released in
        ap (λ i. takes i t.sight.seen) (sym stays.number) ∙ counted ∙ stays.taken_is ∙ sym (kept z s c held is)

    pub unlocked : 0 < s.left → HasUnlocked (lock_of z (Some s) c held) (lock_of z (Some t) c false)
    unlocked some =
        let stays = stays_released s t c wake released in
        let fewer = stays.left_is in
        record {
          called = record {
            table = stays.table;
            number = stays.number;
            counter = refl;
            later = later_released s t c wake released;
            calls = ap (λ i. uses c i t.sight.seen) stays.number ∙ uses_released s t c wake same_taken released;
          };
          left = omega arith;
          taken = stays.taken_is;
          held = refl;
        }
