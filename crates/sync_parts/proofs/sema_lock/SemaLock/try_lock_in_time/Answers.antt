use Rattle.std.proofs.Common.{◌≡◌, ℕ, Bool, false, Option, Some, IsSomeAnd, MatchBool, sym, ap, ◌∙◌, subst}
use Rattle.sema_table.specs.declared.answers.Acquired.TheVariants.{Taken, TimedOut}
use Rattle.sema_table.specs.Seats.{SeatModel}
use Rattle.sema_table.specs.CallersTimed.{AcquiresInTime}
use Rattle.sync_parts.specs.Lock.{LockModel, lock_of, IsLock}
use Rattle.sync_parts.specs.Locking.{HasLockedInTime, HasTimedOut}
use Rattle.sync_parts.proofs.LocksInTime.{keeps_in_time, ends_in_time}
use Rattle.sync_parts.proofs.sema_lock.SemaLock.try_lock_in_time.Goals as goal

abbrev Ended : SeatModel → SeatModel → (c : ℕ) → Bool → Type 0
Ended s t c took = MatchBool took (AcquiresInTime s c false (Taken t)) (AcquiresInTime s c false (TimedOut t))

pub unreachable-requires : goal.unreachable-requires
unreachable-requires g c =
    let i = c.self.inside in let s = c.self.invariant.mine in
    subst (λ (o : Option SeatModel). IsSomeAnd o (λ t. Ended s t i.counter c.acquire_in_time-took.result)) c.in_default.is
    (c.acquire_in_time-took.ensures s c.self.invariant.seat_is)

pub invariant_of-self : goal.invariant_of-self
invariant_of-self g c =
    let i = c.self.inside in let s = c.self.invariant.mine in let t = c.in-Some.seat in let took = c.acquire_in_time-took.result in
    let is : IsLock i.table.now (Some s) i.counter i.held = rw (← c.self.invariant.seat_is) c.self.invariant in
    let ended : Ended s t i.counter took
    = subst (λ (o : Option SeatModel). IsSomeAnd o (λ t. Ended s t i.counter took)) c.in-Some.is
    (c.acquire_in_time-took.ensures s c.self.invariant.seat_is) in
    subst (λ (o : Option SeatModel). IsLock i.table.now o i.counter took) (sym c.in-Some.is)
    (keeps_in_time i.table.now s t i.counter i.held is (sym c.taken.ensures.counted ∙ c.taken.ensures.taken) took ended)

pub returns : goal.returns
returns g c =
    let i = c.self.inside in let s = c.self.invariant.mine in let t = c.in-Some.seat in let took = c.acquire_in_time-took.result in
    let seat_is : i.seat ≡ Some s = c.self.invariant.seat_is in
    let is : IsLock i.table.now (Some s) i.counter i.held = rw (← seat_is) c.self.invariant in
    let ended : Ended s t i.counter took
    = subst (λ (o : Option SeatModel). IsSomeAnd o (λ t. Ended s t i.counter took)) c.in-Some.is (c.acquire_in_time-took.ensures s seat_is) in
    let was : lock_of i.table.now (Some s) i.counter i.held ≡ c.args.self.now = ap (λ x. lock_of i.table.now x i.counter i.held)
    (sym seat_is) ∙ c.self.view_is in
    subst (λ (o : Option SeatModel). MatchBool took (HasLockedInTime c.args.self.now (lock_of i.table.now o i.counter took))
    (HasTimedOut c.args.self.now (lock_of i.table.now o i.counter took))) (sym c.in-Some.is)
    (subst (λ (l : LockModel). MatchBool took (HasLockedInTime l (lock_of i.table.now (Some t) i.counter took))
    (HasTimedOut l (lock_of i.table.now (Some t) i.counter took))) was
    (ends_in_time i.table.now s t i.counter i.held is (sym c.taken.ensures.counted ∙ c.taken.ensures.taken) took ended))
