use Rattle.std.proofs.Common.{◌≡◌, true, false, Option, Some, IsSomeAnd, sym, ap, ◌∙◌, subst}
use Rattle.sema_table.specs.Seats.{SeatModel}
use Rattle.sema_table.specs.Whole.{IsAcquired}
use Rattle.sync_parts.specs.Lock.{LockModel, lock_of, IsLock}
use Rattle.sync_parts.specs.Locking.{HasLocked}
use Rattle.sync_parts.specs.LockRows.{RunsAcquire}
use Rattle.sync_parts.proofs.Locks.{locked_keeps, locked}
use Rattle.sync_parts.proofs.sema_lock.SemaLock.lock_for.Goals as goal

pub unreachable-requires : goal.unreachable-requires
unreachable-requires g c =
    let i = c.self.inside in let s = c.self.invariant.mine in
    subst (λ (o : Option SeatModel). IsSomeAnd o (λ t. IsAcquired s i.counter false t)) c.in_default.is (c.acquire_for.ensures s c.self.invariant.seat_is)

pub invariant_of-self : goal.invariant_of-self
invariant_of-self g c =
    let i = c.self.inside in let s = c.self.invariant.mine in let t = c.in-Some.seat in
    let is : IsLock i.table.now (Some s) i.counter i.held = rw (← c.self.invariant.seat_is) c.self.invariant in
    let acquired : IsAcquired s i.counter false t
    = subst (λ (o : Option SeatModel). IsSomeAnd o (λ t. IsAcquired s i.counter false t)) c.in-Some.is (c.acquire_for.ensures s c.self.invariant.seat_is) in
    subst (λ (o : Option SeatModel). IsLock i.table.now o i.counter true) (sym c.in-Some.is)
    (locked_keeps i.table.now s t i.counter i.held is (sym c.taken.ensures.counted ∙ c.taken.ensures.taken) acquired)

pub returns-clause-rows : goal.returns-clause-rows
returns-clause-rows g c =
    let i = c.self.inside in let s = c.self.invariant.mine in let t = c.in-Some.seat in
    let seat_is : i.seat ≡ Some s = c.self.invariant.seat_is in
    let acquired : IsAcquired s i.counter false t
    = subst (λ (o : Option SeatModel). IsSomeAnd o (λ t. IsAcquired s i.counter false t)) c.in-Some.is (c.acquire_for.ensures s seat_is) in
    let was : lock_of i.table.now (Some s) i.counter i.held ≡ c.args.self.now = ap (λ x. lock_of i.table.now x i.counter i.held)
    (sym seat_is) ∙ c.self.view_is in
    subst (λ (o : Option SeatModel). RunsAcquire c.args.self.now (lock_of i.table.now o i.counter true)) (sym c.in-Some.is)
    (subst (λ (l : LockModel). RunsAcquire l (lock_of i.table.now (Some t) i.counter true)) was acquired)

pub returns-clause-caller : goal.returns-clause-caller
returns-clause-caller g c =
    let i = c.self.inside in let s = c.self.invariant.mine in let t = c.in-Some.seat in
    let seat_is : i.seat ≡ Some s = c.self.invariant.seat_is in
    let is : IsLock i.table.now (Some s) i.counter i.held = rw (← seat_is) c.self.invariant in
    let acquired : IsAcquired s i.counter false t
    = subst (λ (o : Option SeatModel). IsSomeAnd o (λ t. IsAcquired s i.counter false t)) c.in-Some.is (c.acquire_for.ensures s seat_is) in
    let was : lock_of i.table.now (Some s) i.counter i.held ≡ c.args.self.now = ap (λ x. lock_of i.table.now x i.counter i.held)
    (sym seat_is) ∙ c.self.view_is in
    let all : HasLocked (lock_of i.table.now (Some s) i.counter i.held) (lock_of i.table.now (Some t) i.counter true)
    = locked i.table.now s t i.counter i.held is (sym c.taken.ensures.counted ∙ c.taken.ensures.taken) acquired in
    subst (λ (o : Option SeatModel). HasLocked c.args.self.now (lock_of i.table.now o i.counter true)) (sym c.in-Some.is)
    (subst (λ (l : LockModel). HasLocked l (lock_of i.table.now (Some t) i.counter true)) was all)
