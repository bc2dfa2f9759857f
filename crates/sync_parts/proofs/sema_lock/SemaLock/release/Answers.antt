use Rattle.std.proofs.Common.{◌≡◌, ◌<◌, false, Some, sym, ap, ◌∙◌, subst}
use Rattle.sema_table.specs.Whole.{IsReleased}
use Rattle.sync_parts.specs.Lock.{LockModel, lock_of, IsLock}
use Rattle.sync_parts.specs.Locking.{HasUnlocked}
use Rattle.sync_parts.specs.LockRows.{RunsRelease}
use Rattle.sync_parts.proofs.Locks.{unlocked}
use Rattle.sync_parts.proofs.sema_lock.SemaLock.release.Goals as goal

pub returns-clause-rows : goal.returns-clause-rows
returns-clause-rows g c =
    let i = c.self.inside in let s = c.in-Some.seat in let t = c.in-Ok.seat in
    let seat_is : i.seat ≡ Some s = cc in
    let was : lock_of i.table.now (Some s) i.counter i.held ≡ c.args.self.now = ap (λ x. lock_of i.table.now x i.counter i.held)
    (sym seat_is) ∙ c.self.view_is in
    subst (λ (l : LockModel). RunsRelease l (lock_of i.table.now (Some t) i.counter false)) was
    (c.in-Ok.field-0-1, c.in-Ok.ensures.rows.1)

pub returns-clause-caller : goal.returns-clause-caller
returns-clause-caller g c =
    let i = c.self.inside in let s = c.in-Some.seat in let t = c.in-Ok.seat in let wake = c.in-Ok.field-0-1 in
    let seat_is : i.seat ≡ Some s = cc in
    let is : IsLock i.table.now (Some s) i.counter i.held = rw (← seat_is) c.self.invariant in
    let released : IsReleased s i.counter false t wake = c.in-Ok.ensures.rows.1 in
    let some : 0 < s.left = c.in-Ok.ensures.rows.0 in
    let was : lock_of i.table.now (Some s) i.counter i.held ≡ c.args.self.now = ap (λ x. lock_of i.table.now x i.counter i.held)
    (sym seat_is) ∙ c.self.view_is in
    subst (λ (l : LockModel). HasUnlocked l (lock_of i.table.now (Some t) i.counter false)) was
    (unlocked i.table.now s t i.counter i.held is (sym c.taken.ensures.counted ∙ c.taken.ensures.taken) wake released some)
