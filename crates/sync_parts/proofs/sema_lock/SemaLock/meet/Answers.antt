use Rattle.std.proofs.Common.{◌≡◌, Some, sym, ap, ◌∙◌, subst}
use Rattle.step_table.specs.declared.word.Word.TheVariants.{Counter}
use Rattle.sync_parts.specs.Lock.{LockModel, lock_of, IsLock}
use Rattle.sync_parts.specs.LockRows.{RunsMeet}
use Rattle.sync_parts.specs.Exclusion.{HaveMet}
use Rattle.sync_parts.proofs.Meeting.{looked_keeps, have_met}
use Rattle.sync_parts.proofs.sema_lock.SemaLock.meet.Goals as goal

pub invariant_of-self : goal.invariant_of-self
invariant_of-self c =
    let i = c.self.inside in let s = c.in-Some-Some.mine in
    let seat_is : i.seat ≡ Some s = cc in
    let is : IsLock i.table.now (Some s) i.counter i.held = rw (← seat_is) c.self.invariant in
    looked_keeps i.table.now s c.meet.new.one (Counter 0) c.meet.ensures.rows.number i.counter i.held is (sym c.taken.ensures.counted
    ∙ c.taken.ensures.taken) c.meet.ensures.rows.one_looked

pub invariant_of-other : goal.invariant_of-other
invariant_of-other c =
    let i = c.other.inside in let s = c.in-Some-Some.theirs in
    let seat_is : i.seat ≡ Some s = cc in
    let is : IsLock i.table.now (Some s) i.counter i.held = rw (← seat_is) c.other.invariant in
    looked_keeps i.table.now s c.meet.new.other (Counter 0) c.meet.ensures.rows.number i.counter i.held is
    (sym c.taken-2.ensures.counted ∙ c.taken-2.ensures.taken) c.meet.ensures.rows.other_looked

pub returns-clause-rows : goal.returns-clause-rows
returns-clause-rows c =
    let i = c.self.inside in let k = c.other.inside in let s = c.in-Some-Some.mine in let o = c.in-Some-Some.theirs in
    let t = c.meet.new.one in let u = c.meet.new.other in
    let mine : i.seat ≡ Some s = cc in
    let theirs : k.seat ≡ Some o = cc in
    let was : lock_of i.table.now (Some s) i.counter i.held ≡ c.args.self.now = ap (λ x. lock_of i.table.now x i.counter i.held)
    (sym mine) ∙ c.self.view_is in
    let its_was : lock_of k.table.now (Some o) k.counter k.held ≡ c.args.other.now = ap
    (λ x. lock_of k.table.now x k.counter k.held) (sym theirs) ∙ c.other.view_is in
    subst (λ (l : LockModel × LockModel). RunsMeet l.0 l.1 (lock_of i.table.now (Some t) i.counter i.held) (lock_of k.table.now
    (Some u) k.counter k.held)) (λ j. (was j, its_was j)) c.meet.ensures.rows

pub returns-clause-caller : goal.returns-clause-caller
returns-clause-caller c =
    let i = c.self.inside in let k = c.other.inside in let s = c.in-Some-Some.mine in let o = c.in-Some-Some.theirs in
    let t = c.meet.new.one in let u = c.meet.new.other in
    let mine : i.seat ≡ Some s = cc in
    let theirs : k.seat ≡ Some o = cc in
    let is : IsLock i.table.now (Some s) i.counter i.held = rw (← mine) c.self.invariant in
    let its : IsLock k.table.now (Some o) k.counter k.held = rw (← theirs) c.other.invariant in
    let was : lock_of i.table.now (Some s) i.counter i.held ≡ c.args.self.now = ap (λ x. lock_of i.table.now x i.counter i.held)
    (sym mine) ∙ c.self.view_is in
    let its_was : lock_of k.table.now (Some o) k.counter k.held ≡ c.args.other.now = ap
    (λ x. lock_of k.table.now x k.counter k.held) (sym theirs) ∙ c.other.view_is in
    let same : k.counter ≡ i.counter = ap (λ (l : LockModel). l.counter) its_was ∙ c.requires.1
    ∙ sym (ap (λ (l : LockModel). l.counter) was) in
    subst (λ (l : LockModel × LockModel). HaveMet l.0 l.1 (lock_of i.table.now (Some t) i.counter i.held) (lock_of k.table.now
    (Some u) k.counter k.held)) (λ j. (was j, its_was j))
    (have_met i.table.now k.table.now s o t u i.counter k.counter i.held k.held is its
    (sym c.taken.ensures.counted ∙ c.taken.ensures.taken) (sym c.taken-2.ensures.counted ∙ c.taken-2.ensures.taken) same c.meet.ensures.rows)
