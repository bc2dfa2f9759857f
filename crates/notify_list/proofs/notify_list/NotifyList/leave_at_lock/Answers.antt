use Rattle.std.proofs.Common.{ℕ, sym, ap, ◌∙◌, subst, arith}
use Rattle.notify_list.specs.Seats.{SeatModel}
use Rattle.notify_list.specs.Leaving.{LeavesAtLock}
use Rattle.notify_list.specs.LeavingRows.{MayLeave, HasLocked}
use Rattle.notify_list.proofs.Owned.{own, low_word, owned, lock_futex}
use Rattle.notify_list.proofs.Leaving.{may_leave_now, leave_owes}
use Rattle.notify_list.proofs.notify_list.NotifyList.leave_at_lock.Goals as goal

pub take_lock-requires : goal.take_lock-requires
take_lock-requires g c =
    let x = c.self.inside in let s = c.parked.inside.token in let n : ℕ = c.parked.inside.number in
    let K = may_leave_now s n _ c.parked.invariant (subst MayLeave (sym c.parked.view_is) c.requires.1) in
    let futex = lock_futex x c.self.view_is c.sleepers_word.ensures.at c.sleepers_word.ensures.low in (
      omega arith,
      (
        owned x c.self.invariant s (own x s n c.self.view_is c.parked.view_is c.requires.0),
        ((low_word x c.self.invariant 2 (omega arith), futex.0), (futex.1, leave_owes c.args.self.now s n K _)),
      ),
    )

pub leave_locked-requires-clause-seat : goal.leave_locked-requires-clause-seat
leave_locked-requires-clause-seat g c =
    let s = c.parked.inside.token in let n : ℕ = c.parked.inside.number in (
      s,
      record {
        parked = may_leave_now s n _ c.parked.invariant (subst MayLeave (sym c.parked.view_is) c.requires.1);
        list_is = ap (λ (y : SeatModel). y.list) c.parked.view_is ∙ c.requires.0;
        took = c.take_lock.ensures.took;
        own = c.take_lock.ensures.own;
      },
    )

pub returns-clause-rows : goal.returns-clause-rows
returns-clause-rows g c =
    let s = c.parked.inside.token in let n : ℕ = c.parked.inside.number in
    let h : HasLocked c.args.self.now s n c.take_lock.new.token = record {
      parked = may_leave_now s n _ c.parked.invariant (subst MayLeave (sym c.parked.view_is) c.requires.1);
      list_is = ap (λ (y : SeatModel). y.list) c.parked.view_is ∙ c.requires.0;
      took = c.take_lock.ensures.took;
      own = c.take_lock.ensures.own;
    } in
    subst (λ (y : SeatModel). LeavesAtLock y c.leave_locked.result) c.parked.view_is (c.leave_locked.ensures.rows s h)
