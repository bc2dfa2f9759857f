use Rattle.std.proofs.Common.{ℕ, sym, ap, ◌∙◌, subst, arith}
use Rattle.notify_list.specs.Seats.{SeatModel, seat_of}
use Rattle.notify_list.specs.Leaving.{LeavesAtLock}
use Rattle.notify_list.specs.LeavingRows.{MayLeave, HasLocked}
use Rattle.notify_list.specs.Meeting.{FindsHeld}
use Rattle.notify_list.proofs.Owned.{own, low_word, owned}
use Rattle.notify_list.proofs.Futexes.{at_lock}
use Rattle.notify_list.proofs.Answering.{is_sound}
use Rattle.notify_list.proofs.Leaving.{may_leave_now, leave_owes, saw_held}
use Rattle.notify_list.proofs.LookingTogether.{word_seen, held_parked, finds_held}
use Rattle.notify_list.proofs.notify_list.NotifyList.try_leave_at_lock.Goals as goal

pub try_lock-requires : goal.try_lock-requires
try_lock-requires g c =
    let x = c.self.inside in let s = c.parked.inside.token in let n : ℕ = c.parked.inside.number in
    let K = may_leave_now s n _ c.parked.invariant (subst MayLeave (sym c.parked.view_is) c.requires.seat.1) in (
      omega arith,
      (
        owned x c.self.invariant s (own x s n c.self.view_is c.parked.view_is c.requires.seat.0),
        (low_word x c.self.invariant 2 (omega arith), (word_seen _ 2 tt, (at_lock x.words.table.shared.key, leave_owes c.args.self.now s n K _))),
      ),
    )

pub leave_locked-requires-clause-seat : goal.leave_locked-requires-clause-seat
leave_locked-requires-clause-seat g c =
    let s = c.parked.inside.token in let n : ℕ = c.parked.inside.number in (
      s,
      record {
        parked = may_leave_now s n _ c.parked.invariant (subst MayLeave (sym c.parked.view_is) c.requires.seat.1);
        list_is = ap (λ (y : SeatModel). y.list) c.parked.view_is ∙ c.requires.seat.0;
        took = c.if-try_lock.ensures.took;
        own = c.if-try_lock.ensures.own;
      },
    )

pub returns-then-try_lock-clause-rows : goal.returns-then-try_lock-clause-rows
returns-then-try_lock-clause-rows g c =
    let s = c.parked.inside.token in let n : ℕ = c.parked.inside.number in
    let h : HasLocked c.args.self.now s n c.try_lock.new.token = record {
      parked = may_leave_now s n _ c.parked.invariant (subst MayLeave (sym c.parked.view_is) c.requires.seat.1);
      list_is = ap (λ (y : SeatModel). y.list) c.parked.view_is ∙ c.requires.seat.0;
      took = c.if-try_lock.ensures.took;
      own = c.if-try_lock.ensures.own;
    } in
    subst (λ (y : SeatModel). LeavesAtLock y c.leave_locked.result) c.parked.view_is (c.leave_locked.ensures.rows s h)

pub invariant_of-result : goal.invariant_of-result
invariant_of-result g c =
    let s = c.parked.inside.token in let t = c.try_lock.new.token in let n : ℕ = c.parked.inside.number in
    held_parked s t n (saw_held s t c.if-try_lock.ensures.took c.if-try_lock.ensures.own) _ c.parked.invariant

pub returns-clause-rows : goal.returns-clause-rows
returns-clause-rows g c =
    let s = c.parked.inside.token in let t = c.try_lock.new.token in let n : ℕ = c.parked.inside.number in
    subst (λ (y : SeatModel). FindsHeld y (seat_of t n)) c.parked.view_is
    (finds_held s t n (saw_held s t c.if-try_lock.ensures.took c.if-try_lock.ensures.own) c.parked.invariant.token_is)

pub returns-clause-lawful : goal.returns-clause-lawful
returns-clause-lawful g c = (is_sound c.try_lock.new.token c.parked.inside.number (invariant_of-result g c).token_is).lawful
