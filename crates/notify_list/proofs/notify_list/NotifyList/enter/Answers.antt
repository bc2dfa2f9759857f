use Rattle.std.proofs.Common.{◌≡◌, ℕ, ◌<◌, ◌++◌, [], ◌∷◌, length, true, false, refl, sym, ap, ◌∙◌, subst, arith}
use Rattle.step_table.specs.Wrapping.{word_of}
use Rattle.step_table.specs.ListTable.{wait_for}
use Rattle.notify_list.specs.Walks.{Edited}
use Rattle.notify_list.specs.Plays.{Me}
use Rattle.notify_list.specs.Seats.{ListModel, queue_of, guarded_of, with_queue}
use Rattle.notify_list.proofs.Owned.{low_word, owned, lock_futex, serves}
use Rattle.notify_list.proofs.Allowing.{goes_at}
use Rattle.notify_list.proofs.Recording.{list_edited, gives_plain, gives_edited}
use Rattle.notify_list.proofs.Queueing.{stands_locked, stands_looked, number_looked, record_looked, has_room, seat_at_once, waited_at_once}
use Rattle.notify_list.proofs.Queueing.{granted_at_once, seat_parked, queued_it, word_known, record_same, list_same, queued_same}
use Rattle.notify_list.proofs.Answering.{is_sound}
use Rattle.notify_list.proofs.Callers.{enters_at_once, enters_queued}
use Rattle.notify_list.proofs.notify_list.NotifyList.enter.Goals as goal

pub load-notified-requires : goal.load-notified-requires
load-notified-requires g c =
    let x = c.self.inside in let s = c.requires.seat.0 in let may = c.requires.seat.1 in let n : ℕ = c.args.number in let t = c.args.token in
    let at = may.locked.walked.list_is ∙ may.list_is ∙ sym c.self.view_is in (
      omega arith,
      (
        owned x c.self.invariant t at,
        (
          low_word x c.self.invariant 1 (omega arith),
          goes_at _ t.me 1 _ (stands_locked s n c.args.ticket may.holding t may.locked) (λ k. k) (λ e. absurd (omega arith))
              (λ w k known. record { word = refl; there = tt; can = refl; becomes = refl }),
        ),
      ),
    )

pub give_lock-requires : goal.give_lock-requires
give_lock-requires g c =
    let x = c.self.inside in let s = c.requires.seat.0 in let may = c.requires.seat.1 in let n : ℕ = c.args.number in
    let word : ℕ = c.args.ticket in let H = may.holding in let t = c.args.token in let L = may.locked in
    let u = c.load-notified.new.token in let v : ℕ = c.load-notified.result in let E = c.load-notified.ensures in
    let at = (λ i. record { id = E.own i; setting = E.went.0.same.1 i }) ∙ L.walked.list_is ∙ may.list_is ∙ sym c.self.view_is in
    let yes_it = sym c.less.ensures.less ∙ c.if-less.true in
    let futex = lock_futex x c.self.view_is c.sleepers_word.ensures.at c.sleepers_word.ensures.low in (
      omega arith,
      (
        owned x c.self.invariant u at,
        (
          (low_word x c.self.invariant 2 (omega arith), futex.0),
          (
            serves c.self.inside c.self.view_is g.N.Kernel.serves c.requires.kernel,
            (
              futex.1,
              gives_plain _ u _ (stands_looked s n word H t L u v E.went E.own true yes_it) (record_looked s n word H t L u v E.went E.own) refl
                  (λ w. (record { word = refl; there = tt; can = refl; becomes = refl }, refl)),
            ),
          ),
        ),
      ),
    )

pub invariant_of-result : goal.invariant_of-result
invariant_of-result g c =
    let s = c.requires.seat.0 in let may = c.requires.seat.1 in let E = c.load-notified.ensures in let F = c.give_lock.ensures in
    seat_at_once s c.args.number c.args.ticket may.holding c.args.token may.locked c.load-notified.new.token
    c.load-notified.result E.went E.own c.give_lock.new.token (sym c.less.ensures.less ∙ c.if-less.true) F.went F.own

pub returns-then-less-clause-rows : goal.returns-then-less-clause-rows
returns-then-less-clause-rows g c s may =
    let E = c.load-notified.ensures in let F = c.give_lock.ensures in let found = sym c.less.ensures.less ∙ c.if-less.true in (
      waited_at_once s c.args.number c.args.ticket may.holding c.args.token may.locked c.load-notified.new.token
          c.load-notified.result E.went E.own c.give_lock.new.token found F.went F.own,
      granted_at_once s c.args.number c.args.ticket may.holding c.args.token may.locked c.load-notified.new.token
          c.load-notified.result E.went E.own c.give_lock.new.token found F.went F.own,
    )

pub returns-then-less-clause-caller : goal.returns-then-less-clause-caller
returns-then-less-clause-caller g c s may =
    enters_at_once _ _ (is_sound c.give_lock.new.token c.args.number (invariant_of-result g c).token_is) (returns-then-less-clause-rows g c s may)

pub may_leave-may_leave-requires : goal.may_leave-may_leave-requires
may_leave-may_leave-requires g c =
    let s = c.requires.seat.0 in let may = c.requires.seat.1 in let n : ℕ = c.args.number in
    let word : ℕ = c.args.ticket in let H = may.holding in let t = c.args.token in let L = may.locked in
    let u = c.load-notified.new.token in let v : ℕ = c.load-notified.result in let E = c.load-notified.ensures in
    ((λ i. record { id = E.own i; setting = E.went.0.same.1 i }) ∙ L.walked.list_is ∙ may.list_is, record_looked s n word H t L u v E.went E.own)

pub insert-requires : goal.insert-requires
insert-requires g c =
    let s = c.requires.seat.0 in let may = c.requires.seat.1 in let n : ℕ = c.args.number in
    let word : ℕ = c.args.ticket in let H = may.holding in let t = c.args.token in let L = may.locked in
    let u = c.load-notified.new.token in let v : ℕ = c.load-notified.result in let E = c.load-notified.ensures in
    let at = (λ i. record { id = E.own i; setting = E.went.0.same.1 i }) ∙ L.walked.list_is ∙ may.list_is in
    let no_it = sym c.less.ensures.less ∙ c.if-less.false in let w = c.may_leave-may_leave.new.token in let same = c.may_leave-may_leave.ensures.same in record {
      seat = (list_same u w same ∙ at, record_same u w same (record_looked s n word H t L u v E.went E.own));
      room = subst (λ (m : Me). length m.0.own.knows.queue < m.0.own.knows.setting.seats) (sym same.1) (has_room s n word H t L u v E.went E.own no_it);
    }

pub give_lock-requires-2 : goal.give_lock-requires-2
give_lock-requires-2 g c =
    let x = c.self.inside in let s = c.requires.seat.0 in let may = c.requires.seat.1 in let n : ℕ = c.args.number in
    let word : ℕ = c.args.ticket in let H = may.holding in let t = c.args.token in let L = may.locked in
    let u = c.load-notified.new.token in let v : ℕ = c.load-notified.result in let E = c.load-notified.ensures in
    let at = (λ i. record { id = E.own i; setting = E.went.0.same.1 i }) ∙ L.walked.list_is ∙ may.list_is ∙ sym c.self.view_is in
    let no_it = sym c.less.ensures.less ∙ c.if-less.false in let k = wait_for u.me.0.own.number H.ticket in
    let I : Edited u (with_queue (queue_of u ++ k ∷ []) (guarded_of u)) c.insert.new.token
    = queued_same u c.may_leave-may_leave.new.token c.insert.new.token k c.may_leave-may_leave.ensures.same (c.insert.ensures k
    (λ i. record { id = record { seat = (number_looked s n word H t L u v E.went E.own ∙ sym c.new-seat.ensures) i; turn = 0 }; ticket = H.word_is i })) in
    let futex = lock_futex x c.self.view_is c.sleepers_word-2.ensures.at c.sleepers_word-2.ensures.low in (
      omega arith,
      (
        owned x c.self.invariant c.insert.new.token (list_edited u c.insert.new.token _ I ∙ at),
        (
          (low_word x c.self.invariant 2 (omega arith), futex.0),
          (
            serves c.self.inside c.self.view_is g.N.Kernel.serves c.requires.kernel,
            (
              futex.1,
              gives_edited _ u c.insert.new.token _ (stands_looked s n word H t L u v E.went E.own false no_it)
                  (with_queue (queue_of u ++ k ∷ []) (guarded_of u)) I refl
                  (λ w same. (
                    record { word = refl; there = tt; can = refl; becomes = refl },
                    (λ i. with_queue ((sym same i).queue ++ k ∷ []) (sym same i)),
                  )),
            ),
          ),
        ),
      ),
    )

pub invariant_of-result-2 : goal.invariant_of-result-2
invariant_of-result-2 g c =
    let s = c.requires.seat.0 in let may = c.requires.seat.1 in let n : ℕ = c.args.number in
    let word : ℕ = c.args.ticket in let H = may.holding in let t = c.args.token in let L = may.locked in
    let u = c.load-notified.new.token in let v : ℕ = c.load-notified.result in let E = c.load-notified.ensures in
    let F = c.give_lock-2.ensures in
    let at = (λ i. record { id = E.own i; setting = E.went.0.same.1 i }) ∙ L.walked.list_is ∙ may.list_is in
    let no_it = sym c.less.ensures.less ∙ c.if-less.false in let k = wait_for u.me.0.own.number H.ticket in let M = c.may_leave-may_leave.ensures in
    let I : Edited u (with_queue (queue_of u ++ k ∷ []) (guarded_of u)) c.insert.new.token
    = queued_same u c.may_leave-may_leave.new.token c.insert.new.token k M.same (c.insert.ensures k
    (λ i. record { id = record { seat = (number_looked s n word H t L u v E.went E.own ∙ sym c.new-seat.ensures) i; turn = 0 }; ticket = H.word_is i })) in
    let known : word ≡ word_of c.args.self.now.setting.first H.ticket.number
    = word_known s n word H t L u v E.went E.own c.insert.new.token c.give_lock-2.new.token no_it I F.went F.own
    ∙ ap (λ (l : ListModel). word_of l.setting.first H.ticket.number) at in
    seat_parked s n word H t L u v E.went E.own c.insert.new.token c.give_lock-2.new.token no_it I F.went F.own
    c.may_leave-may_leave.result M.few (λ e low. M.early H.ticket.number e low known) (λ e. M.late H.ticket.number e known)

pub returns-clause-rows : goal.returns-clause-rows
returns-clause-rows g c s may =
    let n : ℕ = c.args.number in
    let word : ℕ = c.args.ticket in let H = may.holding in let t = c.args.token in let L = may.locked in
    let u = c.load-notified.new.token in let v : ℕ = c.load-notified.result in let E = c.load-notified.ensures in
    let F = c.give_lock-2.ensures in
    let no_it = sym c.less.ensures.less ∙ c.if-less.false in let k = wait_for u.me.0.own.number H.ticket in
    let I : Edited u (with_queue (queue_of u ++ k ∷ []) (guarded_of u)) c.insert.new.token
    = queued_same u c.may_leave-may_leave.new.token c.insert.new.token k c.may_leave-may_leave.ensures.same (c.insert.ensures k
    (λ i. record { id = record { seat = (number_looked s n word H t L u v E.went E.own ∙ sym c.new-seat.ensures) i; turn = 0 }; ticket = H.word_is i })) in
    queued_it s n word H t L u v E.went E.own c.insert.new.token c.give_lock-2.new.token no_it I F.went F.own

pub returns-clause-caller : goal.returns-clause-caller
returns-clause-caller g c s may =
    enters_queued _ _ (is_sound c.give_lock-2.new.token c.args.number (invariant_of-result-2 g c).token_is) (returns-clause-rows g c s may)
