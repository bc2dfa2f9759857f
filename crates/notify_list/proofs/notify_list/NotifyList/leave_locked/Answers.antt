use Rattle.std.proofs.Common.{ℕ, Some, None, sym, ◌∙◌, subst, arith}
use Rattle.notify_list.specs.Seats.{guarded_of}
use Rattle.notify_list.specs.Records.{OwnOut}
use Rattle.notify_list.proofs.Owned.{low_word, owned, lock_futex, serves}
use Rattle.notify_list.proofs.Answering.{is_sound}
use Rattle.notify_list.proofs.Leaving.{list1, record1, may_forgo, list4, gives4, seat_left, left, list5, gives5, parked_again, coming}
use Rattle.notify_list.proofs.notify_list.NotifyList.leave_locked.Goals as goal

pub remove_own-requires : goal.remove_own-requires
remove_own-requires g c =
    let h = c.requires.seat.1 in let s = c.requires.seat.0 in let t = c.args.token in let n : ℕ = c.args.number in
    (list1 c.args.self.now s n h.parked t h.list_is h.took h.own, (guarded_of t, record1 c.args.self.now s n h.parked t h.list_is h.took h.own))

pub forgo-requires : goal.forgo-requires
forgo-requires g c =
    let l = c.args.self.now in let s = c.requires.seat.0 in let h = c.requires.seat.1 in let t = c.args.token in let n : ℕ = c.args.number in let u = c.remove_own.new.token in
    let word : ℕ = c.in-Some.ticket in
    let out : OwnOut t (guarded_of t) n (Some word) u
    = subst (λ k. OwnOut t (guarded_of t) k (Some word) u) c.new.ensures (c.in-Some.ensures (guarded_of t) (record1 l s n h.parked t h.list_is h.took h.own)) in
    (t, may_forgo l s n h.parked t h.list_is h.took h.own u word out)

pub give_lock-requires : goal.give_lock-requires
give_lock-requires g c =
    let x = c.self.inside in
    let l = c.args.self.now in let s = c.requires.seat.0 in let h = c.requires.seat.1 in let t = c.args.token in let n : ℕ = c.args.number in let u = c.remove_own.new.token in
    let word : ℕ = c.in-Some.ticket in
    let out : OwnOut t (guarded_of t) n (Some word) u
    = subst (λ k. OwnOut t (guarded_of t) k (Some word) u) c.new.ensures (c.in-Some.ensures (guarded_of t) (record1 l s n h.parked t h.list_is h.took h.own)) in
    let v = c.forgo.new.token in let F = c.forgo.ensures t (may_forgo l s n h.parked t h.list_is h.took h.own u word out) in
    let futex = lock_futex x c.self.view_is c.sleepers_word.ensures.at c.sleepers_word.ensures.low in (
      omega arith,
      (
        owned x c.self.invariant v (list4 l s n h.parked t h.list_is h.took h.own u word out v F ∙ sym c.self.view_is),
        (
          (low_word x c.self.invariant 2 (omega arith), futex.0),
          (serves c.self.inside c.self.view_is g.N.Kernel.serves c.requires.kernel, (futex.1, gives4 l s n h.parked t h.list_is h.took h.own u word out v F _)),
        ),
      ),
    )

pub invariant_of-result : goal.invariant_of-result
invariant_of-result g c =
    let l = c.args.self.now in let s = c.requires.seat.0 in let h = c.requires.seat.1 in let t = c.args.token in let n : ℕ = c.args.number in let u = c.remove_own.new.token in
    let word : ℕ = c.in-Some.ticket in
    let out : OwnOut t (guarded_of t) n (Some word) u
    = subst (λ k. OwnOut t (guarded_of t) k (Some word) u) c.new.ensures (c.in-Some.ensures (guarded_of t) (record1 l s n h.parked t h.list_is h.took h.own)) in
    let v = c.forgo.new.token in let F = c.forgo.ensures t (may_forgo l s n h.parked t h.list_is h.took h.own u word out) in
    seat_left l s n h.parked t h.list_is h.took h.own u word out v F c.give_lock.new.token c.give_lock.ensures.went c.give_lock.ensures.own

pub returns-in-Some-clause-rows : goal.returns-in-Some-clause-rows
returns-in-Some-clause-rows g c s h =
    let l = c.args.self.now in let t = c.args.token in let n : ℕ = c.args.number in let u = c.remove_own.new.token in
    let word : ℕ = c.in-Some.ticket in
    let out : OwnOut t (guarded_of t) n (Some word) u
    = subst (λ k. OwnOut t (guarded_of t) k (Some word) u) c.new.ensures (c.in-Some.ensures (guarded_of t) (record1 l s n h.parked t h.list_is h.took h.own)) in
    let v = c.forgo.new.token in let F = c.forgo.ensures t (may_forgo l s n h.parked t h.list_is h.took h.own u word out) in
    left l s n h.parked t h.list_is h.took h.own u word out v F c.give_lock.new.token c.give_lock.ensures.went c.give_lock.ensures.own

pub returns-in-Some-clause-lawful : goal.returns-in-Some-clause-lawful
returns-in-Some-clause-lawful g c = (is_sound c.give_lock.new.token c.args.number (invariant_of-result g c).token_is).lawful

pub give_lock-requires-2 : goal.give_lock-requires-2
give_lock-requires-2 g c =
    let x = c.self.inside in
    let l = c.args.self.now in let s = c.requires.seat.0 in let h = c.requires.seat.1 in let t = c.args.token in let n : ℕ = c.args.number in let u = c.remove_own.new.token in
    let out : OwnOut t (guarded_of t) n None u
    = subst (λ k. OwnOut t (guarded_of t) k None u) c.new.ensures (c.in_default.ensures (guarded_of t) (record1 l s n h.parked t h.list_is h.took h.own)) in
    let futex = lock_futex x c.self.view_is c.sleepers_word-2.ensures.at c.sleepers_word-2.ensures.low in (
      omega arith,
      (
        owned x c.self.invariant u (list5 l s n h.parked t h.list_is h.took h.own u out ∙ sym c.self.view_is),
        (
          (low_word x c.self.invariant 2 (omega arith), futex.0),
          (serves c.self.inside c.self.view_is g.N.Kernel.serves c.requires.kernel, (futex.1, gives5 l s n h.parked t h.list_is h.took h.own u out _)),
        ),
      ),
    )

pub invariant_of-result-2 : goal.invariant_of-result-2
invariant_of-result-2 g c =
    let l = c.args.self.now in let s = c.requires.seat.0 in let h = c.requires.seat.1 in let t = c.args.token in let n : ℕ = c.args.number in let u = c.remove_own.new.token in
    let out : OwnOut t (guarded_of t) n None u
    = subst (λ k. OwnOut t (guarded_of t) k None u) c.new.ensures (c.in_default.ensures (guarded_of t) (record1 l s n h.parked t h.list_is h.took h.own)) in
    parked_again l s n h.parked t h.list_is h.took h.own u out c.give_lock-2.new.token c.give_lock-2.ensures.went c.give_lock-2.ensures.own

pub returns-clause-rows : goal.returns-clause-rows
returns-clause-rows g c s h =
    let l = c.args.self.now in let t = c.args.token in let n : ℕ = c.args.number in let u = c.remove_own.new.token in
    let out : OwnOut t (guarded_of t) n None u
    = subst (λ k. OwnOut t (guarded_of t) k None u) c.new.ensures (c.in_default.ensures (guarded_of t) (record1 l s n h.parked t h.list_is h.took h.own)) in
    coming l s n h.parked t h.list_is h.took h.own u out c.give_lock-2.new.token c.give_lock-2.ensures.went c.give_lock-2.ensures.own

pub returns-clause-lawful : goal.returns-clause-lawful
returns-clause-lawful g c = (is_sound c.give_lock-2.new.token c.args.number (invariant_of-result-2 g c).token_is).lawful
