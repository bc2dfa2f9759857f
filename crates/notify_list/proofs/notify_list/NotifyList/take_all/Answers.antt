use Rattle.std.proofs.Common.{map, sym, ap, ◌∙◌, arith}
use Rattle.waiters.specs.declared.wait.Wait.{Wait}
use Rattle.notify_list.proofs.Owned.{low_word, owned, lock_futex, serves}
use Rattle.notify_list.proofs.Recording.{list_edited}
use Rattle.notify_list.proofs.Emptying.{gives_all, taken_all, hand_after}
use Rattle.notify_list.proofs.notify_list.NotifyList.take_all.Goals as goal

pub remove_all-waits-requires : goal.remove_all-waits-requires
remove_all-waits-requires g c = let may = c.requires.seat.2 in record { seat = (may.0.list_is, may.1); room = c.requires.room }

pub give_lock-requires : goal.give_lock-requires
give_lock-requires g c =
    let x = c.self.inside in let s = c.args.token.now in let may = c.requires.seat.2 in let E = c.remove_all-waits.ensures.edited in
    let at = may.0.list_is ∙ sym c.self.view_is in
    let futex = lock_futex x c.self.view_is c.sleepers_word.ensures.at c.sleepers_word.ensures.low in (
      omega arith,
      (
        owned x c.self.invariant c.remove_all-waits.new.token (list_edited s c.remove_all-waits.new.token _ E ∙ at),
        (
          (low_word x c.self.invariant 2 (omega arith), futex.0),
          (
            serves c.self.inside c.self.view_is g.N.Kernel.serves c.requires.kernel,
            (
              futex.1,
              gives_all c.args.self.now s c.requires.seat.0 c.requires.seat.1 may _ c.remove_all-waits.new.token E,
            ),
          ),
        ),
      ),
    )

pub returns-clause-taken : goal.returns-clause-taken
returns-clause-taken g c h n may = let S = c.give_lock.ensures in
    taken_all c.args.self.now c.args.token.now h n may c.remove_all-waits.new.token c.give_lock.new.token c.remove_all-waits.ensures.edited S.went S.own

pub returns-clause-seats : goal.returns-clause-seats
returns-clause-seats g c = let S = c.give_lock.ensures in let may = c.requires.seat.2 in
    c.remove_all-waits.ensures.seats ∙ ap (map (λ (w : Wait). w.id.seat))
    (sym (hand_after c.args.self.now c.args.token.now c.requires.seat.0 c.requires.seat.1 may c.remove_all-waits.new.token c.give_lock.new.token
    c.remove_all-waits.ensures.edited S.went S.own))
