use Rattle.std.proofs.Common.{sym, ◌∙◌, arith}
use Rattle.notify_list.proofs.Owned.{low_word, owned, lock_futex}
use Rattle.notify_list.proofs.Locking.{lock_owes, has_locked}
use Rattle.notify_list.proofs.notify_list.NotifyList.lock.Goals as goal

pub take_lock-requires : goal.take_lock-requires
take_lock-requires g c =
    let x = c.self.inside in let s = c.args.token.now in let futex = lock_futex x c.self.view_is c.sleepers_word.ensures.at c.sleepers_word.ensures.low in (
      omega arith,
      (
        owned x c.self.invariant s (c.requires.list_is ∙ sym c.self.view_is),
        ((low_word x c.self.invariant 2 (omega arith), futex.0), (futex.1, lock_owes _ c.args.self.now s c.requires)),
      ),
    )

pub returns : goal.returns
returns g c = has_locked c.args.self.now c.args.token.now c.take_lock.new.token c.requires c.take_lock.ensures.took c.take_lock.ensures.own
