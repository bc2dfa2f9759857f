use Rattle.std.proofs.Common.{sym, ◌∙◌, arith}
use Rattle.notify_list.proofs.Owned.{low_word, owned}
use Rattle.notify_list.proofs.Futexes.{at_lock}
use Rattle.notify_list.proofs.LookingTogether.{word_seen}
use Rattle.notify_list.proofs.Locking.{lock_owes, has_tried}
use Rattle.notify_list.proofs.notify_list.NotifyList.try_lock.Goals as goal

pub try_lock-requires : goal.try_lock-requires
try_lock-requires c = let x = c.self.inside in let s = c.args.token.now in (
  omega arith,
  (
    owned x c.self.invariant s (c.requires.list_is ∙ sym c.self.view_is),
    (low_word x c.self.invariant 2 (omega arith), (word_seen _ 2 tt, (at_lock x.words.table.shared.key, lock_owes _ c.args.self.now s c.requires))),
  ),
)

pub returns : goal.returns
returns c = has_tried c.args.self.now c.args.token.now c.try_lock.new.token c.requires c.try_lock.result c.try_lock.ensures.took c.try_lock.ensures.own
