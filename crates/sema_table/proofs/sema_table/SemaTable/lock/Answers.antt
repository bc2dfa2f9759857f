use Rattle.std.proofs.Common.{◌≡◌, length, sym, ap, ◌∙◌, subst, arith}
use Rattle.step_table.specs.declared.word.Word.TheVariants.{Lock}
use Rattle.step_table.specs.Counting.{counter_at}
use Rattle.sema_table.specs.Setting.{address}
use Rattle.sema_table.specs.Seats.{TableModel}
use Rattle.sema_table.specs.Places.{Begins}
use Rattle.sema_table.proofs.Owned.{word_in, someones, lock_sleeps}
use Rattle.sema_table.proofs.Locking.{takes_lock_by, has_locked}
use Rattle.sema_table.proofs.sema_table.SemaTable.lock.Goals as goal

pub take_lock_for-requires : goal.take_lock_for-requires
take_lock_for-requires g c =
    let s = c.args.token.now in let p = c.args.place.now in let r = c.requires.0 in
    let at = r.table_is ∙ sym c.self.view_is in
    let word : address s.me.0.own.knows.setting (Lock (counter_at p)) ≡ c.lock_word-word.result
    = (λ i. address (r.table_is i).setting (Lock (c.requires.1 i))) ∙ sym c.lock_word-word.ensures.at in
    let sleeps = lock_sleeps c.self.inside c.self.invariant c.self.view_is c.args.counter c.lock_word-word.ensures.at
    c.sleepers_word-sleepers.ensures.at c.sleepers_word-sleepers.ensures.low in
    let low = word_in c.self.inside s c.self.invariant at (Lock (counter_at p)) tt in (
      omega arith,
      (
        (ap (λ (t : TableModel). t.id) at, someones c.self.inside c.self.invariant s at),
        (
          (omega arith, sleeps.0),
          (
            sleeps.1,
            takes_lock_by _ c.lock_word-word.result s p r.takes
                (subst (λ (y : TableModel). Begins (length y.setting.starts) s.me.0.own.knows.place p) (sym r.table_is) r.begins) r.limited word,
          ),
        ),
      ),
    )

pub returns : goal.returns
returns g c =
    has_locked c.args.self.now c.args.token.now c.take_lock_for.new.token c.args.place.now c.requires.0 c.take_lock_for.ensures.took c.take_lock_for.ensures.own
