use Rattle.std.proofs.Common.{◌≡◌, ℕ, length, sym, ap, ◌∙◌, subst, arith}
use Rattle.step_table.specs.declared.word.Word.TheVariants.{Lock}
use Rattle.step_table.specs.Counting.{counter_at}
use Rattle.running_rows.specs.Owing.{IsSeen}
use Rattle.sema_table.specs.Rows.{semaphore_rows}
use Rattle.sema_table.specs.Setting.{address}
use Rattle.sema_table.specs.Seats.{TableModel}
use Rattle.sema_table.specs.Places.{Begins}
use Rattle.sema_table.proofs.Owned.{word_in, some_root, someones, is_lock}
use Rattle.sema_table.proofs.Seeing.{lock_seen}
use Rattle.sema_table.proofs.Locking.{takes_lock_by}
use Rattle.sema_table.proofs.Trial.{has_tried}
use Rattle.sema_table.proofs.sema_table.SemaTable.try_lock.Goals as goal

pub try_lock_for-requires : goal.try_lock_for-requires
try_lock_for-requires c =
    let s = c.args.token.now in let p = c.args.place.now in let r = c.requires.0 in let z = s.me.0.own.knows.setting in
    let at = r.table_is ∙ sym c.self.view_is in
    let word : address z (Lock (counter_at p)) ≡ c.lock_word-word.result
    = (λ i. address (r.table_is i).setting (Lock (c.requires.1 i))) ∙ sym c.lock_word-word.ensures.at in
    let low = word_in c.self.inside s c.self.invariant at (Lock (counter_at p)) tt in (
      omega arith,
      (
        (ap (λ (t : TableModel). t.id) at, someones c.self.inside c.self.invariant s at),
        (
          omega arith,
          (
            subst (λ (y : TableModel). IsSeen semaphore_rows y.setting c.lock_word-word.result) at
                (lock_seen z c.lock_word-word.result (counter_at p) (some_root c.self.inside s c.self.invariant at) word),
            (
              is_lock c.self.inside c.self.invariant c.self.view_is c.args.counter c.lock_word-word.ensures.at,
              takes_lock_by _ c.lock_word-word.result s p r.takes
                  (subst (λ (y : TableModel). Begins (length y.setting.starts) s.me.0.own.knows.place p) (sym r.table_is) r.begins) r.limited word,
            ),
          ),
        ),
      ),
    )

pub returns : goal.returns
returns c =
    let s = c.args.token.now in let r = c.requires.0 in let k : ℕ = c.args.counter in
    let at = r.table_is ∙ sym c.self.view_is in
    let word : address s.me.0.own.knows.setting (Lock k) ≡ c.lock_word-word.result
    = (λ i. address (r.table_is i).setting (Lock k)) ∙ sym c.lock_word-word.ensures.at in
    has_tried c.args.self.now s c.try_lock_for.new.token c.args.place.now k c.lock_word-word.result r
    (some_root c.self.inside s c.self.invariant at) word c.try_lock_for.result c.try_lock_for.ensures.took c.try_lock_for.ensures.own
