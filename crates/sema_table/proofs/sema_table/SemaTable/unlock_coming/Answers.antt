use Rattle.std.proofs.Common.{◌≡◌, ℕ, sym, ap, refl, ◌∙◌, arith}
use Rattle.step_table.specs.declared.effect.Effect.TheVariants.{Nothing}
use Rattle.step_table.specs.declared.place.AcquireRow.TheVariants.{Parked}
use Rattle.step_table.specs.declared.place.ParkedRow.TheVariants.{P, D5}
use Rattle.step_table.specs.declared.place.Place.TheVariants.{Acquiring}
use Rattle.step_table.specs.declared.word.Word.TheVariants.{Lock}
use Rattle.step_table.proofs.Sums.{on_here}
use Rattle.sema_table.specs.Setting.{root, address}
use Rattle.sema_table.specs.Seats.{TableModel}
use Rattle.sema_table.proofs.Striding.{slots_are}
use Rattle.sema_table.proofs.Owned.{someones, word_in, lock_sleeps, serves}
use Rattle.sema_table.proofs.Allowing.{owes_give}
use Rattle.sema_table.proofs.Leading.{led}
use Rattle.sema_table.proofs.Walking.{walked_row, ran_from}
use Rattle.running_rows.specs.Table.{rest}
use Rattle.sema_table.proofs.sema_table.SemaTable.unlock_coming.Goals as goal

pub give_lock-requires : goal.give_lock-requires
give_lock-requires g c =
    let s = c.args.token.now in let a = c.args.call.now in let r = c.requires.seat.0 in let h = c.requires.seat.1 in let at = r.table_is ∙ sym c.self.view_is in
    let word : address s.me.0.own.knows.setting (Lock a.counter) ≡ c.lock_word-word.result = ap (λ (y : TableModel). address y.setting (Lock a.counter))
    r.table_is ∙ sym c.lock_word-word.ensures.at in
    let sleeps = lock_sleeps c.self.inside c.self.invariant c.self.view_is a.counter c.lock_word-word.ensures.at
    c.sleepers_word-sleepers.ensures.at c.sleepers_word-sleepers.ensures.low in
    let low = word_in c.self.inside s c.self.invariant at (Lock a.counter) tt in (
      omega arith,
      (
        (ap (λ (t : TableModel). t.id) at, someones c.self.inside c.self.invariant s at),
        (
          (omega arith, sleeps.0),
          (
            serves c.self.inside c.self.view_is g.N.Kernel.serves c.requires.kernel,
            (
              sleeps.1,
              owes_give _ c.lock_word-word.result s.me (Acquiring a (Parked c.args.turn D5)) r.place_is (let b = r.limited in omega arith) h.0 0 h.1
                  (λ b n known. record {
                    fits = record { word = word; there = tt; can = refl; becomes = refl };
                    word_is = refl;
                    holds_it =
                        on_here (root s.me.0.own.knows.setting a.counter) 1;
                    is_record = h.2;
                  }),
            ),
          ),
        ),
      ),
    )

pub returns : goal.returns
returns g c =
    let s = c.args.token.now in let u = c.give_lock.new.token in let a = c.args.call.now in let r = c.requires.seat.0 in
    let X = c.give_lock.ensures.went in let n : ℕ = X.0 in
    let row = ran_from s u (Acquiring a (Parked c.args.turn D5)) n r.place_is X.1 in
    let g = led s.me.0.own u.me.0.own (Acquiring a (Parked c.args.turn D5)) n row in
    (walked_row s u (Acquiring a (Parked c.args.turn D5)) n (Acquiring a (Parked c.args.turn P), Nothing) row g c.give_lock.ensures.own, slots_are X.3 ∙ ap rest c.requires.seat.1.1)
