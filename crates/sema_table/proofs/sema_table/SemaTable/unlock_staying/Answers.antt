use Rattle.std.proofs.Common.{◌≡◌, ℕ, sym, ap, refl, ◌∙◌, arith}
use Rattle.step_table.specs.declared.effect.Effect.TheVariants.{Nothing}
use Rattle.step_table.specs.declared.place.AcquireRow.TheVariants.{Parked}
use Rattle.step_table.specs.declared.place.ParkedRow.TheVariants.{P, D5}
use Rattle.step_table.specs.declared.place.Place.TheVariants.{Acquiring}
use Rattle.step_table.specs.declared.word.Word.TheVariants.{Lock}
use Rattle.step_table.proofs.Sums.{on_here}
use Rattle.sema_table.specs.Setting.{root, address}
use Rattle.sema_table.specs.Seats.{TableModel}
use Rattle.sema_table.proofs.Striding.{slots_are, ran_stayed}
use Rattle.sema_table.proofs.Owned.{someones, word_in, lock_sleeps}
use Rattle.sema_table.proofs.Allowing.{owes_stay}
use Rattle.sema_table.proofs.Leading.{led}
use Rattle.sema_table.proofs.Walking.{walked_row}
use mathlib.Core.Option.{none}
use Rattle.running_rows.specs.Table.{rest, step}
use Rattle.sema_table.proofs.sema_table.SemaTable.unlock_staying.Goals as goal

pub give_lock_from-requires : goal.give_lock_from-requires
give_lock_from-requires c =
    let s = c.args.token.now in let a = c.args.call.now in let r = c.requires.0 in let h = c.requires.1 in let at = r.table_is ∙ sym c.self.view_is in
    let word : address s.me.0.own.knows.setting (Lock a.counter) ≡ c.lock_word-word.result = ap (λ (y : TableModel). address y.setting (Lock a.counter))
    r.table_is ∙ sym c.lock_word-word.ensures.at in
    let sleeps = lock_sleeps c.self.inside c.self.invariant c.self.view_is a.counter c.lock_word-word.ensures.at
    c.sleepers_word-sleepers.ensures.at c.sleepers_word-sleepers.ensures.low in
    let low = word_in c.self.inside s c.self.invariant at (Lock a.counter) tt in (
      omega arith,
      (
        (ap (λ (t : TableModel). t.id) at, someones c.self.inside c.self.invariant s at),
        (
          (omega arith, sleeps.0),
          (
            tt,
            (
              sleeps.1,
              owes_stay _ c.lock_word-word.result s.me a c.args.turn r.place_is (let b = r.limited in omega arith) h.0 0 h.1
                  (λ b n known. record {
                    fits = record { word = word; there = tt; can = refl; becomes = refl };
                    word_is = refl;
                    holds_it = on_here (root s.me.0.own.knows.setting a.counter) 1;
                    is_record = h.2;
                  }),
            ),
          ),
        ),
      ),
    )

pub returns : goal.returns
returns c =
    let s = c.args.token.now in let u = c.give_lock_from.new.token in let a = c.args.call.now in let r = c.requires.0 in
    let X = c.give_lock_from.ensures.went in let n : ℕ = X.0 in
    let row = ran_stayed s.me.0.own u.me.0.own a c.args.turn n (step 0 0 0 0 none) r.place_is X.1 in
    let g = led s.me.0.own u.me.0.own (Acquiring a (Parked c.args.turn D5)) n row in
    (walked_row s u (Acquiring a (Parked c.args.turn D5)) n (Acquiring a (Parked c.args.turn P), Nothing) row g c.give_lock_from.ensures.own, slots_are X.3 ∙ ap rest c.requires.1.1)
