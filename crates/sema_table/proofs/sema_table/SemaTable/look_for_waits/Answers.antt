use Rattle.std.proofs.Common.{◌≡◌, sym, ap, refl, ◌∙◌, arith}
use Rattle.step_table.specs.declared.place.ReleaseRow.TheVariants.{R4}
use Rattle.step_table.specs.declared.place.Place.TheVariants.{Releasing}
use Rattle.step_table.specs.declared.word.Word.TheVariants.{Waiters}
use Rattle.sema_table.specs.Setting.{address}
use Rattle.sema_table.specs.Seats.{TableModel}
use Rattle.sema_table.proofs.Striding.{slots_are}
use Rattle.sema_table.proofs.Owned.{someones, word_in}
use Rattle.sema_table.proofs.Allowing.{owes_here}
use Rattle.sema_table.proofs.Granting.{looked_walk, looked_record}
use Rattle.sema_table.proofs.sema_table.SemaTable.look_for_waits.Goals as goal

pub load-requires : goal.load-requires
load-requires c =
    let s = c.args.token.now in let a = c.args.call.now in let r = c.requires.0 in let at = r.table_is ∙ sym c.self.view_is in
    let word : address s.me.0.own.knows.setting (Waiters a.counter) ≡ c.waiter_word-word.result
    = ap (λ (y : TableModel). address y.setting (Waiters a.counter)) r.table_is ∙ sym c.waiter_word-word.ensures.at in
    let low = word_in c.self.inside s c.self.invariant at (Waiters a.counter) tt in (
      omega arith,
      (
        (ap (λ (t : TableModel). t.id) at, someones c.self.inside c.self.invariant s at),
        (
          (omega arith),
          owes_here _ c.waiter_word-word.result s.me (Releasing a R4) r.place_is (let b = r.limited in omega arith) (λ n. n)
              (λ b n known. record { fits = record { word = word; there = tt; can = refl; becomes = refl }; apart = refl }),
        ),
      ),
    )

pub returns-clause-record : goal.returns-clause-record
returns-clause-record c = looked_record c.args.token.now c.load.new.token c.args.call.now c.load.result c.requires.0.place_is c.load.ensures.went.0
    c.load.ensures.own (slots_are c.load.ensures.went.1) c.requires.1

pub returns-clause-found : goal.returns-clause-found
returns-clause-found c =
    looked_walk c.args.token.now c.load.new.token c.args.call.now c.load.result c.requires.0.place_is c.load.ensures.went.0 c.load.ensures.own
