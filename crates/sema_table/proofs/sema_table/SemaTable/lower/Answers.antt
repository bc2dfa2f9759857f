use Rattle.std.proofs.Common.{◌≡◌, ◌+◌, ◌%◌, ◌^◌, ℕ, sym, ap, refl, ◌∙◌, arith}
use Rattle.step_table.specs.declared.effect.Effect.TheVariants.{Nothing}
use Rattle.step_table.specs.declared.place.AcquireRow.TheVariants.{A8, A9}
use Rattle.step_table.specs.declared.place.Place.TheVariants.{Acquiring}
use Rattle.step_table.specs.declared.word.Word.TheVariants.{Waiters}
use Rattle.step_table.proofs.Sums.{on_here}
use Rattle.sema_table.specs.Setting.{root, address}
use Rattle.sema_table.specs.Seats.{TableModel}
use Rattle.sema_table.proofs.Striding.{slots_are}
use Rattle.sema_table.proofs.Owned.{someones, word_in, waiters_apart}
use Rattle.sema_table.proofs.Allowing.{owes_here}
use Rattle.sema_table.proofs.Stepping.{waiters_down}
use Rattle.sema_table.proofs.Leading.{led}
use Rattle.sema_table.proofs.Walking.{walked_row, ran_from}
use Rattle.sema_table.proofs.Holding.{record_on}
use Rattle.sema_table.proofs.Stepping.{raised_some}
use Rattle.sema_table.proofs.sema_table.SemaTable.lower.Goals as goal

pub subtract-requires : goal.subtract-requires
subtract-requires c =
    let s = c.args.token.now in let a = c.args.call.now in let r = c.requires.0 in let at = r.table_is ∙ sym c.self.view_is in
    let word : address s.me.0.own.knows.setting (Waiters a.counter) ≡ c.waiter_word-word.result
    = ap (λ (y : TableModel). address y.setting (Waiters a.counter)) r.table_is ∙ sym c.waiter_word-word.ensures.at in
    let low = word_in c.self.inside s c.self.invariant at (Waiters a.counter) tt in (
      omega arith,
      (
        (ap (λ (t : TableModel). t.id) at, someones c.self.inside c.self.invariant s at),
        (
          omega arith,
          (
            waiters_apart c.self.inside c.self.invariant c.self.view_is a.counter c.waiter_word-word.ensures.at,
            owes_here _ c.waiter_word-word.result s.me (Acquiring a A8) r.place_is (let b = r.limited in omega arith)
                (λ n. (n + 18446744073709551615) % 2 ^ 64) (λ b n known. record {
                  fits = record {
                    word = word;
                    there = tt;
                    can = refl;
                    becomes = waiters_down known a.counter word
                        (raised_some known a.counter (on_here (root s.me.0.own.knows.setting a.counter) 1) (on_here (root s.me.0.own.knows.setting a.counter) 1));
                  };
                  apart = refl;
                }),
          ),
        ),
      ),
    )

pub returns : goal.returns
returns c =
    let s = c.args.token.now in let u = c.subtract.new.token in let a = c.args.call.now in let r = c.requires.0 in let n : ℕ = c.subtract.result in
    let row = ran_from s u (Acquiring a A8) n r.place_is c.subtract.ensures.went.0 in
    let g = led s.me.0.own u.me.0.own (Acquiring a A8) n row in
    let x = walked_row s u (Acquiring a A8) n (Acquiring a A9, Nothing) row g c.subtract.ensures.own in (
      x,
      record_on s u (Acquiring a A8) n a.counter (Acquiring a A9, Nothing) row g x.table_is (on_here (root s.me.0.own.knows.setting a.counter) 1)
          (λ l q. refl) (slots_are c.subtract.ensures.went.1) c.requires.1,
    )
