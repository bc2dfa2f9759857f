use Rattle.std.proofs.Common.{◌≡◌, ℕ, sym, ap, ◌∙◌, subst, arith}
use Rattle.step_table.specs.declared.word.Word.TheVariants.{Waiters}
use Rattle.sema_table.specs.Setting.{root, address}
use Rattle.sema_table.specs.Seats.{TableModel, seat_of}
use Rattle.sema_table.proofs.Striding.{slots_are}
use Rattle.sema_table.proofs.Owned.{word_in, some_root, someones}
use Rattle.running_rows.specs.Owing.{IsSeen}
use Rattle.sema_table.specs.Rows.{semaphore_rows}
use Rattle.sema_table.proofs.Seeing.{waiters_seen}
use Rattle.sema_table.proofs.Trying.{waiters_look, looked_seat, is_waiters}
use Rattle.sema_table.proofs.CallerTries.{counts_waits}
use Rattle.sema_table.proofs.sema_table.SemaTable.waiters_in_place.Goals as goal

pub look-requires : goal.look-requires
look-requires c =
    let s = c.args.token.now in let n = c.args.numbers.now in let z = s.me.0.own.knows.setting in let k : ℕ = c.args.counter in
    let at = c.requires.seat.1 ∙ sym c.self.view_is in
    let low = word_in c.self.inside s c.self.invariant at (Waiters k) tt in
    let lies : address z (Waiters k) ≡ c.waiter_word-word.result = ap (λ (t : TableModel). address t.setting (Waiters k)) (at ∙ c.self.view_is)
    ∙ sym c.waiter_word-word.ensures.at in (
      omega arith,
      (
        (ap (λ (t : TableModel). t.id) at, someones c.self.inside c.self.invariant s at),
        (
          omega arith,
          subst (λ (y : TableModel). IsSeen semaphore_rows y.setting c.waiter_word-word.result) at
              (waiters_seen z c.waiter_word-word.result k (some_root c.self.inside s c.self.invariant at) lies),
        ),
      ),
    )

pub returns-clause-seat : goal.returns-clause-seat
returns-clause-seat c =
    let s = c.args.token.now in let n = c.args.numbers.now in let t = c.look.new.token in let k : ℕ = c.args.counter in
    let at = c.requires.seat.1 ∙ sym c.self.view_is in
    let lies : address s.me.0.own.knows.setting (Waiters k) ≡ c.waiter_word-word.result = ap (λ (t : TableModel). address t.setting (Waiters k))
    (at ∙ c.self.view_is) ∙ sym c.waiter_word-word.ensures.at in
    looked_seat s t n (Waiters (root s.me.0.own.knows.setting k)) c.look.result c.requires.seat.0
    (waiters_look s.me.0.own t.me.0.own k c.waiter_word-word.result c.look.result (some_root c.self.inside s c.self.invariant at) lies c.look.ensures.went.0)
    c.look.ensures.own (slots_are c.look.ensures.went.1)

pub returns-clause-rows : goal.returns-clause-rows
returns-clause-rows c =
    let s = c.args.token.now in let n = c.args.numbers.now in let t = c.look.new.token in let k : ℕ = c.args.counter in
    let at = c.requires.seat.1 ∙ sym c.self.view_is in
    let lies : address s.me.0.own.knows.setting (Waiters k) ≡ c.waiter_word-word.result = ap (λ (t : TableModel). address t.setting (Waiters k))
    (at ∙ c.self.view_is) ∙ sym c.waiter_word-word.ensures.at in
    (is_waiters s t n k c.look.result c.requires.seat.0
    (waiters_look s.me.0.own t.me.0.own k c.waiter_word-word.result c.look.result (some_root c.self.inside s c.self.invariant at) lies c.look.ensures.went.0)
    c.look.ensures.own (slots_are c.look.ensures.went.1))

pub returns-clause-caller : goal.returns-clause-caller
returns-clause-caller c = counts_waits (seat_of c.args.token.now c.args.numbers.now) (seat_of c.look.new.token c.args.numbers.now) c.args.counter c.look.result (returns-clause-rows c)
