use Rattle.std.proofs.Common.{ℕ, ◌<◌, length, sym, ap, ◌∙◌, subst, arith}
use Rattle.step_table.specs.declared.word.Word.TheVariants.{Counter}
use Rattle.sema_table.specs.Seats.{TableModel, seat_of}
use Rattle.sema_table.proofs.Striding.{slots_are}
use Rattle.sema_table.proofs.Owned.{word_in, someones}
use Rattle.sema_table.proofs.Seeing.{counter_seen}
use Rattle.sema_table.proofs.Trying.{counter_look, looked_seat, is_value}
use Rattle.sema_table.proofs.CallerTries.{reads_number}
use Rattle.sema_table.proofs.sema_table.SemaTable.value_in_place.Goals as goal

pub look-requires : goal.look-requires
look-requires c =
    let s = c.args.token.now in let n = c.args.numbers.now in let k : ℕ = c.args.counter in let e = c.number.ensures in
    let w = c.counter_word-word.ensures.at in
    let at = c.requires.seat.1 ∙ sym c.self.view_is in
    let there = subst (λ (y : TableModel). c.args.counter < length y.setting.starts) (sym c.requires.seat.1) c.requires.counter in
    let low = word_in c.self.inside s c.self.invariant at (Counter k) there in (
      omega arith,
      (
        (ap (λ (t : TableModel). t.id) at, someones c.self.inside c.self.invariant s at),
        (
          omega (arith, e, w),
          counter_seen _ c.counter_word-word.result k (subst (λ (y : TableModel). k < length y.setting.starts) at there) (omega (arith, e, w)),
        ),
      ),
    )

pub returns-clause-seat : goal.returns-clause-seat
returns-clause-seat c =
    let s = c.args.token.now in let n = c.args.numbers.now in let t = c.look.new.token in let k : ℕ = c.args.counter in let e = c.number.ensures in
    let w = c.counter_word-word.ensures.at in
    looked_seat s t n (Counter k) c.look.result c.requires.seat.0
    (counter_look s.me.0.own t.me.0.own k c.counter_word-word.result c.look.result
    (subst (λ (y : TableModel). c.args.counter < length y.setting.starts) (sym c.requires.seat.1) c.requires.counter) (omega (arith, e, w)) c.look.ensures.went.0)
    c.look.ensures.own (slots_are c.look.ensures.went.1)

pub returns-clause-rows : goal.returns-clause-rows
returns-clause-rows c =
    let s = c.args.token.now in let n = c.args.numbers.now in let t = c.look.new.token in let k : ℕ = c.args.counter in let e = c.number.ensures in
    let w = c.counter_word-word.ensures.at in
    (is_value s t n k c.look.result c.requires.seat.0
    (counter_look s.me.0.own t.me.0.own k c.counter_word-word.result c.look.result
    (subst (λ (y : TableModel). c.args.counter < length y.setting.starts) (sym c.requires.seat.1) c.requires.counter) (omega (arith, e, w)) c.look.ensures.went.0)
    c.look.ensures.own (slots_are c.look.ensures.went.1))

pub returns-clause-caller : goal.returns-clause-caller
returns-clause-caller c = reads_number (seat_of c.args.token.now c.args.numbers.now) (seat_of c.look.new.token c.args.numbers.now) c.args.counter c.look.result (returns-clause-rows c)
