use Rattle.std.proofs.Common.{◌+◌, ◌-◌, ◌<◌, ◌==◌, ℕ, length, sym, ap, refl, ◌∙◌, subst, [], inl, inr, arith}
use prog.Atomic.{either}
use Rattle.step_table.specs.declared.place.AcquireRow.TheVariants.{A1, A2}
use Rattle.step_table.specs.declared.word.Word.TheVariants.{Counter}
use Rattle.sema_table.specs.declared.answers.Tried.TheVariants.{Taken, Zero, Lost}
use Rattle.sema_table.specs.Seats.{TableModel, seat_of}
use Rattle.sema_table.specs.Tries.{acquiring, IsTried}
use Rattle.sema_table.specs.Changes.{HasChanged}
use Rattle.sema_table.proofs.Striding.{slots_are}
use Rattle.sema_table.proofs.Owned.{someones, word_in, counter_apart}
use Rattle.sema_table.proofs.Allowing.{owes, owes_here}
use Rattle.sema_table.proofs.Apart.{run_of, owes_of}
use Rattle.sema_table.proofs.Leading.{exchanged}
use Rattle.step_table.specs.World.{SeatState}
use Rattle.sema_table.specs.declared.seat.Numbers.{Numbers}
use Rattle.sema_table.specs.Walks.{moved_to}
use Rattle.sema_table.proofs.Walking.{spent_few, walked_spends}
use Rattle.sema_table.proofs.Trying.{walked_some, zero_seat, tried_zero, lost_seat, tried_lost, lost_changed, taken_seat, tried_taken}
use Rattle.sema_table.proofs.CallerTries.{tries}
use Rattle.sema_table.proofs.sema_table.SemaTable.try_in_place.Goals as goal

pub load-found-requires : goal.load-found-requires
load-found-requires c =
    let at = c.requires.seat.1 ∙ sym c.self.view_is in let N : ℕ = c.number.result in
    let inside : N < length c.args.token.now.me.0.own.knows.setting.starts = subst (λ k. k < length c.args.token.now.me.0.own.knows.setting.starts)
    (sym c.number.ensures) (subst (λ (y : TableModel). c.args.counter < length y.setting.starts) (sym c.requires.seat.1) c.requires.counter) in (
      omega arith,
      (
        (ap (λ (t : TableModel). t.id) at, someones c.self.inside c.self.invariant c.args.token.now at),
        (
          (let w = c.counter_word-word.ensures.at in
              let low = word_in c.self.inside c.args.token.now c.self.invariant at (Counter N) inside in omega (arith, w, low)),
          owes_of (λ k. acquiring k A1) c.counter_word-word.result N c.counter_word-word.ensures.at _ c.args.token.now.me (λ n. n)
              (owes c.counter_word-word.result c.args.token.now.me (acquiring N A1) (inr (inl (c.requires.seat.0.free, inside)))
              (spent_few c.args.token.now c.args.numbers.now 0 c.requires.seat.0.token_is (omega arith)) _ (λ n. n)
              (λ b n known. record { fits = record { word = sym c.counter_word-word.ensures.at; there = inside; can = refl; becomes = refl }; apart = refl })),
        ),
      ),
    )

pub returns-then-found-eq0-clause-seat : goal.returns-then-found-eq0-clause-seat
returns-then-found-eq0-clause-seat c = zero_seat c.args.token.now c.load-found.new.token c.args.numbers.now c.number.result c.load-found.result c.requires.seat.0
    (run_of (λ k. acquiring k A1) c.counter_word-word.result c.number.result (c.counter_word-word.ensures.at) c.args.token.now.me.0.own c.load-found.result
    c.load-found.new.token.me.0.own c.load-found.ensures.went.0) c.load-found.ensures.own (slots_are c.load-found.ensures.went.1) c.if-found-eq0.true

pub returns-then-found-eq0-clause-rows : goal.returns-then-found-eq0-clause-rows
returns-then-found-eq0-clause-rows c =
    let n = c.args.numbers.now in let t = c.load-found.new.token in
    (subst (λ k. IsTried (seat_of c.args.token.now n) k Zero (seat_of t n)) c.number.ensures
    (tried_zero c.args.token.now t n c.number.result c.load-found.result c.requires.seat.0
    (run_of (λ k. acquiring k A1) c.counter_word-word.result c.number.result (c.counter_word-word.ensures.at) c.args.token.now.me.0.own c.load-found.result
    c.load-found.new.token.me.0.own c.load-found.ensures.went.0) c.load-found.ensures.own (slots_are c.load-found.ensures.went.1) c.if-found-eq0.true))

pub returns-then-found-eq0-clause-caller : goal.returns-then-found-eq0-clause-caller
returns-then-found-eq0-clause-caller c =
    tries (seat_of c.args.token.now c.args.numbers.now) (seat_of c.load-found.new.token c.args.numbers.now) c.args.counter Zero (returns-then-found-eq0-clause-rows c)

pub exchange-requires : goal.exchange-requires
exchange-requires c =
    let s = c.args.token.now in let n = c.args.numbers.now in let t = c.load-found.new.token in
    let N : ℕ = c.number.result in let k : ℕ = c.load-found.result in
    let R = (run_of (λ k. acquiring k A1) c.counter_word-word.result c.number.result (c.counter_word-word.ensures.at) c.args.token.now.me.0.own
    c.load-found.result c.load-found.new.token.me.0.own c.load-found.ensures.went.0) in let same = c.load-found.ensures.own in
    let at = c.requires.seat.1 ∙ sym c.self.view_is in
    let some : 0 < k = (let z = c.if-found-eq0.false in omega (arith, z)) in
    let walk = walked_some s t n N k c.requires.seat.0 R same (slots_are c.load-found.ensures.went.1) some in
    let inside : N < length t.me.0.own.knows.setting.starts = subst (λ (y : TableModel). N < length y.setting.starts) (sym walk.table_is)
    (subst (λ j. j < length s.me.0.own.knows.setting.starts) (sym c.number.ensures)
    (subst (λ (y : TableModel). c.args.counter < length y.setting.starts) (sym c.requires.seat.1) c.requires.counter)) in (
      omega arith,
      (
        (same ∙ ap (λ (t : TableModel). t.id) at, someones c.self.inside c.self.invariant t (walk.table_is ∙ at)),
        (
          (let w = c.counter_word-word.ensures.at in let low = word_in c.self.inside t c.self.invariant (walk.table_is ∙ at) (Counter N) inside in
              omega (arith, w, low)),
          (
            counter_apart c.self.inside t c.self.invariant (walk.table_is ∙ at) N inside c.counter_word-word.ensures.at,
            owes_here _ c.counter_word-word.result t.me (acquiring N (A2 (k - 1))) (ap (λ (q : SeatState). q.place) walk.stands_is)
                (let a = walked_spends s t (acquiring N A1) (moved_to s (acquiring N (A2 (k - 1)))) [] 0 walk in
                let b = spent_few s n 0 c.requires.seat.0.token_is (omega arith) in omega arith) (λ y. either (y == k) (k - 1) y)
                (λ b y known. record {
                  fits = record { word = sym c.counter_word-word.ensures.at; there = inside; can = refl; becomes = exchanged k y some };
                  apart = refl;
                }),
          ),
        ),
      ),
    )

pub returns-then-exchange-found-clause-seat : goal.returns-then-exchange-found-clause-seat
returns-then-exchange-found-clause-seat c =
    lost_seat c.args.token.now c.load-found.new.token c.exchange.new.token c.args.numbers.now c.number.result c.load-found.result c.exchange.result
    c.requires.seat.0 (run_of (λ k. acquiring k A1) c.counter_word-word.result c.number.result (c.counter_word-word.ensures.at) c.args.token.now.me.0.own
    c.load-found.result c.load-found.new.token.me.0.own c.load-found.ensures.went.0) c.exchange.ensures.went.0
    c.load-found.ensures.own c.exchange.ensures.own (slots_are c.load-found.ensures.went.1) (slots_are c.exchange.ensures.went.1)
    (let z = c.if-found-eq0.false in omega (arith, z)) c.if-exchange-found.true

pub returns-then-exchange-found-clause-rows : goal.returns-then-exchange-found-clause-rows
returns-then-exchange-found-clause-rows c =
    let n = c.args.numbers.now in let u = c.exchange.new.token in
    (subst (λ k. IsTried (seat_of c.args.token.now n) k Lost (seat_of u n)) c.number.ensures
    (tried_lost c.args.token.now c.load-found.new.token u n c.number.result c.load-found.result c.exchange.result c.requires.seat.0
    (run_of (λ k. acquiring k A1) c.counter_word-word.result c.number.result (c.counter_word-word.ensures.at) c.args.token.now.me.0.own c.load-found.result
    c.load-found.new.token.me.0.own c.load-found.ensures.went.0) c.exchange.ensures.went.0
    c.load-found.ensures.own c.exchange.ensures.own (slots_are c.load-found.ensures.went.1) (slots_are c.exchange.ensures.went.1)
    (let z = c.if-found-eq0.false in omega (arith, z)) c.if-exchange-found.true))

pub returns-then-exchange-found-clause-caller : goal.returns-then-exchange-found-clause-caller
returns-then-exchange-found-clause-caller c =
    tries (seat_of c.args.token.now c.args.numbers.now) (seat_of c.exchange.new.token c.args.numbers.now) c.args.counter Lost (returns-then-exchange-found-clause-rows c)

pub returns-then-exchange-found-clause-settles : goal.returns-then-exchange-found-clause-settles
returns-then-exchange-found-clause-settles c =
    let s = c.args.token.now in let u = c.exchange.new.token in
    subst (λ k. HasChanged k s.me.0.own.knows.seen u.me.0.own.knows.seen) c.number.ensures
    (lost_changed s c.load-found.new.token u c.args.numbers.now c.number.result c.load-found.result c.exchange.result c.requires.seat.0
    (run_of (λ k. acquiring k A1) c.counter_word-word.result c.number.result (c.counter_word-word.ensures.at) s.me.0.own c.load-found.result
    c.load-found.new.token.me.0.own c.load-found.ensures.went.0) c.exchange.ensures.went.0
    c.load-found.ensures.own c.exchange.ensures.own (slots_are c.load-found.ensures.went.1) (slots_are c.exchange.ensures.went.1)
    (let z = c.if-found-eq0.false in omega (arith, z)) c.if-exchange-found.true)

pub overflow_add-numbers : goal.overflow_add-numbers
overflow_add-numbers c = let m = c.requires.seat.0.token_is.most in omega arith

pub returns-clause-seat : goal.returns-clause-seat
returns-clause-seat c =
    taken_seat c.args.token.now c.load-found.new.token c.exchange.new.token c.args.numbers.now c.number.result c.load-found.result c.exchange.result
    c.requires.seat.0 (run_of (λ k. acquiring k A1) c.counter_word-word.result c.number.result (c.counter_word-word.ensures.at) c.args.token.now.me.0.own
    c.load-found.result c.load-found.new.token.me.0.own c.load-found.ensures.went.0) c.exchange.ensures.went.0
    c.load-found.ensures.own c.exchange.ensures.own (slots_are c.load-found.ensures.went.1) (slots_are c.exchange.ensures.went.1)
    (let z = c.if-found-eq0.false in omega (arith, z)) c.if-exchange-found.false

pub returns-clause-rows : goal.returns-clause-rows
returns-clause-rows c =
    let n = c.args.numbers.now in let u = c.exchange.new.token in let counted : Numbers = record n { taken = n.taken + 1 } in
    (subst (λ k. IsTried (seat_of c.args.token.now n) k Taken (seat_of u counted)) c.number.ensures
    (tried_taken c.args.token.now c.load-found.new.token u n c.number.result c.load-found.result c.exchange.result c.requires.seat.0
    (run_of (λ k. acquiring k A1) c.counter_word-word.result c.number.result (c.counter_word-word.ensures.at) c.args.token.now.me.0.own c.load-found.result
    c.load-found.new.token.me.0.own c.load-found.ensures.went.0) c.exchange.ensures.went.0
    c.load-found.ensures.own c.exchange.ensures.own (slots_are c.load-found.ensures.went.1) (slots_are c.exchange.ensures.went.1)
    (let z = c.if-found-eq0.false in omega (arith, z)) c.if-exchange-found.false))

pub returns-clause-caller : goal.returns-clause-caller
returns-clause-caller c = let n = c.args.numbers.now in let counted : Numbers = record n { taken = n.taken + 1 } in
    tries (seat_of c.args.token.now c.args.numbers.now) (seat_of c.exchange.new.token counted) c.args.counter Taken (returns-clause-rows c)
