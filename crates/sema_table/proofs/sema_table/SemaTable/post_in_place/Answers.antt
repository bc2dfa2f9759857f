use Rattle.std.proofs.Common.{◌≡◌, ◌+◌, ◌-◌, ◌%◌, ◌^◌, ◌<◌, ℕ, [], ◌∷◌, length, sym, ap, refl, ◌∙◌, subst, inl, inr}
use Rattle.std.proofs.Common.{arith}
use Rattle.step_table.specs.declared.place.ReleaseRow.TheVariants.{R1, R2}
use Rattle.step_table.specs.declared.entry.Entry.TheVariants.{Add}
use Rattle.step_table.specs.declared.word.Word.TheVariants.{Counter, Waiters}
use Rattle.step_table.specs.World.{SeatState}
use Rattle.step_table.proofs.Sums.{on_here}
use Rattle.sema_table.specs.declared.seat.Numbers.{Numbers}
use Rattle.sema_table.specs.declared.answers.Posted.TheVariants.{Done, Owes}
use Rattle.sema_table.specs.Setting.{address}
use Rattle.sema_table.specs.Seats.{TableModel, seat_of, IsOwing}
use Rattle.sema_table.specs.Walks.{moved_to}
use Rattle.sema_table.specs.Tries.{releasing, IsPosted}
use Rattle.sema_table.proofs.Striding.{slots_are}
use Rattle.sema_table.proofs.Owned.{someones, word_in, counter_apart}
use Rattle.sema_table.proofs.Allowing.{owes, owes_here}
use Rattle.sema_table.proofs.Apart.{run_of, owes_of}
use Rattle.sema_table.proofs.Stepping.{counter_up}
use Rattle.sema_table.proofs.Walking.{spent_few, walked_spends}
use Rattle.sema_table.proofs.Posting.{walked_add, done_seat, owing_seat, posted_done, posted_owes}
use Rattle.sema_table.proofs.CallerPosts.{posts}
use Rattle.sema_table.proofs.sema_table.SemaTable.post_in_place.Goals as goal

pub add-requires : goal.add-requires
add-requires c =
    let s = c.args.token.now in let n = c.args.numbers.now in let N : ℕ = c.number.result in
    let at = c.requires.seat.1 ∙ sym c.self.view_is in
    let inside : N < length s.me.0.own.knows.setting.starts = subst (λ k. k < length s.me.0.own.knows.setting.starts) (sym c.number.ensures)
    (subst (λ (y : TableModel). c.args.counter < length y.setting.starts) (sym c.requires.seat.1) c.requires.counter) in (
      omega arith,
      (
        (ap (λ (t : TableModel). t.id) at, someones c.self.inside c.self.invariant s at),
        (
          (let w = c.counter_word.ensures.at in let low = word_in c.self.inside s c.self.invariant at (Counter N) inside in omega (arith, w, low)),
          (
            counter_apart c.self.inside s c.self.invariant at N inside c.counter_word.ensures.at,
            owes_of (λ k. releasing k R1) c.counter_word.result N c.counter_word.ensures.at _ s.me (λ n. (n + 1) % 2 ^ 64)
                (owes c.counter_word.result s.me (releasing N R1) (inr (inl (c.requires.seat.0.free, inside)))
                (spent_few s n 1 c.requires.seat.0.token_is c.requires.some) _ (λ n. (n + 1) % 2 ^ 64)
                (λ b y known. record {
                  fits = record {
                    word = sym c.counter_word.ensures.at;
                    there = inside;
                    can = refl;
                    becomes = counter_up known N inside (sym c.counter_word.ensures.at);
                  };
                  apart = refl;
                })),
          ),
        ),
      ),
    )

pub load-requires : goal.load-requires
load-requires c =
    let s = c.args.token.now in let n = c.args.numbers.now in let N : ℕ = c.number.result in let t = c.add.new.token in
    let at = c.requires.seat.1 ∙ sym c.self.view_is in
    let walk = walked_add s t n N c.add.result
    (run_of (λ k. releasing k R1) c.counter_word.result c.number.result (c.counter_word.ensures.at) c.args.token.now.me.0.own c.add.result
    c.add.new.token.me.0.own c.add.ensures.went.0) c.add.ensures.own in
    let word : address t.me.0.own.knows.setting (Waiters N) ≡ c.waiter_word-word.result
    = ap (λ (y : TableModel). address y.setting (Waiters N)) (walk.table_is ∙ at ∙ c.self.view_is)
    ∙ sym (c.waiter_word-word.ensures.at ∙ ap (λ k. address c.args.self.now.setting (Waiters k)) (sym c.number.ensures)) in
    let low = word_in c.self.inside t c.self.invariant (walk.table_is ∙ at) (Waiters N) tt in (
      omega arith,
      (
        (c.add.ensures.own ∙ ap (λ (t : TableModel). t.id) at, someones c.self.inside c.self.invariant t (walk.table_is ∙ at)),
        (
          omega arith,
          owes_here _ c.waiter_word-word.result t.me (releasing N R2) (ap (λ (q : SeatState). q.place) walk.stands_is)
              (let a = walked_spends s t (releasing N R1) (moved_to s (releasing N R2)) (Add N s.me.0.own.number ∷ []) 0 walk in
              let o = on_here s.me.0.own.number 1 in let b = spent_few s n 1 c.requires.seat.0.token_is c.requires.some in
              omega arith) (λ n. n)
              (λ b y known. record { fits = record { word = word; there = tt; can = refl; becomes = refl }; apart = refl }),
        ),
      ),
    )

pub returns-then-load-eq0-clause-seat : goal.returns-then-load-eq0-clause-seat
returns-then-load-eq0-clause-seat c = done_seat c.args.token.now c.add.new.token c.load.new.token c.args.numbers.now c.number.result c.add.result c.load.result
    c.requires.seat.0 c.requires.some
    (run_of (λ k. releasing k R1) c.counter_word.result c.number.result (c.counter_word.ensures.at) c.args.token.now.me.0.own c.add.result
    c.add.new.token.me.0.own c.add.ensures.went.0) c.load.ensures.went.0 c.add.ensures.own c.load.ensures.own (slots_are c.add.ensures.went.1)
    (slots_are c.load.ensures.went.1) c.if-load-eq0.true

pub returns-then-load-eq0-clause-rows : goal.returns-then-load-eq0-clause-rows
returns-then-load-eq0-clause-rows c =
    let n = c.args.numbers.now in let some : 0 < n.left = c.requires.some in
    let fewer : Numbers = record n { left = n.left - 1 } in
    subst (λ k. IsPosted (seat_of c.args.token.now n) k (Done (seat_of c.load.new.token fewer))) c.number.ensures
    (posted_done c.args.token.now c.add.new.token c.load.new.token n c.number.result c.add.result c.load.result c.requires.seat.0 some
    (run_of (λ k. releasing k R1) c.counter_word.result c.number.result (c.counter_word.ensures.at) c.args.token.now.me.0.own c.add.result
    c.add.new.token.me.0.own c.add.ensures.went.0) c.load.ensures.went.0 c.add.ensures.own c.load.ensures.own (slots_are c.add.ensures.went.1)
    (slots_are c.load.ensures.went.1) c.if-load-eq0.true)

pub returns-then-load-eq0-clause-caller : goal.returns-then-load-eq0-clause-caller
returns-then-load-eq0-clause-caller c = let n = c.args.numbers.now in let fewer : Numbers = record n { left = n.left - 1 } in
    posts (seat_of c.args.token.now c.args.numbers.now) c.args.counter (Done (seat_of c.load.new.token fewer)) (c.requires.some, returns-then-load-eq0-clause-rows c)

pub returns-clause-seat : goal.returns-clause-seat
returns-clause-seat c = let n = c.args.numbers.now in let fewer : Numbers = record n { left = n.left - 1 } in
    subst (λ k. IsOwing c.load.new.token fewer k) c.number.ensures (owing_seat c.args.token.now c.add.new.token c.load.new.token c.args.numbers.now c.number.result c.add.result
    c.load.result c.requires.seat.0 c.requires.some
    (run_of (λ k. releasing k R1) c.counter_word.result c.number.result (c.counter_word.ensures.at) c.args.token.now.me.0.own c.add.result
    c.add.new.token.me.0.own c.add.ensures.went.0) c.load.ensures.went.0 c.add.ensures.own c.load.ensures.own (slots_are c.add.ensures.went.1)
    (slots_are c.load.ensures.went.1) (let z = c.if-load-eq0.false in omega (arith, z))
    (subst (λ k. k < length c.args.token.now.me.0.own.knows.setting.starts) (sym c.number.ensures)
    (subst (λ (y : TableModel). c.args.counter < length y.setting.starts) (sym c.requires.seat.1) c.requires.counter)))

pub returns-clause-rows : goal.returns-clause-rows
returns-clause-rows c =
    let n = c.args.numbers.now in let some : 0 < n.left = c.requires.some in
    let fewer : Numbers = record n { left = n.left - 1 } in
    subst (λ k. IsPosted (seat_of c.args.token.now n) k (Owes (seat_of c.load.new.token fewer))) c.number.ensures
    (posted_owes c.args.token.now c.add.new.token c.load.new.token n c.number.result c.add.result c.load.result c.requires.seat.0 some
    (run_of (λ k. releasing k R1) c.counter_word.result c.number.result (c.counter_word.ensures.at) c.args.token.now.me.0.own c.add.result
    c.add.new.token.me.0.own c.add.ensures.went.0) c.load.ensures.went.0 c.add.ensures.own c.load.ensures.own (slots_are c.add.ensures.went.1)
    (slots_are c.load.ensures.went.1) (let z = c.if-load-eq0.false in omega (arith, z)))

pub returns-clause-caller : goal.returns-clause-caller
returns-clause-caller c = let n = c.args.numbers.now in let fewer : Numbers = record n { left = n.left - 1 } in
    posts (seat_of c.args.token.now c.args.numbers.now) c.args.counter (Owes (seat_of c.load.new.token fewer)) (c.requires.some, returns-clause-rows c)
