use Rattle.std.proofs.Common.{◌≡◌, ◌+◌, ◌-◌, ◌%◌, ◌^◌, ◌<◌, ◌≤◌, ℕ, [], ◌∷◌, length, sym, ap, refl, ◌∙◌, subst}
use Rattle.std.proofs.Common.{inl, inr, arith}
use Rattle.step_table.specs.declared.place.ReleaseMany.{ReleaseMany}
use Rattle.step_table.specs.declared.place.ManyRow.TheVariants.{M1, M2}
use Rattle.step_table.specs.declared.place.Place.TheVariants.{ReleasingMany}
use Rattle.step_table.specs.declared.entry.Entry.TheVariants.{AddMany}
use Rattle.step_table.specs.declared.word.Word.TheVariants.{Counter, Waiters}
use Rattle.step_table.specs.World.{SeatState}
use Rattle.step_table.proofs.Sums.{on_here}
use Rattle.sema_table.specs.declared.seat.Numbers.{Numbers}
use Rattle.sema_table.specs.declared.many_seat.PostedMany.TheVariants.{Done, Owes}
use Rattle.sema_table.specs.Setting.{address}
use Rattle.sema_table.specs.Seats.{TableModel, SeatModel, seat_of}
use Rattle.sema_table.specs.ManySeats.{IsOwingMany}
use Rattle.sema_table.specs.Walks.{moved_to}
use Rattle.sema_table.specs.Many.{IsPostedMany}
use Rattle.sema_table.proofs.Striding.{slots_are}
use Rattle.sema_table.proofs.Owned.{someones, own, counter_in, word_in, counter_apart}
use Rattle.sema_table.proofs.Allowing.{owes, owes_here}
use Rattle.sema_table.proofs.Apart.{run_of, owes_of}
use Rattle.sema_table.proofs.Stepping.{counter_up_by}
use Rattle.sema_table.proofs.Walking.{spent_few, walked_spends}
use Rattle.sema_table.proofs.PostingMany.{walked_add, done_seat, owing_seat, posted_done, posted_owes}
use Rattle.sema_table.proofs.CallerPosts.{posts_many}
use Rattle.sema_table.proofs.sema_table.SemaTable.post_many.Goals as goal

pub add-requires : goal.add-requires
add-requires c =
    let s = c.seat.inside.token in let n = c.seat.inside.numbers in let N : ℕ = c.number.result in let A : ℕ = c.from-added.result in
    let a : ReleaseMany = record { counter = N; units = A } in
    let at = own c.self.inside s n c.self.view_is c.seat.view_is c.requires.seat.0 in
    let is : A ≡ c.args.units = c.from-added.ensures in let least : 1 ≤ c.args.units = c.requires.units.0 in
    let most : c.args.units ≤ 256 = c.requires.units.1 in
    let one : 1 ≤ A = omega arith in let many : A ≤ 256 = omega arith in
    let inside : N < length s.me.0.own.knows.setting.starts = subst (λ k. k < length s.me.0.own.knows.setting.starts) (sym c.number.ensures)
    (counter_in c.self.inside s n c.self.view_is c.seat.view_is c.requires.seat.0 c.requires.seat.1) in (
      omega arith,
      (
        (ap (λ (t : TableModel). t.id) at, someones c.self.inside c.self.invariant s at),
        (
          (let w = c.counter_word.ensures.at in let low = word_in c.self.inside s c.self.invariant at (Counter N) inside in omega (arith, w, low)),
          (
            counter_apart c.self.inside s c.self.invariant at N inside c.counter_word.ensures.at,
            owes_of (λ k. ReleasingMany (record { counter = k; units = A }) M1) c.counter_word.result N c.counter_word.ensures.at _ s.me (λ n. (n + A) % 2 ^ 64)
                (owes c.counter_word.result s.me (ReleasingMany a M1) (inr (inl (c.seat.invariant.free, (inside, one, many))))
                (spent_few s n A c.seat.invariant.token_is c.if-seat-added.false) _ (λ n. (n + A) % 2 ^ 64)
                (λ b y known. record {
                  fits = record {
                    word = sym c.counter_word.ensures.at;
                    there = inside;
                    can = refl;
                    becomes = counter_up_by known N A inside (sym c.counter_word.ensures.at) many;
                  };
                  apart = refl;
                })),
          ),
        ),
      ),
    )

pub load-requires : goal.load-requires
load-requires c =
    let s = c.seat.inside.token in let n = c.seat.inside.numbers in let N : ℕ = c.number.result in let A : ℕ = c.from-added.result in
    let a : ReleaseMany = record { counter = N; units = A } in
    let t = c.add.new.token in
    let at = own c.self.inside s n c.self.view_is c.seat.view_is c.requires.seat.0 in
    let walk = walked_add s t n a c.add.result
    (run_of (λ k. ReleasingMany (record { counter = k; units = c.from-added.result }) M1) c.counter_word.result c.number.result
    (c.counter_word.ensures.at) c.seat.inside.token.me.0.own c.add.result c.add.new.token.me.0.own c.add.ensures.went.0) c.add.ensures.own in
    let word : address t.me.0.own.knows.setting (Waiters N) ≡ c.waiter_word-word.result
    = ap (λ (y : TableModel). address y.setting (Waiters N)) (walk.table_is ∙ at ∙ c.self.view_is)
    ∙ sym (c.waiter_word-word.ensures.at ∙ ap (λ k. address c.args.self.now.setting (Waiters k)) (sym c.number.ensures)) in
    let low = word_in c.self.inside t c.self.invariant (walk.table_is ∙ at) (Waiters N) tt in (
      omega arith,
      (
        (c.add.ensures.own ∙ ap (λ (t : TableModel). t.id) at, someones c.self.inside c.self.invariant t (walk.table_is ∙ at)),
        (
          omega arith,
          owes_here _ c.waiter_word-word.result t.me (ReleasingMany a M2) (ap (λ (q : SeatState). q.place) walk.stands_is)
              (let x = walked_spends s t (ReleasingMany a M1) (moved_to s (ReleasingMany a M2)) (AddMany N A s.me.0.own.number ∷ []) 0 walk in
              let o = on_here s.me.0.own.number A in let b = spent_few s n A c.seat.invariant.token_is c.if-seat-added.false in omega arith) (λ n. n)
              (λ b y known. record { fits = record { word = word; there = tt; can = refl; becomes = refl }; apart = refl }),
        ),
      ),
    )

pub invariant_of-result : goal.invariant_of-result
invariant_of-result c = let a : ReleaseMany = record { counter = c.number.result; units = c.from-added.result } in
    done_seat c.seat.inside.token c.add.new.token c.load.new.token c.seat.inside.numbers a c.add.result c.load.result c.seat.invariant c.if-seat-added.false
    (run_of (λ k. ReleasingMany (record { counter = k; units = c.from-added.result }) M1) c.counter_word.result c.number.result
    (c.counter_word.ensures.at) c.seat.inside.token.me.0.own c.add.result c.add.new.token.me.0.own c.add.ensures.went.0) c.load.ensures.went.0 c.add.ensures.own
    c.load.ensures.own (slots_are c.add.ensures.went.1) (slots_are c.load.ensures.went.1) c.if-load-eq0.true

pub returns-then-load-eq0-clause-rows : goal.returns-then-load-eq0-clause-rows
returns-then-load-eq0-clause-rows c =
    let n = c.seat.inside.numbers in let N : ℕ = c.number.result in let A : ℕ = c.from-added.result in
    let a : ReleaseMany = record { counter = N; units = A } in let fewer : Numbers = record n { left = n.left - A } in
    let some : A ≤ n.left = c.if-seat-added.false in let is : A ≡ c.args.units = c.from-added.ensures in (
    subst (λ (s : SeatModel). (c.args.units ≤ s.left) × IsPostedMany s (record { counter = c.args.counter; units = c.args.units })
    (Done (seat_of c.load.new.token fewer))) c.seat.view_is (
      (omega arith),
      subst (λ (r : ReleaseMany). IsPostedMany (seat_of c.seat.inside.token n) r (Done (seat_of c.load.new.token fewer)))
          (λ i. record { counter = c.number.ensures i; units = c.from-added.ensures i })
          (posted_done c.seat.inside.token c.add.new.token c.load.new.token n a c.add.result c.load.result c.seat.invariant some
          (run_of (λ k. ReleasingMany (record { counter = k; units = c.from-added.result }) M1) c.counter_word.result c.number.result
          (c.counter_word.ensures.at) c.seat.inside.token.me.0.own c.add.result c.add.new.token.me.0.own c.add.ensures.went.0) c.load.ensures.went.0
          c.add.ensures.own c.load.ensures.own (slots_are c.add.ensures.went.1) (slots_are c.load.ensures.went.1) c.if-load-eq0.true),
    ))

pub returns-then-load-eq0-clause-caller : goal.returns-then-load-eq0-clause-caller
returns-then-load-eq0-clause-caller c = let n = c.seat.inside.numbers in let fewer : Numbers = record n { left = n.left - c.from-added.result } in
    posts_many c.args.seat c.args.counter c.args.units (Done (seat_of c.load.new.token fewer)) (returns-then-load-eq0-clause-rows c)

pub invariant_of-result-2 : goal.invariant_of-result-2
invariant_of-result-2 c =
    let s = c.seat.inside.token in let n = c.seat.inside.numbers in let N : ℕ = c.number.result in let A : ℕ = c.from-added.result in
    let a : ReleaseMany = record { counter = N; units = A } in let fewer : Numbers = record n { left = n.left - A } in
    let is : A ≡ c.args.units = c.from-added.ensures in let least : 1 ≤ c.args.units = c.requires.units.0 in
    let most : c.args.units ≤ 256 = c.requires.units.1 in
    let one : 1 ≤ A = omega arith in let many : A ≤ 256 = omega arith in
    subst (λ (r : ReleaseMany). IsOwingMany c.load.new.token fewer r)
    (λ i. record { counter = c.number.ensures i; units = c.from-added.ensures i })
    (owing_seat s c.add.new.token c.load.new.token n a c.add.result c.load.result c.seat.invariant c.if-seat-added.false
    (run_of (λ k. ReleasingMany (record { counter = k; units = c.from-added.result }) M1) c.counter_word.result c.number.result
    (c.counter_word.ensures.at) c.seat.inside.token.me.0.own c.add.result c.add.new.token.me.0.own c.add.ensures.went.0) c.load.ensures.went.0 c.add.ensures.own
    c.load.ensures.own (slots_are c.add.ensures.went.1) (slots_are c.load.ensures.went.1) (let z = c.if-load-eq0.false in omega (arith, z))
    (subst (λ k. k < length s.me.0.own.knows.setting.starts) (sym c.number.ensures)
    (counter_in c.self.inside s n c.self.view_is c.seat.view_is c.requires.seat.0 c.requires.seat.1))
    (one, many))

pub returns-clause-rows : goal.returns-clause-rows
returns-clause-rows c =
    let n = c.seat.inside.numbers in let N : ℕ = c.number.result in let A : ℕ = c.from-added.result in
    let a : ReleaseMany = record { counter = N; units = A } in let fewer : Numbers = record n { left = n.left - A } in
    let some : A ≤ n.left = c.if-seat-added.false in let is : A ≡ c.args.units = c.from-added.ensures in (
    subst (λ (s : SeatModel). (c.args.units ≤ s.left) × IsPostedMany s (record { counter = c.args.counter; units = c.args.units })
    (Owes (seat_of c.load.new.token fewer))) c.seat.view_is (
      (omega arith),
      subst (λ (r : ReleaseMany). IsPostedMany (seat_of c.seat.inside.token n) r (Owes (seat_of c.load.new.token fewer)))
          (λ i. record { counter = c.number.ensures i; units = c.from-added.ensures i })
          (posted_owes c.seat.inside.token c.add.new.token c.load.new.token n a c.add.result c.load.result c.seat.invariant some
          (run_of (λ k. ReleasingMany (record { counter = k; units = c.from-added.result }) M1) c.counter_word.result c.number.result
          (c.counter_word.ensures.at) c.seat.inside.token.me.0.own c.add.result c.add.new.token.me.0.own c.add.ensures.went.0) c.load.ensures.went.0
          c.add.ensures.own c.load.ensures.own (slots_are c.add.ensures.went.1) (slots_are c.load.ensures.went.1)
          (let z = c.if-load-eq0.false in omega (arith, z))),
    ))

pub returns-clause-caller : goal.returns-clause-caller
returns-clause-caller c = let n = c.seat.inside.numbers in let fewer : Numbers = record n { left = n.left - c.from-added.result } in
    posts_many c.args.seat c.args.counter c.args.units (Owes (seat_of c.load.new.token fewer)) (returns-clause-rows c)
