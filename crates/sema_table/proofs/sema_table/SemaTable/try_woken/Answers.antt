use Rattle.std.proofs.Common.{◌-◌, ◌<◌, ◌==◌, ℕ, [], length, sym, ap, refl, ◌∙◌, subst, arith}
use prog.Atomic.{either}
use Rattle.step_table.specs.declared.place.AcquireRow.TheVariants.{A10, A11}
use Rattle.step_table.specs.declared.place.Place.TheVariants.{Acquiring}
use Rattle.step_table.specs.declared.word.Word.TheVariants.{Counter}
use Rattle.step_table.specs.World.{SeatState}
use Rattle.sema_table.specs.Seats.{TableModel}
use Rattle.sema_table.specs.Walks.{moved_to}
use Rattle.sema_table.proofs.Striding.{slots_are}
use Rattle.sema_table.proofs.Owned.{someones, word_in, counter_apart}
use Rattle.sema_table.proofs.Allowing.{owes_here}
use Rattle.sema_table.proofs.Leading.{exchanged}
use Rattle.sema_table.proofs.Walking.{walked_spends, walked_yet}
use Rattle.sema_table.proofs.Retrying.{zero_again, some_again, won_again, lost_again, again_changed}
use Rattle.sema_table.proofs.sema_table.SemaTable.try_woken.Goals as goal

pub load-found-requires : goal.load-found-requires
load-found-requires c =
    let s = c.args.token.now in let a = c.args.call.now in let r = c.requires in let N : ℕ = c.number.result in
    let t = r.table_is ∙ sym c.self.view_is in
    let inside : N < length s.me.0.own.knows.setting.starts
    = subst (λ (y : TableModel). N < length y.setting.starts) (sym r.table_is) (let e = c.number.ensures in let h = r.inside in omega arith) in
    let low = word_in c.self.inside s c.self.invariant t (Counter N) inside in let w = c.counter_word-word.ensures.at in let e = c.number.ensures in (
      omega arith,
      (
        (ap (λ (y : TableModel). y.id) t, someones c.self.inside c.self.invariant s t),
        (
          omega (arith, w, low),
          owes_here _ c.counter_word-word.result s.me (Acquiring a A10) r.place_is (let b = r.limited in omega arith) (λ n. n)
              (λ b n known. record {
                fits = record {
                  word = omega (arith, e, w);
                  there = subst (λ k. k < length s.me.0.own.knows.setting.starts) e inside;
                  can = refl;
                  becomes = refl;
                };
                apart = refl;
              }),
        ),
      ),
    )

pub exchange-requires : goal.exchange-requires
exchange-requires c =
    let s = c.args.token.now in let u = c.load-found.new.token in let a = c.args.call.now in let r = c.requires in
    let N : ℕ = c.number.result in let n : ℕ = c.load-found.result in
    let some : 0 < n = (let z = c.if-found-eq0.false in omega (arith, z)) in
    let x = some_again s s u a n (walked_yet c.args.self.now s (Acquiring a A10) refl r) c.load-found.ensures.went.0 c.load-found.ensures.own
    some in
    let t = x.table_is ∙ r.table_is ∙ sym c.self.view_is in
    let inside : N < length u.me.0.own.knows.setting.starts
    = subst (λ (y : TableModel). N < length y.setting.starts) (sym (x.table_is ∙ r.table_is))
    (let e = c.number.ensures in let h = r.inside in omega arith) in
    let low = word_in c.self.inside u c.self.invariant t (Counter N) inside in let w = c.counter_word-word.ensures.at in let e = c.number.ensures in (
      omega arith,
      (
        (ap (λ (y : TableModel). y.id) t, someones c.self.inside c.self.invariant u t),
        (
          omega (arith, w, low),
          (
            counter_apart c.self.inside u c.self.invariant t N inside c.counter_word-word.ensures.at,
            owes_here _ c.counter_word-word.result u.me (Acquiring a (A11 (n - 1))) (ap (λ (y : SeatState). y.place) x.stands_is)
                (let b = r.limited in let d = walked_spends s u (Acquiring a A10) (moved_to s (Acquiring a (A11 (n - 1)))) [] 0 x in omega arith)
                (λ y. either (y == n) (n - 1) y)
                (λ b y known. record {
                  fits = record {
                    word = omega (arith, e, w);
                    there = subst (λ k. k < length u.me.0.own.knows.setting.starts) e inside;
                    can = refl;
                    becomes = exchanged n y some;
                  };
                  apart = refl;
                }),
          ),
        ),
      ),
    )

pub returns-then-found-eq0-clause-slots : goal.returns-then-found-eq0-clause-slots
returns-then-found-eq0-clause-slots c = slots_are c.load-found.ensures.went.1

pub returns-then-exchange-found-clause-slots : goal.returns-then-exchange-found-clause-slots
returns-then-exchange-found-clause-slots c = slots_are c.exchange.ensures.went.1 ∙ slots_are c.load-found.ensures.went.1

pub returns-clause-slots : goal.returns-clause-slots
returns-clause-slots c = slots_are c.exchange.ensures.went.1 ∙ slots_are c.load-found.ensures.went.1

pub returns-then-found-eq0-clause-tried : goal.returns-then-found-eq0-clause-tried
returns-then-found-eq0-clause-tried c =
    zero_again c.args.token.now c.args.token.now c.load-found.new.token c.args.call.now c.load-found.result
    (walked_yet c.args.self.now c.args.token.now (Acquiring c.args.call.now A10) refl c.requires)
    c.load-found.ensures.went.0 c.load-found.ensures.own c.if-found-eq0.true

pub returns-then-exchange-found-clause-tried : goal.returns-then-exchange-found-clause-tried
returns-then-exchange-found-clause-tried c = (
  lost_again c.args.token.now c.args.token.now c.load-found.new.token c.args.call.now c.load-found.result
      (walked_yet c.args.self.now c.args.token.now (Acquiring c.args.call.now A10) refl c.requires)
      c.load-found.ensures.went.0 c.load-found.ensures.own
      c.exchange.new.token c.exchange.result (let z = c.if-found-eq0.false in omega (arith, z)) c.exchange.ensures.went.0 c.exchange.ensures.own
      c.if-exchange-found.true,
  again_changed c.args.token.now c.args.token.now c.load-found.new.token c.args.call.now c.load-found.result
      (walked_yet c.args.self.now c.args.token.now (Acquiring c.args.call.now A10) refl c.requires)
      c.load-found.ensures.went.0 c.load-found.ensures.own
      c.exchange.new.token c.exchange.result (let z = c.if-found-eq0.false in omega (arith, z)) c.exchange.ensures.went.0 c.exchange.ensures.own
      c.if-exchange-found.true,
)

pub returns-clause-tried : goal.returns-clause-tried
returns-clause-tried c =
    won_again c.args.token.now c.args.token.now c.load-found.new.token c.args.call.now c.load-found.result
    (walked_yet c.args.self.now c.args.token.now (Acquiring c.args.call.now A10) refl c.requires)
    c.load-found.ensures.went.0 c.load-found.ensures.own
    c.exchange.new.token c.exchange.result (let z = c.if-found-eq0.false in omega (arith, z)) c.exchange.ensures.went.0 c.exchange.ensures.own
    c.if-exchange-found.false
