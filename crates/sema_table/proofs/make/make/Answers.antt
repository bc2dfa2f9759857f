use Rattle.std.proofs.Common.{rules, arith, ◌≡◌, ◌+◌, ◌-◌, ℕ, List, length, map, refl, sym, ap, ◌∙◌, subst}
use mathlib.Core.Option.{some}
use Rattle.std.proofs.lemmas.List.FromFn.{length-map-range_with_len}
use Rattle.running_rows.specs.Rule.{Opens, fresh_seat}
use Rattle.sema_table.specs.declared.view.Record.{Record}
use Rattle.sema_table.specs.declared.view.Setting.{Setting}
use Rattle.sema_table.specs.Setting.{words_in}
use Rattle.sema_table.specs.Rule.{setting_of}
use Rattle.sema_table.specs.Rows.{Me, semaphore_rows}
use Rattle.sema_table.specs.Seats.{TableModel, table_of}
use Rattle.sema_table.specs.Making.{new_seat, new_seats}
use Rattle.sema_table.proofs.Making.{opens, words_long, one_more, in_front}
use Rattle.sema_table.proofs.make.make.Goals as goal

pub new-requires : goal.new-requires
new-requires c = let a = c.requires in let z : Setting = setting_of c.args.key.now in
    let words = c.as_slice.ensures.value ∙ c.in_ok-numbers.ensures.words in (
      omega arith,
      subst (λ (p : List ℕ × List Record). Opens semaphore_rows z p.0 (map some p.1)) (λ i. (sym words i, sym c.in_ok-slots.ensures i))
          (opens z (let h = a.roots in omega arith) (let h = a.seats in omega arith) a.seats.1 a.release_limit.1 a.counters.1 c.in_ok-numbers.ensures.starts),
    )

pub make_seat-token-requires : goal.make_seat-token-requires
make_seat-token-requires c = let inv = c.loop-number.invariant in let E = c.in-Ok.ensures in let z : Setting = setting_of c.args.key.now in
    let made = ap (λ (m : Me). m.0.made) inv.first in let seats = ap (λ (m : Me). m.0.own.knows.setting.seats) inv.first in
    let wide = E.words in let long = ap length (c.as_slice.ensures.value ∙ c.in_ok-numbers.ensures.words) ∙ words_long z in let some = c.requires.seats in (
      omega arith,
      (
        (inv.same, omega (arith, wide, long, some)),
        ((let q = inv.count in omega (arith, made)), (let q = c.loop-number-test.true in omega (arith, made, seats))),
      ),
    )

pub new_seat-requires-clause-fresh : goal.new_seat-requires-clause-fresh
new_seat-requires-clause-fresh c = let f = c.loop-number.invariant.first in let made = c.make_seat-token.ensures.made in (
  setting_of c.args.key.now,
  ap (λ (m : Me). m.0.own) made ∙ ap (λ (m : Me). fresh_seat semaphore_rows m.0.own.knows.setting m.0.made) f,
  ap (λ (m : Me). m.1) made,
  refl,
  (let q = c.loop-number-test.true in let h = c.requires.seats in omega arith),
)

pub loop-number-preserved : goal.loop-number-preserved
loop-number-preserved c = let inv = c.loop-number.invariant in let f = inv.first in let s = c.make_seat-token.ensures in
    let n : ℕ = c.loop-number.number in let z : Setting = setting_of c.args.key.now in
    let t : TableModel = record { id = c.in-Ok.words.table.shared.table_id; setting = z } in
    let of : table_of c.make_seat-token.result ≡ t = λ i.
    record { id = (s.own.1 ∙ inv.same) i; setting = (ap (λ (m : Me). m.0.own.knows.setting) s.made ∙ ap (λ (m : Me). m.0.own.knows.setting) f) i } in
    let count = inv.count in record {
      same = s.own.0 ∙ inv.same;
      first = s.first ∙ (λ i. (record (f i).0 { made = (f i).0.made + 1 }, (f i).1));
      made = c.push_reserved.ensures.items
          ∙ one_more (new_seat t) 1 (n - 1) n c.loop-number.made.items c.new_seat.result (omega arith) inv.made
          (c.new_seat.ensures ∙ ap (λ (y : TableModel). new_seat y n) of)
          ∙ ap (new_seats t 1) (omega arith);
      count = search rules;
      upto = search rules;
      room = search rules;
    }

pub new_seat-requires-2-clause-fresh : goal.new_seat-requires-2-clause-fresh
new_seat-requires-2-clause-fresh c = let f = c.loop-number.invariant.first in
    (setting_of c.args.key.now, ap (λ (m : Me). m.0.own) f, ap (λ (m : Me). m.1) f, refl, (let h = c.requires.seats in omega arith))

pub invariant_of-table : goal.invariant_of-table
invariant_of-table c = let E = c.in-Ok.ensures in let z : Setting = setting_of c.args.key.now in let key = ap setting_of E.key in record {
  counted = search rules;
  rooted = ap (λ (y : Setting). y.roots) (sym key);
  seated = ap (λ (y : Setting). y.seats) (sym key);
  some = search rules;
  any = (let k = c.requires.counters in omega arith);
  few = ((let k = c.requires.seats.0 in omega arith), c.requires.seats.1);
  limited = ap (λ (y : Setting). y.limit) (sym key);
  low = c.requires.release_limit.0.1;
  shares = c.requires.release_limit.1;
  words = E.words ∙ ap length (c.as_slice.ensures.value ∙ c.in_ok-numbers.ensures.words) ∙ words_long z ∙ ap words_in (sym key);
  slots = E.slots ∙ ap length c.in_ok-slots.ensures ∙ length-map-range_with_len _ 0 z.roots ∙ ap (λ (y : Setting). y.roots) (sym key);
}

pub returns : goal.returns
returns c = let inv = c.loop-number.invariant in let E = c.in-Ok.ensures in let key = ap setting_of E.key in let id = c.in-Ok.words.table.shared.table_id in
    let t : TableModel = record { id = id; setting = setting_of c.args.key.now } in
    let of : table_of c.loop-number.first ≡ t = λ i. record { id = inv.same i; setting = (inv.first i).0.own.knows.setting } in
    let count = inv.count in let done = c.loop-number-test.false in record {
      allowed = c.requires;
      setting = key;
      seats_are = c.in-Ok-insert.ensures.items
          ∙ in_front t (record { id = id; setting = setting_of c.in-Ok.words.table.shared.key }) (c.loop-number.number - 1) c.args.key.now.settings.seats
          c.loop-number.made.items c.new_seat-2.result
          (ap (λ (y : Setting). record { id = id; setting = y }) (sym key)) (let h = inv.upto in omega arith) inv.made
          (c.new_seat-2.ensures ∙ ap (λ (y : TableModel). new_seat y 0) of);
    }
