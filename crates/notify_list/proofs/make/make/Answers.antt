use Rattle.std.proofs.Common.{rules, arith, ◌≡◌, ◌-◌, ℕ, List, length, map, sym, ap, ◌∙◌, subst}
use mathlib.Core.Option.{some}
use Rattle.running_rows.specs.Rule.{Opens, fresh_seat, making}
use Rattle.notify_list.specs.declared.view.Record.{Record}
use Rattle.notify_list.specs.declared.view.Setting.{Setting}
use Rattle.notify_list.specs.Setting.{words_in}
use Rattle.notify_list.specs.Rows.{list_rows}
use Rattle.notify_list.specs.Plays.{Me}
use Rattle.notify_list.specs.Seats.{ListModel, list_of}
use Rattle.notify_list.specs.Making.{new_seat, new_seats}
use Rattle.notify_list.proofs.Making.{opens, words_long, one_more, in_front}
use Rattle.notify_list.proofs.make.make.Goals as goal

pub new-requires : goal.new-requires
new-requires c = let z : Setting = c.args.setting in
    let starts = c.as_slice.ensures.value ∙ c.in_ok-starts.ensures in
    let slots = c.in_ok-slots.ensures in (
      omega arith,
      subst (λ (p : List ℕ × List Record). Opens list_rows z p.0 (map some p.1)) (λ i. (sym starts i, sym slots.1 i))
          (opens z slots.0 c.requires.1 c.requires.0 slots.2),
    )

pub make_seat-token-requires : goal.make_seat-token-requires
make_seat-token-requires c = let inv = c.loop-number.invariant in let E = c.in-Ok.ensures.words in let z : Setting = c.args.setting in
    let made = ap (λ (m : Me). m.0.made) inv.first in let seats = ap (λ (m : Me). m.0.own.knows.setting.seats) inv.first in
    let long = ap length (c.as_slice.ensures.value ∙ c.in_ok-starts.ensures) ∙ words_long z in let some = c.requires.0 in (
      omega arith,
      (
        (inv.same, omega (arith, E, long, some)),
        ((let q = inv.count in omega (arith, made)), (let q = c.loop-number-test.true in omega (arith, made, seats))),
      ),
    )

pub new_seat-requires : goal.new_seat-requires
new_seat-requires c = let M = c.make_seat-token.ensures in record {
  own = (
    c.args.setting,
    ap (λ (m : Me). m.0.own) M.made ∙ ap (λ (m : Me). fresh_seat list_rows m.0.own.knows.setting m.0.made) c.loop-number.invariant.first,
    (let q = c.loop-number-test.true in let h = c.requires.0 in omega arith),
    c.requires.0,
  );
  bare = ap (λ (m : Me). m.1) M.made;
}

pub loop-number-preserved : goal.loop-number-preserved
loop-number-preserved c = let inv = c.loop-number.invariant in let f = inv.first in let M = c.make_seat-token.ensures in
    let n : ℕ = c.loop-number.number in let z : Setting = c.args.setting in
    let t : ListModel = record { id = c.in-Ok.words.table.shared.table_id; setting = z } in
    let of : list_of c.make_seat-token.result ≡ t = λ i. record {
      id = (M.own.1 ∙ inv.same) i;
      setting = (ap (λ (m : Me). m.0.own.knows.setting) M.made ∙ ap (λ (m : Me). m.0.own.knows.setting) f) i;
    } in
    let count = inv.count in record {
      same = M.own.0 ∙ inv.same;
      first = M.first ∙ (λ i. (making (f i).0, (f i).1));
      made = c.push_reserved.ensures.items
          ∙ one_more (new_seat t) 1 (n - 1) n c.loop-number.made.items c.new_seat.result (omega arith) inv.made
          (c.new_seat.ensures ∙ ap (λ (y : ListModel). new_seat y n) of)
          ∙ ap (new_seats t 1) (omega arith);
      count = search rules;
      upto = search rules;
      room = search rules;
    }

pub new_seat-requires-2 : goal.new_seat-requires-2
new_seat-requires-2 c = let f = c.loop-number.invariant.first in record {
  own = (c.args.setting, ap (λ (m : Me). m.0.own) f, (let h = c.requires.0 in omega arith), c.requires.0);
  bare = ap (λ (m : Me). m.1) f;
}

pub invariant_of-list : goal.invariant_of-list
invariant_of-list c = let E = c.in-Ok.ensures in let z : Setting = c.args.setting in let key = E.key in record {
  seated = ap (λ (y : Setting). y.seats) (sym key);
  first_is = ap (λ (y : Setting). y.first) (sym key);
  fits = c.requires.1;
  some = (let k = c.requires.0 in omega arith);
  few = (let k = c.requires.0 in omega arith);
  words = E.words ∙ ap length (c.as_slice.ensures.value ∙ c.in_ok-starts.ensures) ∙ words_long z ∙ ap words_in (sym key);
  slots = E.slots ∙ ap length c.in_ok-slots.ensures.1;
}

pub returns : goal.returns
returns c = let inv = c.loop-number.invariant in let key = c.in-Ok.ensures.key in let id = c.in-Ok.words.table.shared.table_id in
    let t : ListModel = record { id = id; setting = c.args.setting } in
    let of : list_of c.loop-number.first ≡ t = λ i. record { id = inv.same i; setting = (inv.first i).0.own.knows.setting } in
    let count = inv.count in let done = c.loop-number-test.false in record {
      allowed = c.requires.0;
      setting = key;
      seats_are = c.in-Ok-insert.ensures.items
          ∙ in_front t (record { id = id; setting = c.in-Ok.words.table.shared.key }) (c.loop-number.number - 1) c.args.setting.seats
          c.loop-number.made.items c.new_seat-2.result
          (ap (λ (y : Setting). record { id = id; setting = y }) (sym key)) (let h = inv.upto in omega arith) inv.made
          (c.new_seat-2.ensures ∙ ap (λ (y : ListModel). new_seat y 0) of);
    }
