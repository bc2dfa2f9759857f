use Rattle.std.proofs.Common.{◌≡◌, ◌+◌, ◌≤◌, [], ◌∷◌, ◌++◌, length, map, sym, ap, ◌∙◌, arith, length-append}
use Rattle.std.proofs.lemmas.List.{map-append}
use Rattle.waiters.specs.declared.wait.WaitId.{WaitId}
use Rattle.step_table.specs.declared.entry.Entry.TheVariants.{Leave}
use Rattle.step_table.specs.World.{SeatState}
use Rattle.sema_table.specs.ManyWalks.{picking}
use Rattle.sema_table.proofs.PickingMany.{picking_full, stands_looked, pick_first, pick_more, hand_more, stands_picking, all_taken, taken_none}
use Rattle.sema_table.proofs.sema_table.SemaTable.take_waits.Goals as goal

pub loop-init : goal.loop-init
loop-init c =
    let s = c.args.token.now in let t = c.look_for_many.new.token in let a = c.args.call.now in let x = c.if-not-look_for_many.ensures.found in
    let empty : t.me.0.own.knows.hand ≡ [] = ap (λ (q : SeatState). q.hand) x.stands_is ∙ c.requires.seat.1 in record {
      walked = pick_first c.args.self.now t a (stands_looked c.args.self.now s t a c.requires.seat.0.0 c.requires.seat.1 c.requires.hand.1.0 x) empty;
      kept = c.look_for_many.ensures.record;
      items = c.requires.hand.0 ∙ ap (map (λ (w : WaitId). w.seat)) (sym empty);
      count = ap length empty;
    }

pub take_one-requires-clause-seat : goal.take_one-requires-clause-seat
take_one-requires-clause-seat c =
    let s = c.args.token.now in let t = c.look_for_many.new.token in let a = c.args.call.now in let x = c.if-not-look_for_many.ensures.found in (
      stands_picking c.args.self.now t c.loop.token a (stands_looked c.args.self.now s t a c.requires.seat.0.0 c.requires.seat.1 c.requires.hand.1.0 x)
          c.loop.invariant.walked,
      c.loop.invariant.kept,
    )

pub take_one-requires-clause-few : goal.take_one-requires-clause-few
take_one-requires-clause-few c = let n = c.loop.invariant.count in let h = c.loop-test.true in omega arith

pub returns-in_default-clause-walked : goal.returns-in_default-clause-walked
returns-in_default-clause-walked c = let N = c.in_default.ensures.none in
    taken_none c.args.token.now c.look_for_many.new.token c.loop.token c.take_one.new.token c.args.call.now c.requires.seat.1 c.requires.hand.1.0
    c.if-not-look_for_many.ensures.found c.loop.invariant.walked N.0 N.1 N.2

pub loop-preserved : goal.loop-preserved
loop-preserved c =
    let t = c.loop.token in let u = c.take_one.new.token in let a = c.args.call.now in let i = c.loop.invariant in
    let S = c.in-Some.ensures.some in let w : WaitId = c.in-Some.wait in
    let hand : u.me.0.own.knows.hand ≡ t.me.0.own.knows.hand ++ w ∷ [] = hand_more t u a w (picking u a) (Leave a.counter w t.me.0.own.number ∷ []) S.0 in
    let longer : length u.me.0.own.knows.hand ≡ length t.me.0.own.knows.hand + 1 = ap length hand ∙ length-append t.me.0.own.knows.hand (w ∷ []) in
    record {
      walked = pick_more c.look_for_many.new.token t u a w i.walked S.1 S.0;
      kept = c.take_one.ensures.record;
      items = c.push.ensures.items ∙ (λ j. i.items j ++ c.number.ensures j ∷ [])
          ∙ sym (map-append (λ (v : WaitId). v.seat) t.me.0.own.knows.hand (w ∷ [])) ∙ ap (map (λ (v : WaitId). v.seat)) (sym hand);
      count = (let n = i.count in omega arith);
    }

pub returns-clause-walked : goal.returns-clause-walked
returns-clause-walked c =
    let t = c.loop.token in let a = c.args.call.now in let i = c.loop.invariant in
    let full : a.units ≤ length t.me.0.own.knows.hand = (let n = i.count in let h = c.loop-test.false in omega arith) in
    all_taken c.args.token.now c.look_for_many.new.token t a c.requires.seat.1 c.requires.hand.1.0
    c.if-not-look_for_many.ensures.found i.walked (picking_full t a full)
