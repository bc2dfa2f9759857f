use Rattle.std.proofs.Common.{◌<◌, Bool, [], ◌∷◌, length, sym, ap, refl, ◌∙◌, subst}
use Rattle.waiters.specs.declared.wait.WaitId.{WaitId}
use Rattle.step_table.specs.declared.entry.Entry.TheVariants.{Leave}
use Rattle.step_table.specs.declared.place.Release.{Release}
use Rattle.step_table.specs.declared.place.ReleaseRow.TheVariants.{R3, R4}
use Rattle.step_table.specs.declared.place.Place.TheVariants.{Releasing}
use Rattle.step_table.specs.World.{SeatState}
use Rattle.sema_table.specs.Walks.{trying, granting, taken_for}
use Rattle.sema_table.proofs.Entering.{stands_at, stands_after}
use Rattle.sema_table.proofs.Wakening.{nobody_seat, wakes_nobody, carried, carrying, none_spent, trying_counter, granting_counter, settled, granted_seat}
use Rattle.sema_table.proofs.Wakening.{same_seat, at_rest, last_granted, wakes_one, wakes_handed}
use Rattle.sema_table.proofs.sema_table.SemaTable.wake_locked.Goals as goal

pub take_first-first-requires : goal.take_first-first-requires
take_first-first-requires g c =
    let s = c.requires.seat.0 in let a : Release = c.args.call.now in record {
      seat = (
        stands_after c.args.self.now s c.args.token c.args.numbers (Releasing a R3) (Releasing a R4) [] 0 c.requires.seat.1.token_is c.requires.seat.1.table_is
            c.requires.seat.1.inside c.requires.seat.1.locked.0 refl,
        c.requires.seat.1.locked.1,
        ap (λ (y : SeatState). y.hand) c.requires.seat.1.locked.0.stands_is ∙ c.requires.seat.1.token_is.empty,
      );
    }

pub invariant_of-result : goal.invariant_of-result
invariant_of-result g c =
    let a : Release = c.args.call.now in
    nobody_seat c.requires.seat.0 c.args.token c.take_first-first.new.token c.unlock_released.new.token c.args.numbers a c.requires.seat.1.token_is c.requires.seat.1.locked.0
    c.in_default.ensures.none c.unlock_released.ensures.0 c.unlock_released.ensures.1

pub returns-in_default : goal.returns-in_default
returns-in_default g c s0 h =
    let a : Release = c.args.call.now in
    wakes_nobody s0 c.args.token c.take_first-first.new.token c.unlock_released.new.token c.args.numbers a h.token_is h.locked.0
    c.in_default.ensures.none c.unlock_released.ensures.0 c.unlock_released.ensures.1

pub take_for-handed-requires : goal.take_for-handed-requires
take_for-handed-requires g c =
    let s = c.requires.seat.0 in let t1 = c.args.token in let t3 = c.unlock_released.new.token in let n = c.args.numbers in let w : WaitId = c.in-Some.id in
    let a : Release = c.args.call.now in
    let x = carried s t1 c.take_first-first.new.token t3 n a w c.requires.seat.1.token_is c.requires.seat.1.locked.0 c.in-Some.ensures.some.0 c.unlock_released.ensures.0 in (
      stands_at c.args.self.now s t3 n (Releasing a R3) (carrying s (trying a) w)
          (Leave a.counter w t1.me.0.own.number ∷ []) 0 c.requires.seat.1.token_is c.requires.seat.1.table_is
          (subst (λ k. k < length c.args.self.now.setting.starts) (sym (trying_counter a)) c.requires.seat.1.inside) x refl,
      ap (λ (q : SeatState). q.hand) x.stands_is,
    )

pub grant-requires-clause-seat : goal.grant-requires-clause-seat
grant-requires-clause-seat g c =
    let s = c.requires.seat.0 in let t1 = c.args.token in let t3 = c.unlock_released.new.token in let n = c.args.numbers in let w : WaitId = c.in-Some.id in
    let a : Release = c.args.call.now in
    let x = carried s t1 c.take_first-first.new.token t3 n a w c.requires.seat.1.token_is c.requires.seat.1.locked.0 c.in-Some.ensures.some.0 c.unlock_released.ensures.0 in
    let b : Bool = c.take_for-handed.result in let t4 = c.take_for-handed.new.token in
    let own = c.requires.seat.1.locked.0.number_is in
    let y = settled s t1 t3 t4 t4 n a w b c.requires.seat.1.token_is own x c.take_for-handed.ensures.walked in (
      stands_at c.args.self.now s t4 n (Releasing a R3) (carrying s (granting a b) w)
          (Leave a.counter w t1.me.0.own.number ∷ taken_for a w b) 0 c.requires.seat.1.token_is c.requires.seat.1.table_is
          (subst (λ k. k < length c.args.self.now.setting.starts) (sym (granting_counter a b)) c.requires.seat.1.inside) y
          (none_spent s t1 t3 t4 t4 n a w b c.requires.seat.1.token_is own x c.take_for-handed.ensures.walked b),
      ap (λ (q : SeatState). q.hand) y.stands_is,
    )

pub invariant_of-result-then-handed : goal.invariant_of-result-then-handed
invariant_of-result-then-handed g c =
    let s = c.requires.seat.0 in let t1 = c.args.token in let t3 = c.unlock_released.new.token in let n = c.args.numbers in let w : WaitId = c.in-Some.id in
    let a : Release = c.args.call.now in
    let x = carried s t1 c.take_first-first.new.token t3 n a w c.requires.seat.1.token_is c.requires.seat.1.locked.0 c.in-Some.ensures.some.0 c.unlock_released.ensures.0 in
    let b : Bool = c.take_for-handed.result in let t4 = c.take_for-handed.new.token in
    let own = c.requires.seat.1.locked.0.number_is in
    let y = settled s t1 t3 t4 t4 n a w b c.requires.seat.1.token_is own x c.take_for-handed.ensures.walked in
    let t5 = c.grant.new.token in let bare = c.grant.ensures.slots ∙ c.take_for-handed.ensures.slots ∙ c.unlock_released.ensures.1 in
    granted_seat s t1 t3 t4 t5 n a w b c.requires.seat.1.token_is own x c.take_for-handed.ensures.walked c.grant.ensures.granted bare

pub returns-then-handed : goal.returns-then-handed
returns-then-handed g c s0 h =
    let s = s0 in let t1 = c.args.token in let t3 = c.unlock_released.new.token in let n = c.args.numbers in let w : WaitId = c.in-Some.id in
    let a : Release = c.args.call.now in
    let x = carried s t1 c.take_first-first.new.token t3 n a w h.token_is h.locked.0 c.in-Some.ensures.some.0 c.unlock_released.ensures.0 in
    let b : Bool = c.take_for-handed.result in let t4 = c.take_for-handed.new.token in
    let own = h.locked.0.number_is in
    let y = settled s t1 t3 t4 t4 n a w b h.token_is own x c.take_for-handed.ensures.walked in
    let t5 = c.grant.new.token in let bare = c.grant.ensures.slots ∙ c.take_for-handed.ensures.slots ∙ c.unlock_released.ensures.1 in (
      same_seat s t1 t3 t4 t5 n a w b h.token_is own x c.take_for-handed.ensures.walked c.grant.ensures.granted bare,
      at_rest s t1 t3 t4 t5 n a w b h.token_is own x c.take_for-handed.ensures.walked c.grant.ensures.granted bare,
      wakes_handed s t5 n a w b (last_granted s t1 t3 t4 t5 n a w b h.token_is own x c.take_for-handed.ensures.walked c.grant.ensures.granted bare)
          c.if-handed.true (c.take_for-handed.ensures.asked c.if-handed.true),
    )

pub invariant_of-result-2 : goal.invariant_of-result-2
invariant_of-result-2 g c =
    let s = c.requires.seat.0 in let t1 = c.args.token in let t3 = c.unlock_released.new.token in let n = c.args.numbers in let w : WaitId = c.in-Some.id in
    let a : Release = c.args.call.now in
    let x = carried s t1 c.take_first-first.new.token t3 n a w c.requires.seat.1.token_is c.requires.seat.1.locked.0 c.in-Some.ensures.some.0 c.unlock_released.ensures.0 in
    let b : Bool = c.take_for-handed.result in let t4 = c.take_for-handed.new.token in
    let own = c.requires.seat.1.locked.0.number_is in
    let y = settled s t1 t3 t4 t4 n a w b c.requires.seat.1.token_is own x c.take_for-handed.ensures.walked in
    let t5 = c.grant.new.token in let bare = c.grant.ensures.slots ∙ c.take_for-handed.ensures.slots ∙ c.unlock_released.ensures.1 in
    granted_seat s t1 t3 t4 t5 n a w b c.requires.seat.1.token_is own x c.take_for-handed.ensures.walked c.grant.ensures.granted bare

pub returns : goal.returns
returns g c s0 h =
    let s = s0 in let t1 = c.args.token in let t3 = c.unlock_released.new.token in let n = c.args.numbers in let w : WaitId = c.in-Some.id in
    let a : Release = c.args.call.now in
    let x = carried s t1 c.take_first-first.new.token t3 n a w h.token_is h.locked.0 c.in-Some.ensures.some.0 c.unlock_released.ensures.0 in
    let b : Bool = c.take_for-handed.result in let t4 = c.take_for-handed.new.token in
    let own = h.locked.0.number_is in
    let y = settled s t1 t3 t4 t4 n a w b h.token_is own x c.take_for-handed.ensures.walked in
    let t5 = c.grant.new.token in let bare = c.grant.ensures.slots ∙ c.take_for-handed.ensures.slots ∙ c.unlock_released.ensures.1 in (
      same_seat s t1 t3 t4 t5 n a w b h.token_is own x c.take_for-handed.ensures.walked c.grant.ensures.granted bare,
      at_rest s t1 t3 t4 t5 n a w b h.token_is own x c.take_for-handed.ensures.walked c.grant.ensures.granted bare,
      wakes_one s t5 n a w b (last_granted s t1 t3 t4 t5 n a w b h.token_is own x c.take_for-handed.ensures.walked c.grant.ensures.granted bare)
          c.if-handed.false,
    )
