use Rattle.std.proofs.Common.{◌≡◌, ℕ, List, [], length, map, sym, refl, ap, ◌∙◌}
use Rattle.std.proofs.lemmas.List.{length-map}
use Rattle.waiters.specs.declared.wait.WaitId.{WaitId}
use Rattle.step_table.specs.declared.place.ReleaseMany.{ReleaseMany}
use Rattle.step_table.specs.declared.place.ManyRow.TheVariants.{M3, M4, M6}
use Rattle.step_table.specs.declared.place.Place.TheVariants.{ReleasingMany}
use Rattle.step_table.specs.World.{SeatState}
use Rattle.sema_table.specs.Many.{leaves}
use Rattle.sema_table.specs.ManyWalks.{with_hand}
use Rattle.sema_table.proofs.Walking.{stands_on}
use Rattle.sema_table.proofs.Entering.{stands_after}
use Rattle.sema_table.proofs.WakeningMany.{may_grant, hand_stays, unlocked_many, woken_seat, same_seat, at_rest, wakes_seats}
use Rattle.sema_table.proofs.PickingMany.{leaves_spend}
use Rattle.sema_table.proofs.sema_table.SemaTable.wake_some_locked.Goals as goal

pub take_waits-requires-clause-seat : goal.take_waits-requires-clause-seat
take_waits-requires-clause-seat g c = let a : ReleaseMany = c.args.call.now in (
  (
    stands_after c.args.self.now c.requires.seat.0 c.args.token c.args.numbers (ReleasingMany a M3) (ReleasingMany a M4) [] 0 c.requires.seat.1.token_is c.requires.seat.1.table_is
        c.requires.seat.1.inside c.requires.seat.1.locked.0 refl,
    c.requires.seat.1.locked.1,
  ),
  ap (λ (y : SeatState). y.hand) c.requires.seat.1.locked.0.stands_is ∙ c.requires.seat.1.token_is.empty,
)

pub unlock_many-requires-clause-seat : goal.unlock_many-requires-clause-seat
unlock_many-requires-clause-seat g c =
    let a : ReleaseMany = c.args.call.now in let t1 = c.args.token in let t2 = c.take_waits.new.token in
    let locked = stands_after c.args.self.now c.requires.seat.0 t1 c.args.numbers (ReleasingMany a M3) (ReleasingMany a M4) [] 0 c.requires.seat.1.token_is c.requires.seat.1.table_is
    c.requires.seat.1.inside c.requires.seat.1.locked.0 refl in (
      stands_on c.args.self.now t1 t2 (ReleasingMany a M4) (with_hand t1 (ReleasingMany a M6) t2.me.0.own.knows.hand)
          (leaves t1.me.0.own.number a t2.me.0.own.knows.hand) 0 locked c.take_waits.ensures.walked
          (leaves_spend t1.me.0.own.number t1.me.0.own.number a t2.me.0.own.knows.hand) refl,
      c.take_waits.ensures.«record»,
    )

pub grant_all-requires-clause-seat : goal.grant_all-requires-clause-seat
grant_all-requires-clause-seat g c =
    let a : ReleaseMany = c.args.call.now in let t1 = c.args.token in let t2 = c.take_waits.new.token in
    let locked = stands_after c.args.self.now c.requires.seat.0 t1 c.args.numbers (ReleasingMany a M3) (ReleasingMany a M4) [] 0 c.requires.seat.1.token_is c.requires.seat.1.table_is
    c.requires.seat.1.inside c.requires.seat.1.locked.0 refl in
    let full = stands_on c.args.self.now t1 t2 (ReleasingMany a M4) (with_hand t1 (ReleasingMany a M6) t2.me.0.own.knows.hand)
    (leaves t1.me.0.own.number a t2.me.0.own.knows.hand) 0 locked c.take_waits.ensures.walked
    (leaves_spend t1.me.0.own.number t1.me.0.own.number a t2.me.0.own.knows.hand) refl in
    may_grant c.args.self.now t2 c.unlock_many.new.token a full c.unlock_many.ensures.walked

pub invariant_of-result : goal.invariant_of-result
invariant_of-result g c =
    let s = c.requires.seat.0 in let a : ReleaseMany = c.args.call.now in let t3 = c.unlock_many.new.token in let n = c.args.numbers in let is = c.requires.seat.1.token_is in
    let x = unlocked_many s c.args.token c.take_waits.new.token t3 n a is c.requires.seat.1.locked.0 c.take_waits.ensures.walked c.unlock_many.ensures.walked in
    woken_seat s t3 c.grant_all.new.token n a is x c.grant_all.ensures (c.grant_all.ensures.slots ∙ c.unlock_many.ensures.bare)

pub returns : goal.returns
returns g c s0 h =
    let s = s0 in let a : ReleaseMany = c.args.call.now in let t1 = c.args.token in let t2 = c.take_waits.new.token in
    let t3 = c.unlock_many.new.token in let t4 = c.grant_all.new.token in let n = c.args.numbers in
    let is = h.token_is in
    let x = unlocked_many s t1 t2 t3 n a is h.locked.0 c.take_waits.ensures.walked c.unlock_many.ensures.walked in
    let hand = hand_stays s t1 t2 t3 n a is h.locked.0 c.take_waits.ensures.walked c.unlock_many.ensures.walked in
    let seats : List ℕ = c.take_waits.new.hand.items in
    let count : length t3.me.0.own.knows.hand ≡ length seats = ap length hand ∙ sym (length-map t2.me.0.own.knows.hand (λ (w : WaitId). w.seat))
    ∙ sym (ap length c.take_waits.ensures.hand) in (
      same_seat s t3 t4 n a is x c.grant_all.ensures,
      at_rest s t3 t4 n a is x c.grant_all.ensures,
      wakes_seats s t3 t4 n a is x c.grant_all.ensures seats count (c.take_waits.ensures.hand ∙ ap (λ (l : List WaitId). map (λ w. w.seat) l) (sym hand)),
    )
