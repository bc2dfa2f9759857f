use Rattle.std.proofs.Common.{◌<◌, [], ◌∷◌, length, sym, refl, subst}
use Rattle.step_table.specs.declared.place.AcquireRow.TheVariants.{A3, A4, A5, A7, A8, A9}
use Rattle.step_table.specs.declared.place.Place.TheVariants.{Acquiring}
use Rattle.step_table.specs.declared.entry.Entry.TheVariants.{Take}
use Rattle.sema_table.specs.Seats.{TableModel}
use Rattle.sema_table.proofs.Entering.{stands_after, to_look, to_taken, to_committed, to_lowered, entered_seat, entered_taken, asleep_seat, entered_asleep}
use Rattle.sema_table.proofs.sema_table.SemaTable.enter_locked.Goals as goal

pub raise-requires : goal.raise-requires
raise-requires g c = (
  stands_after c.args.self.now c.requires.seat.0 c.args.token c.args.numbers (Acquiring c.args.call.now A3) (Acquiring c.args.call.now A4) [] 0 c.requires.seat.1.token_is
      c.requires.seat.1.table_is c.requires.seat.1.inside c.requires.seat.1.locked.0 refl,
  c.requires.seat.1.locked.1,
)

pub look_again-requires : goal.look_again-requires
look_again-requires g c = (
  stands_after c.args.self.now c.requires.seat.0 c.raise.new.token c.args.numbers (Acquiring c.args.call.now A3) (Acquiring c.args.call.now A5)
      [] 0 c.requires.seat.1.token_is c.requires.seat.1.table_is c.requires.seat.1.inside
      (to_look c.requires.seat.0 c.args.token c.raise.new.token c.raise.new.token c.args.call.now c.requires.seat.1.locked.0 c.raise.ensures.0) refl,
  c.raise.ensures.1,
)

pub lower-requires : goal.lower-requires
lower-requires g c =
    let s = c.requires.seat.0 in let t2 = c.raise.new.token in let t3 = c.look_again.new.token in let a = c.args.call.now in
    let looked = to_look s c.args.token t2 t3 a c.requires.seat.1.locked.0 c.raise.ensures.0 in (
      stands_after c.args.self.now s t3 c.args.numbers (Acquiring a A3) (Acquiring a A8) (Take a.counter t2.me.0.own.number ∷ [])
          1 c.requires.seat.1.token_is c.requires.seat.1.table_is c.requires.seat.1.inside
          (to_taken s c.args.token t2 t3 a looked c.if-look_again.ensures.settled) refl,
      c.look_again.ensures.record,
    )

pub unlock_taken-requires-clause-seat : goal.unlock_taken-requires-clause-seat
unlock_taken-requires-clause-seat g c =
    let s = c.requires.seat.0 in let t2 = c.raise.new.token in let t3 = c.look_again.new.token in let t4 = c.lower.new.token in let a = c.args.call.now in
    let looked = to_look s c.args.token t2 t3 a c.requires.seat.1.locked.0 c.raise.ensures.0 in
    let taken = to_taken s c.args.token t2 t3 a looked c.if-look_again.ensures.settled in (
      stands_after c.args.self.now s t4 c.args.numbers (Acquiring a A3) (Acquiring a A9) (Take a.counter t2.me.0.own.number ∷ [])
          1 c.requires.seat.1.token_is c.requires.seat.1.table_is c.requires.seat.1.inside
          (to_lowered s t2 t3 t4 t4 c.args.numbers a c.requires.seat.1.token_is looked taken c.lower.ensures.0) refl,
      c.lower.ensures.1,
    )

pub invariant_of-result : goal.invariant_of-result
invariant_of-result g c =
    let s = c.requires.seat.0 in let t2 = c.raise.new.token in let t3 = c.look_again.new.token in let t4 = c.lower.new.token in
    let t5 = c.unlock_taken.new.token in let a = c.args.call.now in
    let looked = to_look s c.args.token t2 t3 a c.requires.seat.1.locked.0 c.raise.ensures.0 in
    let taken = to_taken s c.args.token t2 t3 a looked c.if-look_again.ensures.settled in
    let lowered = to_lowered s t2 t3 t4 t5 c.args.numbers a c.requires.seat.1.token_is looked taken c.lower.ensures.0 in
    entered_seat s t2 t3 t4 t5 c.args.numbers a c.requires.seat.1.token_is looked taken lowered c.unlock_taken.ensures.0 c.unlock_taken.ensures.1

pub returns-then-look_again : goal.returns-then-look_again
returns-then-look_again g c s0 h =
    let s = s0 in let t2 = c.raise.new.token in let t3 = c.look_again.new.token in let t4 = c.lower.new.token in
    let t5 = c.unlock_taken.new.token in let a = c.args.call.now in
    let looked = to_look s c.args.token t2 t3 a h.locked.0 c.raise.ensures.0 in
    let taken = to_taken s c.args.token t2 t3 a looked c.if-look_again.ensures.settled in
    let lowered = to_lowered s t2 t3 t4 t5 c.args.numbers a h.token_is looked taken c.lower.ensures.0 in
    entered_taken s t2 t3 t4 t5 c.args.numbers a h.token_is looked taken lowered c.unlock_taken.ensures.0 c.unlock_taken.ensures.1

pub queue-requires-clause-seat : goal.queue-requires-clause-seat
queue-requires-clause-seat g c =
    let s = c.requires.seat.0 in let t2 = c.raise.new.token in let t3 = c.look_again.new.token in let a = c.args.call.now in
    let looked = to_look s c.args.token t2 t3 a c.requires.seat.1.locked.0 c.raise.ensures.0 in (
      stands_after c.args.self.now s t3 c.args.numbers (Acquiring a A3) (Acquiring a A7) [] 0 c.requires.seat.1.token_is c.requires.seat.1.table_is c.requires.seat.1.inside
          (to_committed s c.args.token t2 t3 a looked c.if-look_again.ensures.settled.0) refl,
      c.look_again.ensures.record,
      c.if-look_again.ensures.settled.1,
    )

pub invariant_of-result-2 : goal.invariant_of-result-2
invariant_of-result-2 g c =
    let s = c.requires.seat.0 in let t2 = c.raise.new.token in let t3 = c.look_again.new.token in let t4 = c.queue.new.token in let a = c.args.call.now in
    let looked = to_look s c.args.token t2 t3 a c.requires.seat.1.locked.0 c.raise.ensures.0 in
    let committed = to_committed s c.args.token t2 t3 a looked c.if-look_again.ensures.settled.0 in
    asleep_seat s t3 t4 c.args.numbers a _ c.requires.seat.1.token_is committed c.queue.ensures.walked
    (λ i. record { seat = c.id.ensures i; turn = c.args.numbers.turns }) c.queue.ensures.bare
    (subst (λ (y : TableModel). a.counter < length y.setting.starts) (sym c.requires.seat.1.table_is) c.requires.seat.1.inside)

pub returns : goal.returns
returns g c s0 h =
    let s = s0 in let t2 = c.raise.new.token in let t3 = c.look_again.new.token in let t4 = c.queue.new.token in let a = c.args.call.now in
    let looked = to_look s c.args.token t2 t3 a h.locked.0 c.raise.ensures.0 in
    let committed = to_committed s c.args.token t2 t3 a looked c.if-look_again.ensures.settled.0 in
    entered_asleep s t3 t4 c.args.numbers a _ h.token_is committed c.queue.ensures.walked
    (λ i. record { seat = c.id.ensures i; turn = c.args.numbers.turns }) c.queue.ensures.bare c.queue.ensures.last
