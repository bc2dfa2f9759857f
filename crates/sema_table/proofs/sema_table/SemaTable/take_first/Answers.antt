use Rattle.std.proofs.Common.{ap, ◌∙◌}
use Rattle.step_table.specs.World.{SeatState}
use Rattle.sema_table.proofs.Wakening.{stands_sought, stands_out, stands_none, first_out, first_none}
use Rattle.sema_table.proofs.sema_table.SemaTable.take_first.Goals as goal

pub returns-then-not-look_for_waits-clause-stands : goal.returns-then-not-look_for_waits-clause-stands
returns-then-not-look_for_waits-clause-stands c =
    stands_none c.args.self.now c.args.token.now c.look_for_waits.new.token c.args.call.now c.requires.seat.0 c.if-not-look_for_waits.ensures.found

pub take_out-requires : goal.take_out-requires
take_out-requires c = record {
  seat = (
    stands_sought c.args.self.now c.args.token.now c.look_for_waits.new.token c.args.call.now c.requires.seat.0 c.if-not-look_for_waits.ensures.found,
    c.look_for_waits.ensures.record,
    ap (λ (y : SeatState). y.hand) c.if-not-look_for_waits.ensures.found.stands_is ∙ c.requires.seat.2,
  );
}

pub returns-clause-some : goal.returns-clause-some
returns-clause-some c = first_out c.args.self.now c.args.token.now c.look_for_waits.new.token c.args.call.now c.requires.seat.0
    c.if-not-look_for_waits.ensures.found c.take_out.new.token c.take_out.result c.take_out.ensures.some

pub returns-clause-none : goal.returns-clause-none
returns-clause-none c = first_none c.args.self.now c.args.token.now c.look_for_waits.new.token c.args.call.now c.requires.seat.0
    c.if-not-look_for_waits.ensures.found c.take_out.new.token c.take_out.result c.take_out.ensures.none

pub returns-clause-stands : goal.returns-clause-stands
returns-clause-stands c = stands_out c.args.self.now c.args.token.now c.look_for_waits.new.token c.args.call.now c.requires.seat.0
    c.if-not-look_for_waits.ensures.found c.take_out.new.token c.take_out.result c.take_out.ensures.some c.take_out.ensures.none
