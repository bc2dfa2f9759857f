use Rattle.std.proofs.Common.{ap, ◌∙◌}
use Rattle.program_steps.specs.Going.{come_from}
use Rattle.program_steps.specs.World.{ProgramSeat}
use Rattle.program_steps.proofs.Entering.{came_into}
use Rattle.program_rows.specs.Stored.{seat_of}
use Rattle.program_rows.proofs.seat.Seat.comes_into.Goals as goal

pub returns : goal.returns
returns c = λ k.
    ap (λ (s : ProgramSeat). s.sections k) c.come_from.ensures.seat
    ∙ ap (λ (s : ProgramSeat). (come_from c.args.code.now c.args.me s c.args.line).sections k) c.outside-walker.ensures
    ∙ came_into c.args.code.now c.args.me k (seat_of c.args.self.now) c.args.line
