use Rattle.program_rows.specs.Stored.{seat_of}
use Rattle.program_rows.proofs.Clearing.{gone_on}
use Rattle.program_rows.proofs.seat.Seat.go_on.Goals as goal

pub returns-clause-seat : goal.returns-clause-seat
returns-clause-seat c =
    gone_on c.args.code.now c.args.me c.args.in_use.now c.requires.table (seat_of c.args.self.now) c.args.line (seat_of c.come_from.new.self) _
    c.come_from.ensures.seat c.clear.ensures.few c.clear.ensures.seat
