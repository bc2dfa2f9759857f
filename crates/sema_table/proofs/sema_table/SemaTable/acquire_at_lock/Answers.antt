use Rattle.std.proofs.Common.{ap, ◌∙◌}
use Rattle.sema_table.specs.Seats.{SeatModel}
use Rattle.sema_table.specs.Waking.{acquire_of}
use Rattle.sema_table.proofs.Acquiring.{parks_last, entered_at_once, entered_then}
use Rattle.sema_table.proofs.sema_table.SemaTable.acquire_at_lock.Goals as goal

pub sleep_until_taken-requires : goal.sleep_until_taken-requires
sleep_until_taken-requires g c =
    let u = c.args.seat in let e = c.in-Asleep.ensures.rows in let a = acquire_of c.args.counter c.args.lifo in (
      ap (λ (s : SeatModel). s.table) e.0 ∙ c.requires.0,
      (a, u.sight.stands.turn, parks_last u c.in-Asleep.sleeping a e),
    )

pub returns-in-Taken : goal.returns-in-Taken
returns-in-Taken g c = entered_at_once c.args.seat c.in-Taken.seat (acquire_of c.args.counter c.args.lifo) c.in-Taken.ensures.rows

pub returns-in-Asleep : goal.returns-in-Asleep
returns-in-Asleep g c =
    entered_then c.args.seat c.in-Asleep.sleeping (acquire_of c.args.counter c.args.lifo) c.in-Asleep.ensures.rows
    c.sleep_until_taken.result c.sleep_until_taken.ensures
