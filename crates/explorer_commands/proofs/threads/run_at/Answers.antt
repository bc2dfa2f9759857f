use Rattle.std.proofs.Common.{ℕ, subst}
use Rattle.explorer_commands.specs.Threads.{HaveWorked, AreHome}
use Rattle.explorer_commands.proofs.Working.{how_many, in_order, are_all, home_are_all}
use Rattle.explorer_commands.proofs.threads.run_at.Goals as goal

pub work_all-requires-clause-seats : goal.work_all-requires-clause-seats
work_all-requires-clause-seats g c κs within = in_order c.args.table c.args.workers c.args.seats.items c.requires.seats

pub close-requires : goal.close-requires
close-requires g c =
    let t = c.args.table in let back = c.in-Ok.seats.items in let many = how_many t c.args.workers c.args.seats.items c.requires.seats in
    are_all t c.args.workers c.args.rounds back c.requires.table.seats
    (subst (λ (n : ℕ). HaveWorked t n c.args.rounds back) many c.in-Ok.ensures.worked)

pub close-requires-in-Err : goal.close-requires-in-Err
close-requires-in-Err g c =
    let t = c.args.table in let back = c.in-Err.seats.items in let many = how_many t c.args.workers c.args.seats.items c.requires.seats in
    home_are_all t c.args.workers c.args.rounds back c.requires.table.seats
    (subst (λ (n : ℕ). AreHome t n c.args.rounds back) many c.in-Err.ensures.home)

pub returns-in-Ok-clause-run : goal.returns-in-Ok-clause-run
returns-in-Ok-clause-run g c =
    let t = c.args.table in let back = c.in-Ok.seats.items in let many = how_many t c.args.workers c.args.seats.items c.requires.seats in record {
      table = t;
      seats = back;
      made = c.requires.table;
      worked = subst (λ (n : ℕ). HaveWorked t n c.args.rounds back) many c.in-Ok.ensures.worked;
      closed = c.close.ensures.rows;
    }

pub returns-in-Err-clause-ended : goal.returns-in-Err-clause-ended
returns-in-Err-clause-ended g c =
    let t = c.args.table in let back = c.in-Err.seats.items in let many = how_many t c.args.workers c.args.seats.items c.requires.seats in record {
      table = t;
      seats = back;
      made = c.requires.table;
      home = subst (λ (n : ℕ). AreHome t n c.args.rounds back) many c.in-Err.ensures.home;
      closed = c.close-in-Err.ensures.rows;
    }
