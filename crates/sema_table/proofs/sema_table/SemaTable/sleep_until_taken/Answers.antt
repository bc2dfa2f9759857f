use Rattle.std.proofs.Common.{ap, ◌∙◌}
use Rattle.sema_table.specs.Seats.{SeatModel}
use Rattle.sema_table.proofs.Acquiring.{sleeps_first, handed_on, taken_on, asleep_on}
use Rattle.sema_table.proofs.sema_table.SemaTable.sleep_until_taken.Goals as goal

pub loop-init : goal.loop-init
loop-init g c = sleeps_first c.args.sleeping

pub sleep-requires : goal.sleep-requires
sleep-requires g c = let p = c.requires.1 in ap (λ (s : SeatModel). s.table) (c.loop.invariant p.0 p.1 p.2).same ∙ c.requires.0

pub retry-requires : goal.retry-requires
retry-requires g c = let p = c.requires.1 in
    ap (λ (s : SeatModel). s.table) c.in-Woken.ensures.rows.0 ∙ ap (λ (s : SeatModel). s.table) (c.loop.invariant p.0 p.1 p.2).same ∙ c.requires.0

pub returns-in-Handed : goal.returns-in-Handed
returns-in-Handed g c =
    λ a turn parks. handed_on c.args.sleeping c.loop.sleeping a turn parks (c.loop.invariant a turn parks) c.in-Handed.seat c.in-Handed.ensures.rows

pub returns-in-Taken : goal.returns-in-Taken
returns-in-Taken g c = λ a turn parks. taken_on c.args.sleeping c.loop.sleeping a turn parks (c.loop.invariant a turn parks)
    c.in-Woken.woken c.in-Woken.ensures.rows c.in-Taken.seat c.in-Taken.ensures.rows

pub loop-preserved : goal.loop-preserved
loop-preserved g c = λ a turn parks. asleep_on c.args.sleeping c.loop.sleeping a turn parks (c.loop.invariant a turn parks)
    c.in-Woken.woken c.in-Woken.ensures.rows c.in-Asleep.again c.in-Asleep.ensures.rows
