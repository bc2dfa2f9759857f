use Rattle.std.proofs.lemmas.Option.{none-some}
use Rattle.explorer_commands.proofs.Rounds.{its_round, its_schedule, none_told, spelled_free}
use Rattle.explorer_commands.proofs.on_program.round_text.read_round.Goals as goal

pub returns-in_default : goal.returns-in_default
returns-in_default c = λ schedule round is.
    c.in_default.ensures is.front is.inner (spelled_free is.front schedule is.schedule_is) is.spelled

pub returns-in_default-2 : goal.returns-in_default-2
returns-in_default-2 c = λ schedule round is.
    (let some = (c.in_ok-schedule.ensures schedule).0 (its_schedule c.args.text.now c.in-Some.front.now c.in-Some.inner.now c.in-Some.ensures.0
    c.in-Some.ensures.1 schedule round is) in
    absurd (none-some schedule (rw c.in_default-2.is at some)))

pub returns-in-None : goal.returns-in-None
returns-in-None c = λ schedule round is.
    none_told _ _ _ c.in-None.is c.in_ok-round.ensures round is.some
    (its_round c.args.text.now c.in-Some.front.now c.in-Some.inner.now c.in-Some.ensures.0 c.in-Some.ensures.1 schedule round is)
