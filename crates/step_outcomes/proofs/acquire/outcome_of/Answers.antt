use Rattle.std.proofs.Common.{rules, subst, sym}
use Rattle.step_table.specs.Acquire.{acquire_event}
use Rattle.step_outcomes.specs.Outcomes.{Does}
use Rattle.step_outcomes.proofs.acquire.outcome_of.Goals as goal

pub returns-in-A4-clause-does : goal.returns-in-A4-clause-does
returns-in-A4-clause-does c = search rules

pub returns-in-0-found-clause-does : goal.returns-in-0-found-clause-does
returns-in-0-found-clause-does c = search rules

pub returns-in-0-found-2-clause-does : goal.returns-in-0-found-2-clause-does
returns-in-0-found-2-clause-does c = search rules

pub returns-in-Parked-clause-does : goal.returns-in-Parked-clause-does
returns-in-Parked-clause-does c list there =
    subst (λ row. Does (acquire_event c.args.seat c.args.turn list c.args.acquire row) c.args.found c.parked_outcome.result) (sym c.in-Parked.is)
    (c.parked_outcome.ensures.does c.args.turn list there)
