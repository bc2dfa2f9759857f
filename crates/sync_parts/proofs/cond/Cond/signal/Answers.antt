use Rattle.sync_parts.proofs.cond.Cond.signal.Goals as goal

pub returns-clause-rows : goal.returns-clause-rows
returns-clause-rows g c = c.one.ensures.rows

pub returns-clause-some : goal.returns-clause-some
returns-clause-some g c = c.one.ensures.some

pub returns-clause-none : goal.returns-clause-none
returns-clause-none g c = c.one.ensures.none

pub returns-clause-caller : goal.returns-clause-caller
returns-clause-caller g c = c.one.ensures.caller
