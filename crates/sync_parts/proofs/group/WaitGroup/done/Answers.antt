use Rattle.sync_parts.proofs.group.WaitGroup.done.Goals as goal

pub returns-clause-rows : goal.returns-clause-rows
returns-clause-rows g c = c.add.ensures.rows

pub returns-clause-caller : goal.returns-clause-caller
returns-clause-caller g c = c.add.ensures.caller
