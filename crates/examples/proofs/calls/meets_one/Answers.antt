use Rattle.examples.proofs.calls.meets_one.Goals as goal

pub meet-requires : goal.meet-requires
meet-requires c = (c.requires.table.0, c.requires.counter)
