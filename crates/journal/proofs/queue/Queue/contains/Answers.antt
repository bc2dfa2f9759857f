use Rattle.std.proofs.Common.{◌∙◌}
use Rattle.journal.proofs.Gone.{any_wait}
use Rattle.journal.proofs.queue.Queue.contains.Goals as goal

pub returns : goal.returns
returns c = rw (← c.self.view_is) (c.contains.ensures.value ∙ any_wait c.args.wait c.self.inside.waits.items)
