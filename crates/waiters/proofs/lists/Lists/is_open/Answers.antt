use Rattle.waiters.proofs.OtherLemmas.{is_some_listed}
use Rattle.waiters.proofs.lists.Lists.is_open.Goals as goal

pub returns : goal.returns
returns c =
    rw (← c.self.view_is, is_some_listed c.self.inside.records c.self.inside.chains, ← c.number.ensures) c.contains.ensures
