use Rattle.running_rows.proofs.Holding.{allowed_aside}
use Rattle.running_rows.proofs.sleeping.Running+S+View+V+T+K+OneWorld+R.set_aside.Goals as goal

pub store-requires : goal.store-requires
store-requires g c = (c.requires.own, c.requires.low, allowed_aside g.R.Rows.family _ _ _ _ _ _ c.requires.aside.0 c.requires.aside.1)
