use Rattle.running_rows.proofs.Holding.{allowed_look}
use Rattle.running_rows.proofs.steps.Running+S+View+V+T+K+OneWorld+R.look.Goals as goal

pub load-requires : goal.load-requires
load-requires g c = (
  c.requires.own.0,
  c.requires.word,
  allowed_look g.R.Rows.family _ _ _ _ _ c.requires.own.1 c.requires.seen,
)
