use mathlib.Core.Option.{none}
use Rattle.atomic_table.specs.Table.{step}
use Rattle.running_rows.specs.Strides.{runs_access}
use Rattle.running_rows.proofs.Holding.{allowed, look_leaves}
use Rattle.running_rows.proofs.steps.Running+S+View+V+T+K+OneWorld+R.load.Goals as goal

pub load-requires : goal.load-requires
load-requires g c = (
  c.requires.own.0,
  c.requires.word,
  allowed g.R.Rows.family _ _ _ _ _ (λ n. n) (runs_access g.R.Rows.family g.A.Start.at (step _ _ 0 0 none) c.args.token.now.me) c.requires.own.1
      (look_leaves g.R.Rows.family _ _) c.requires.owes,
)
