use Rattle.std.proofs.Common.{◌+◌, ◌-◌, ◌%◌, ◌^◌}
use mathlib.Core.Option.{none}
use Rattle.atomic_table.specs.Table.{step}
use Rattle.running_rows.specs.Strides.{runs_access}
use Rattle.running_rows.proofs.Holding.{allowed, plain_leaves}
use Rattle.running_rows.proofs.steps.Running+S+View+V+T+K+OneWorld+R.subtract.Goals as goal

pub fetch_sub-requires : goal.fetch_sub-requires
fetch_sub-requires g c = (
  c.requires.own.0,
  c.requires.word,
  allowed g.R.Rows.family _ _ _ _ _ (λ n. (n + (2 ^ 64 - c.args.less)) % 2 ^ 64)
      (runs_access g.R.Rows.family g.A.Start.at (step _ _ c.args.less 0 none) c.args.token.now.me) c.requires.own.1
      (plain_leaves g.R.Rows.family _ _ (λ n. (n + (2 ^ 64 - c.args.less)) % 2 ^ 64) c.requires.plain) c.requires.owes,
)
