use Rattle.std.proofs.Common.{◌==◌}
use mathlib.Core.Option.{none}
use prog.Atomic.{either}
use Rattle.atomic_table.specs.Table.{step}
use Rattle.running_rows.specs.Strides.{runs_access}
use Rattle.running_rows.proofs.Holding.{allowed, plain_leaves}
use Rattle.running_rows.proofs.steps.Running+S+View+V+T+K+OneWorld+R.exchange.Goals as goal

pub compare_exchange-requires : goal.compare_exchange-requires
compare_exchange-requires g c = (
  c.requires.own.0,
  c.requires.word,
  allowed g.R.Rows.family _ _ _ _ _ (λ n. either (n == c.args.old) c.args.new n)
      (runs_access g.R.Rows.family g.A.Start.at (step _ _ c.args.old c.args.new none) c.args.token.now.me) c.requires.own.1
      (plain_leaves g.R.Rows.family _ _ (λ n. either (n == c.args.old) c.args.new n) c.requires.plain) c.requires.owes,
)
