use mathlib.Core.Option.{none}
use Rattle.atomic_table.specs.Table.{step}
use Rattle.running_rows.specs.Strides.{runs_store}
use Rattle.running_rows.proofs.Holding.{allowed, plain_leaves}
use Rattle.running_rows.proofs.steps.Running+S+View+V+T+K+OneWorld+R.store.Goals as goal

pub store-requires : goal.store-requires
store-requires g c = (
  c.requires.own.0,
  c.requires.word,
  allowed g.R.Rows.family _ _ _ _ _ (λ _. c.args.new)
      (λ _. runs_store g.R.Rows.family g.A.Start.at (step c.args.self.now.table.shared.table_id.slots c.args.word c.args.new 0 none)
      c.args.token.now.me c.args.new) c.requires.own.1
      (plain_leaves g.R.Rows.family _ _ (λ _. c.args.new) c.requires.plain) c.requires.owes,
)
