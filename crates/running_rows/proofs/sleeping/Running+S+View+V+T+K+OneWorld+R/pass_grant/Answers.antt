use mathlib.Core.Option.{none}
use Rattle.atomic_table.specs.Table.{step}
use Rattle.running_rows.specs.Futex.{grant_at}
use Rattle.running_rows.proofs.Holding.{allowed_passing}
use Rattle.running_rows.proofs.sleeping.Running+S+View+V+T+K+OneWorld+R.pass_grant.Goals as goal

pub store-requires : goal.store-requires
store-requires g c = (
  c.requires.own.0,
  c.requires.low,
  allowed_passing g.R.Rows.family _ (grant_at c.args.word c.requires.grant.0) c.requires.grant.1 _ _ c.args.token.now.me c.requires.own.1
      (step c.args.self.now.table.shared.table_id.slots c.args.word c.args.units 0 none) c.args.units c.requires.owes,
)
