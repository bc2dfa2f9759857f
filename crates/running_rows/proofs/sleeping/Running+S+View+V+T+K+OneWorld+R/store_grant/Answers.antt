use Rattle.std.proofs.Common.{refl, ap}
use mathlib.Core.Option.{none}
use Rattle.atomic_table.specs.Table.{step}
use Rattle.running_rows.specs.Futex.{grant_at}
use Rattle.running_rows.specs.Strides.{runs_grant}
use Rattle.running_rows.proofs.Holding.{allowed_owing}
use Rattle.running_rows.proofs.sleeping.Running+S+View+V+T+K+OneWorld+R.store_grant.Goals as goal

pub store-requires : goal.store-requires
store-requires g c = (
  c.requires.own.0,
  c.requires.low,
  allowed_owing g.R.Rows.family _ (grant_at c.args.word c.args._asleep) c.requires.futex _ _ c.args.token.now.me c.requires.own.1
      (step c.args.self.now.table.shared.table_id.slots c.args.word c.args.units 0 none) refl c.args.units
      (runs_grant g.R.Rows.family (step c.args.self.now.table.shared.table_id.slots c.args.word c.args.units 0 none) c.args.token.now.me c.args.units)
      c.requires.owes,
)

pub returns-clause-owing : goal.returns-clause-owing
returns-clause-owing g c = (c.args.token.now.me.0.parking.stages, ap (λ v. v.stages) c.store.ensures.2.owes)
