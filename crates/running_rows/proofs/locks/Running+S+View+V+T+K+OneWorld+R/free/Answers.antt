use Rattle.std.proofs.Common.{refl, ap}
use mathlib.Core.Option.{none}
use Rattle.atomic_table.specs.Table.{step}
use Rattle.running_rows.specs.Futex.{lock_at}
use Rattle.running_rows.specs.Strides.{runs_unlock_from}
use Rattle.running_rows.proofs.Holding.{allowed_owing}
use Rattle.running_rows.proofs.locks.Running+S+View+V+T+K+OneWorld+R.free.Goals as goal

pub store-requires : goal.store-requires
store-requires g c = (
  c.requires.own.0,
  c.requires.word,
  allowed_owing g.R.Rows.family _ (lock_at c.args.word c.args._sleepers) c.requires.futex _ _ c.args.token.now.me c.requires.own.1
      (step c.args.self.now.table.shared.table_id.slots c.args.word 0 0 none) refl 0
      (runs_unlock_from g.R.Rows.family g.A.Start.at (step c.args.self.now.table.shared.table_id.slots c.args.word 0 0 none) c.args.token.now.me 0)
      c.requires.owes,
)

pub returns-clause-owing : goal.returns-clause-owing
returns-clause-owing g c = (c.args.token.now.me.0.parking.stages, ap (λ v. v.stages) c.store.ensures.2.owes)
