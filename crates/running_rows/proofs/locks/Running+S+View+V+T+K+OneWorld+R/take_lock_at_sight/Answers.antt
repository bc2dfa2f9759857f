use Rattle.std.proofs.Common.{◌==◌, refl}
use mathlib.Core.Option.{none}
use prog.Atomic.{either}
use Rattle.atomic_table.specs.Table.{step}
use Rattle.running_rows.specs.Strides.{runs_lock}
use Rattle.running_rows.proofs.Holding.{lock_leaves, allowed_since}
use Rattle.running_rows.proofs.locks.Running+S+View+V+T+K+OneWorld+R.take_lock_at_sight.Goals as goal

pub compare_exchange-requires : goal.compare_exchange-requires
compare_exchange-requires g c = (
  c.requires.own.0,
  c.requires.word,
  allowed_since g.R.Rows.family _ _ _ _ c.args.token.now.me _ (λ n. either (n == 0) 1 n)
      (runs_lock g.R.Rows.family g.A.Start.at (step c.args.self.now.table.shared.table_id.slots c.args.word 0 1 none))
      c.requires.own.1 (lock_leaves g.R.Rows.family _ _ c.requires.lock) c.requires.owes refl,
)
