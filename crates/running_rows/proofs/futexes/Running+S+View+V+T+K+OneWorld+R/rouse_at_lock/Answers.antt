use mathlib.Core.Option.{none}
use Rattle.atomic_table.specs.Table.{step}
use Rattle.running_rows.specs.Futex.{lock_at}
use Rattle.running_rows.proofs.Dealing.{allowed_look_at_count}
use Rattle.running_rows.proofs.futexes.Running+S+View+V+T+K+OneWorld+R.rouse_at_lock.Goals as goal

pub load-requires : goal.load-requires
load-requires g c = (
  c.requires.own,
  c.requires.there.1,
  allowed_look_at_count g.R.Rows.family _ _ _ c.args.token.now.me (lock_at c.args.word c.args.sleepers) c.requires.futex
      (step c.args.self.now.table.shared.table_id.slots c.args.sleepers 0 0 none) c.requires.owes,
)
