use mathlib.Core.Option.{none}
use Rattle.atomic_table.specs.Table.{step}
use Rattle.running_rows.proofs.Dealing.{allowed_calls}
use Rattle.running_rows.proofs.futexes.Running+S+View+V+T+K+OneWorld+R.call_kernel.Goals as goal

pub load-requires : goal.load-requires
load-requires g c = (
  c.requires.own,
  c.requires.there,
  allowed_calls g.R.Rows.family _ _ _ _ c.args.token.now.me c.requires.futex (step c.args.self.now.table.shared.table_id.slots c.args.word 0 0 none)
      c.requires.owes,
)
