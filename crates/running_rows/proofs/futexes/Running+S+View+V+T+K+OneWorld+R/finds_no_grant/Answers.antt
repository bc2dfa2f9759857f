use Rattle.std.proofs.Common.{refl}
use mathlib.Core.Option.{none}
use Rattle.atomic_table.specs.Table.{step}
use Rattle.running_rows.specs.Futex.{grant_at}
use Rattle.running_rows.proofs.Dealing.{allowed_look_at_grant}
use Rattle.running_rows.proofs.futexes.Running+S+View+V+T+K+OneWorld+R.finds_no_grant.Goals as goal

pub load-requires : goal.load-requires
load-requires g c = (
  c.requires.own,
  c.requires.there,
  allowed_look_at_grant g.R.Rows.family _ _ _ c.args.token.now.me (grant_at c.args.word c.args._sleepers) c.requires.futex
      (step c.args.self.now.table.shared.table_id.slots c.args.word 0 0 none) refl c.requires.counted.0 c.requires.counted.1,
)
