use mathlib.Core.Option.{none}
use Rattle.atomic_table.specs.Table.{step}
use Rattle.running_rows.proofs.Dealing.{allowed_end}
use Rattle.running_rows.proofs.futexes.Running+S+View+V+T+K+OneWorld+R.end_sleep.Goals as goal

pub fetch_sub-requires : goal.fetch_sub-requires
fetch_sub-requires g c = let x = c.requires.futex in (
  c.requires.own,
  c.requires.there,
  allowed_end g.R.Rows.family _ _ _ _ c.args.token.now.me x.0 x.1 (step c.args.self.now.table.shared.table_id.slots c.args.sleepers 1 0 none) x.2
      c.requires.counted,
)
