use mathlib.Core.Option.{none}
use Rattle.atomic_table.specs.Table.{step}
use Rattle.running_rows.proofs.Holding.{allowed_take_or_look}
use Rattle.running_rows.proofs.steps.Running+S+View+V+T+K+OneWorld+R.take_grant.Goals as goal

pub swap-requires : goal.swap-requires
swap-requires g c = (
  c.requires.own.0,
  c.requires.word,
  allowed_take_or_look g.R.Rows.family _ _ _ _ c.args.token.now.me (step c.args.self.now.table.shared.table_id.slots c.args.word 0 0 none)
      c.requires.own.1 c.requires.grant c.requires.owes,
)
