use Rattle.std.proofs.Common.{◌∙◌, refl}
use mathlib.Core.Option.{some}
use Rattle.atomic_table.specs.Table.{step}
use Rattle.running_rows.proofs.Holding.{allowed_try}
use Rattle.running_rows.proofs.tries.Running+S+View+V+T+K+OneWorld+R.try_later_for.Goals as goal

pub compare_exchange_with-requires : goal.compare_exchange_with-requires
compare_exchange_with-requires g c = (
  c.sleep_for_lock.ensures.own ∙ c.requires.own.0,
  c.requires.words.0,
  allowed_try g.R.Rows.family _ _ _ _ c.args.token.now.me c.sleep_for_lock.new.token.me g.A.Start.at
      (step c.args.self.now.table.shared.table_id.slots c.args.word 0 1 (some c.args.said.now)) c.requires.own.1 (_, c.requires.futex) refl c.requires.owes
      c.sleep_for_lock.ensures.wants,
)
