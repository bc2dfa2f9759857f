use Rattle.std.proofs.Common.{refl, ap}
use mathlib.Core.Option.{none}
use Rattle.atomic_table.specs.Table.{step}
use Rattle.running_rows.proofs.Dealing.{allowed_begin}
use Rattle.running_rows.proofs.futexes.Running+S+View+V+T+K+OneWorld+R.begin_sleep.Goals as goal

pub fetch_add-others-requires : goal.fetch_add-others-requires
fetch_add-others-requires g c = let x = c.requires.futex in (
  c.requires.own,
  c.requires.there,
  allowed_begin g.R.Rows.family _ _ _ _ c.args.token.now.me x.0 x.1 (step c.args.self.now.table.shared.table_id.slots c.args.sleepers 1 0 none) x.2 refl,
)

pub returns-then-others-clause-about : goal.returns-then-others-clause-about
returns-then-others-clause-about g c =
    (c.args.token.now.me.0.parking.stages, ap (λ m. m.0.parking.stages) (c.fetch_add-others.ensures.2.0 c.if-others.true))
