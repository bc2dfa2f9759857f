use Rattle.std.proofs.Common.{◌∙◌, sym, subst}
use mathlib.Core.Option.{none}
use Rattle.atomic_table.specs.Table.{step}
use Rattle.running_rows.specs.Futex.{grant_at}
use Rattle.running_rows.specs.Parking.{IsOwing}
use Rattle.running_rows.proofs.Dealing.{allowed_look_at_count, allowed_look_back}
use Rattle.running_rows.proofs.futexes.Running+S+View+V+T+K+OneWorld+R.rouse_at_grant.Goals as goal

pub load-requires : goal.load-requires
load-requires g c = (
  c.requires.own,
  c.requires.there.1,
  allowed_look_at_count g.R.Rows.family _ _ _ c.args.token.now.me (grant_at c.args.word c.args.sleepers) c.requires.futex
      (step c.args.self.now.table.shared.table_id.slots c.args.sleepers 0 0 none) c.requires.owes,
)

pub load-requires-2 : goal.load-requires-2
load-requires-2 g c = (
  c.load.ensures.0 ∙ c.requires.own,
  c.requires.there.0,
  allowed_look_back g.R.Rows.family _ _ _ c.load.new.seat.me c.args.word c.args.sleepers c.requires.futex
      (step c.args.self.now.table.shared.table_id.slots c.args.word 0 0 none)
      (subst (λ m. IsOwing c.args.word m.0.parking) (sym (c.load.ensures.2.1 c.if-load-eq0.false)) c.requires.owes),
)
