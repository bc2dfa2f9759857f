use mathlib.Core.Option.{none}
use Rattle.atomic_table.specs.Table.{step}
use Rattle.running_rows.proofs.Holding.{settled_grant}
use Rattle.running_rows.proofs.sleeping.Running+S+View+V+T+K+OneWorld+R.grant.Goals as goal

pub returns-clause-went : goal.returns-clause-went
returns-clause-went g c = settled_grant g.R.Rows.family c.args.token.now.me c.store_grant.new.token.me _
    (step c.args.self.now.table.shared.table_id.slots c.args.word c.args.units 0 none) c.args.units c.store_grant.ensures.went c.rouse_at_grant.ensures.done
