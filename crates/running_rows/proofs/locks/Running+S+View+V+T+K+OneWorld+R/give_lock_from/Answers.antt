use mathlib.Core.Option.{none}
use Rattle.atomic_table.specs.Table.{step}
use Rattle.running_rows.proofs.Holding.{settled_unlock}
use Rattle.running_rows.proofs.locks.Running+S+View+V+T+K+OneWorld+R.give_lock_from.Goals as goal

pub returns-clause-went : goal.returns-clause-went
returns-clause-went g c = settled_unlock g.R.Rows.family c.args.token.now.me c.free.new.token.me _
    (step c.args.self.now.table.shared.table_id.slots c.args.word 0 0 none) g.A.Start.at 0 c.free.ensures.went c.rouse_at_lock.ensures.done
