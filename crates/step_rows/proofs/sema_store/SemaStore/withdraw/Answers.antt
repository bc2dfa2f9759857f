use Rattle.std.proofs.Common.{rules}
use Rattle.step_table.specs.World.{without}
use Rattle.step_rows.specs.contracts.sema_store.SemaStore.{the_view}
use Rattle.step_rows.proofs.Storing.{list_stored}
use Rattle.step_rows.proofs.sema_store.SemaStore.withdraw.Goals as goal

pub returns : goal.returns
returns c = list_stored (the_view c.self.inside) _ c.self.view_is c.args.counter _ (search rules) (without c.args.wait.seat) c.withdraw.ensures.lists
