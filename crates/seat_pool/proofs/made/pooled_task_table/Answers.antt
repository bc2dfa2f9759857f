use Rattle.seat_pool.proofs.Numbered.{home_of_all, seats_of_task_table}
use Rattle.seat_pool.proofs.made.pooled_task_table.Goals as goal

pub new-requires-2 : goal.new-requires-2
new-requires-2 g c = (_, seats_of_task_table _ _ _ c.in_ok-table.ensures.ok)

pub returns-in-Ok-clause-pool : goal.returns-in-Ok-clause-pool
returns-in-Ok-clause-pool g c = (
  c.in-Ok.ensures.pool,
  home_of_all _ _ _ _ _ _ _ (seats_of_task_table _ _ _ c.in_ok-table.ensures.ok) c.in-Ok.ensures.home,
)
