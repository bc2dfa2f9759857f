use Rattle.seat_pool.proofs.Numbered.{home_of_all, seats_of_task_list}
use Rattle.seat_pool.proofs.made.pooled_task_list.Goals as goal

pub new-requires : goal.new-requires
new-requires g c = (_, seats_of_task_list _ _ _ _ c.in_ok-list.ensures.ok)

pub returns-in-Ok-clause-pool : goal.returns-in-Ok-clause-pool
returns-in-Ok-clause-pool g c = (
  c.in-Ok.ensures.pool,
  home_of_all _ _ _ _ _ _ _ (seats_of_task_list _ _ _ _ c.in_ok-list.ensures.ok) c.in-Ok.ensures.home,
)
