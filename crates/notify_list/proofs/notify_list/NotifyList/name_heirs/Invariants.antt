use Rattle.notify_list.specs.Heirs.{IsSame}
use Rattle.notify_list.proofs.notify_list.NotifyList.name_heirs.Given as goal

abbrev pub invariant-loop-place : goal.invariant-loop-place
invariant-loop-place l = IsSame l.fn.token l.token
