use Rattle.std.proofs.Common.{refl}
use Rattle.step_table.specs.Wrapping.{minus}
use Rattle.step_table.proofs.order.minus.Goals as goal

pub returns : goal.returns
unfolding minus
returns c = refl
