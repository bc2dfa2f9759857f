use Rattle.std.proofs.Common.{refl}
use Rattle.step_table.specs.Wrapping.{next_word}
use Rattle.step_table.proofs.order.next_word.Goals as goal

pub returns : goal.returns
unfolding next_word
returns c = refl
