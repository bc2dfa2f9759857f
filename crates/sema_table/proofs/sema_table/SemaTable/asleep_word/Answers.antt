use Rattle.std.proofs.Common.{arith}
use Rattle.sema_table.proofs.sema_table.SemaTable.asleep_word.Goals as goal

pub overflow_add-result : goal.overflow_add-result
overflow_add-result c = let e = c.words_aside.ensures.low in omega (arith, e)
