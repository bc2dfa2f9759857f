use Rattle.std.proofs.Common.{arith}
use Rattle.sema_table.proofs.sema_table.SemaTable.sleepers_word.Goals as goal

pub overflow_add-result-3 : goal.overflow_add-result-3
overflow_add-result-3 c = let e = c.words_aside.ensures.low in omega (arith, e)
