use Rattle.std.proofs.Common.{arith}
use Rattle.sema_table.proofs.sema_table.SemaTable.misses_word.Goals as goal

pub overflow_add-result-2 : goal.overflow_add-result-2
overflow_add-result-2 c = let e = c.words_aside.ensures.low in omega (arith, e)
