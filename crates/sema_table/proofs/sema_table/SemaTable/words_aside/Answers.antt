use Rattle.std.proofs.Common.{arith}
use Rattle.sema_table.proofs.sema_table.SemaTable.words_aside.Goals as goal

pub overflow_add-result : goal.overflow_add-result
overflow_add-result c = let e = c.counter_word.ensures.low in omega (arith, e)

pub overflow_add-result-2 : goal.overflow_add-result-2
overflow_add-result-2 c = let e = c.counter_word.ensures.low in omega (arith, e)

pub overflow_add-result-3 : goal.overflow_add-result-3
overflow_add-result-3 c = let e = c.counter_word.ensures.low in omega (arith, e)
