use Rattle.std.proofs.Common.{arith}
use Rattle.journal.proofs.Numbers.{digit_in, value_more, value_low}
use Rattle.journal.proofs.reader.number.value_of.Goals as goal

pub overflow_mul-value : goal.overflow_mul-value
overflow_mul-value c =
    let low = value_low c.args.digits.now c.loop-digit.digit-index c.requires.digits c.requires.few (omega arith) in
    let more = value_more c.args.digits.now c.loop-digit.digit-index c.requires.digits (omega arith) in
    omega arith

pub overflow_sub-digit : goal.overflow_sub-digit
overflow_sub-digit c = let d = digit_in c.args.digits.now c.loop-digit.digit-index c.requires.digits (omega arith) in omega arith

pub overflow_add-value : goal.overflow_add-value
overflow_add-value c =
    let low = value_low c.args.digits.now c.loop-digit.digit-index c.requires.digits c.requires.few (omega arith) in
    let more = value_more c.args.digits.now c.loop-digit.digit-index c.requires.digits (omega arith) in
    grind arith

pub loop-digit-preserved : goal.loop-digit-preserved
loop-digit-preserved c =
    let more = value_more c.args.digits.now c.loop-digit.digit-index c.requires.digits (omega arith) in
    grind arith
