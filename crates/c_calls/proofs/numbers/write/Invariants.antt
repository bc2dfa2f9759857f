use Rattle.std.proofs.Common.{◌≡◌, take}
use Rattle.c_calls.proofs.numbers.write.Given as goal

abbrev pub invariant-loop-at : goal.invariant-loop-at
invariant-loop-at l = take l.at l.room ≡ take l.at l.seats
