use Rattle.std.proofs.Common.{◌-◌, length}
use Rattle.program_rows.proofs.Waking.{Waking}
use Rattle.program_rows.proofs.state.ProgramState.wake.Given as goal

abbrev pub invariant-loop-at : goal.invariant-loop-at
invariant-loop-at l =
    Waking l.word l.many l.fn.self
    (record { words = l.self-inside.words.items; sleepers = l.self-inside.sleepers.items; seats = l.self-inside.seats.items }) l.left l.at

abbrev pub decreases-loop-at : goal.decreases-loop-at
decreases-loop-at l = length l.self-inside.sleepers.items - l.at
