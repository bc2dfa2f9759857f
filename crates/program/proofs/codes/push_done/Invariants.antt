use Rattle.std.proofs.Common.{◌≡◌, ◌++◌, map, take}
use Rattle.program.specs.Codes.{put_in}
use Rattle.program.proofs.codes.push_done.Given as goal

abbrev pub invariant-loop-one : goal.invariant-loop-one
invariant-loop-one l = l.lines.items ≡ l.initial.lines.items ++ map (put_in l.at l.line) (take l.one-index l.done)
