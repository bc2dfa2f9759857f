use Rattle.std.proofs.Common.{◌≡◌, ◌++◌, string_bytes, take}
use Rattle.explorer_answers.specs.LineTexts.{more_numbers}
use Rattle.explorer_answers.proofs.replay_lines.tell_left.Given as goal

abbrev pub invariant-loop-number : goal.invariant-loop-number
invariant-loop-number l = string_bytes l.text ≡ string_bytes l.initial.text ++ more_numbers (take l.number-index l.others)
