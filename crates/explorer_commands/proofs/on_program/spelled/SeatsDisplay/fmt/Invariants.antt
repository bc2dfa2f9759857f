use Rattle.std.proofs.Common.{◌∷◌, get_or, take}
use Rattle.std.specs.Fmt.{HasWritten, IsPlainFormatter}
use Rattle.explorer_answers.specs.FoundText.{seats_text}
use Rattle.explorer_commands.proofs.on_program.spelled.SeatsDisplay.fmt.Given as goal

-- the seats so far are written
abbrev pub invariant-loop-next : goal.invariant-loop-next
invariant-loop-next g l =
    IsPlainFormatter l.fn.f → HasWritten g.W.Write.write_str_gives l.fn.f (seats_text (get_or l.self.0.now 0 0 ∷ take l.next-index l.rest)) l.f
