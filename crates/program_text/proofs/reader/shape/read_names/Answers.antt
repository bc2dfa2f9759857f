use Rattle.std.proofs.Common.{ℕ, List, [], Bor}
use Rattle.program_text.proofs.Shaping.{names_bad}
use Rattle.program_text.proofs.reader.shape.read_names.Goals as goal

pub returns-in_default : goal.returns-in_default
returns-in_default c =
    let none : Bor (List ℕ) = record { ref_ptr = (0, 0); now = [] } in
    names_bad c.args.words.now c.loop-word.word-index none c.loop-word-test.true c.in_default.ensures
