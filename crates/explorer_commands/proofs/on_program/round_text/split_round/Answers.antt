use Rattle.explorer_commands.specs.RoundText.{spaced}
use Rattle.explorer_commands.proofs.Rounds.{free_spaced, one_inner}
use Rattle.explorer_commands.proofs.on_program.round_text.split_round.Goals as goal

pub returns-in-None-unspaced : goal.returns-in-None-unspaced
returns-in-None-unspaced c = λ front inner is e.
    (let both = one_inner c.args.text.now c.in-Some.before.now (spaced front) c.in-Some.inner.now inner c.in-Some.ensures.1 (free_spaced front is)
    c.in-Some.ensures.0 e in
    c.in-None-unspaced.ensures front both.0)
