use Rattle.std.proofs.Common.{◌++◌, ℕ, List, subst}
use Rattle.program_retrace.specs.Ends.{EndsBy}
use Rattle.program_search.specs.StarvedBy.{IsStarvedBy}
use Rattle.explorer_commands.proofs.on_program.retracing.round_reply.Goals as goal

pub returns : goal.returns
returns c =
    let p = c.args.read.now.program in
    let both = c.args.both.now in
    let Ends : List ℕ × List ℕ → Type 0 = λ q. EndsBy p (q.0 ++ q.1) c.in_ok-told.told.ending in
    let Starved : List ℕ × List ℕ → Type 0 = λ q. IsStarvedBy p q.0 q.1 c.in_ok-starved.starved in (
      c.in_ok-told.told.ending,
      subst Ends (λ j. (c.deref-3.ensures.value j, c.deref-4.ensures.value j)) c.in_ok-told.ensures,
      c.exit_of_round-exit.ensures p both.schedule.items both.round.items
          (subst Starved (λ j. (c.deref.ensures.value j, c.deref-2.ensures.value j)) c.in_ok-starved.ensures),
    )
