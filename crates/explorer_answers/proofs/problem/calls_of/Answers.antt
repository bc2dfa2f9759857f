use Rattle.std.proofs.Common.{ap, sym, ◌∙◌, ◌++◌, arith}
use Rattle.std.specs.Prelude.{codes}
use Rattle.explorer_answers.proofs.SeatCalls.{first, split, calls_begin}
use Rattle.explorer_answers.proofs.problem.calls_of.Goals as goal

pub returns : goal.returns
returns c =
    let strips = c.in_ok-strip_prefix.ensures.cases in let parts = c.in_ok-calls.ensures.cases in
    calls_begin _ _ _ (strips.1.1 ∙ ap (λ l. codes "seat " ++ l) (sym strips.2 ∙ split (codes ": ") _ _ _ (omega arith) parts))
    (first (codes ": ") _ _ _ (omega arith) parts)
