use Rattle.std.proofs.Common.{rules, arith}
use Rattle.std.specs.Prelude.{codes}
use Rattle.explorer_answers.proofs.SeatCalls.{first, split, lacks, calls_go_on, unspelled_here, unspelled_last}
use Rattle.explorer_answers.proofs.problem.unspelled_call.Goals as goal

pub returns-then-not-is_call : goal.returns-then-not-is_call
returns-then-not-is_call c = let parts = c.in-Some.ensures.cases in
    unspelled_here _ _ _ _ c.loop-call.invariant.1 (split (codes "; ") _ _ _ (omega arith) parts) (first (codes "; ") _ _ _ (omega arith) parts)
    (c.is_call.ensures.no c.if-not-is_call.true)

pub loop-call-preserved : goal.loop-call-preserved
loop-call-preserved c = let parts = c.in-Some.ensures.cases in (
  search rules,
  calls_go_on _ _ _ _ c.loop-call.invariant.1 (split (codes "; ") _ _ _ (omega arith) parts) (c.is_call.ensures.yes c.if-not-is_call.false),
)

pub returns-else-is_call : goal.returns-else-is_call
returns-else-is_call c =
    unspelled_last _ _ c.loop-call.invariant.1 (lacks (codes "; ") _ c.in_default.ensures.cases) (c.is_call-2.ensures.no c.if-is_call.false)
