use Rattle.std.proofs.Common.{length}
use denote.Text.{Utf8}
use denote.Shadow.{shadow}
use Rattle.explorer_answers.specs.Explained.{HasCalls}
use Rattle.explorer_answers.proofs.problem.unspelled_call.Given as goal

abbrev pub invariant-loop-call : goal.invariant-loop-call
invariant-loop-call l = shadow (Utf8 l.rest) × HasCalls l.line l.rest

abbrev pub decreases-loop-call : goal.decreases-loop-call
decreases-loop-call l = length l.rest
