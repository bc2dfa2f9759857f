use Rattle.std.proofs.Common.{◌≢◌, pos, [], sym, refl, ap, ◌∙◌, subst, arith}
use Rattle.std.specs.Int.{w32, cast_unsigned}
use Rattle.step_table.specs.declared.standing.GroupNext.{GroupNext}
use Rattle.step_table.specs.declared.standing.GroupRow.TheVariants.{V4}
use Rattle.sync_parts.specs.GroupRule.{Follows}
use Rattle.sync_parts.specs.GroupPlays.{Me, given_up}
use Rattle.sync_parts.proofs.GroupStepping.{still_some}
use Rattle.sync_parts.proofs.GroupWaiting.{begins_at, zero_is}
use Rattle.sync_parts.proofs.GroupLeaving.{at_zero, at_none, at_some, stays_counted, gets_uncounted, goes_round}
use Rattle.sync_parts.proofs.state_word.StateWord.uncount_unless_zero.Goals as goal
use Rattle.sync_parts.proofs.state_word.StateWord.uncount_unless_zero.Goals.{then-word-eq0-via-then-word-eq0}
use Rattle.sync_parts.proofs.state_word.StateWord.uncount_unless_zero.Goals.{then-word-eq0-via-else-word-eq0+then-word-eq0-2}

pub loop-init : goal.loop-init
loop-init g c = (
  [],
  begins_at c.args.token.now (V4 given_up),
  subst (λ (k : GroupNext). Follows k (V4 given_up)) (sym c.requires.counted) refl,
)

pub uncount_wait-requires-clause-some : goal.uncount_wait-requires-clause-some
uncount_wait-requires-clause-some g c =
    still_some (ap (λ (m : Me). m.0.own.knows.seats) c.load_to_leave-word.ensures.me_is ∙ c.loop.invariant.1.seats_is) c.requires.some

pub returns-then-word-eq0 : goal.returns-then-word-eq0
returns-then-word-eq0 g c = let x = c.loop.invariant in let word = c.load_to_leave-word.result in
    stays_counted c.args.token.now c.loop.token c.load_to_leave-word.new.token x.0 x.1 word c.load_to_leave-word.ensures
    (elim c.then-word-eq0.branch [
      | then-word-eq0-via-then-word-eq0 w ↦ at_zero word (zero_is word.counter c.load_to_leave-word.ensures.word.0 w.if-word-eq0.true)
      | then-word-eq0-via-else-word-eq0+then-word-eq0-2 w ↦ at_none word w.if-word-eq0-2.true
    ])

pub returns-then-uncount_wait : goal.returns-then-uncount_wait
returns-then-uncount_wait g c = let x = c.loop.invariant in let word = c.load_to_leave-word.result in
    let e = c.uncount_wait.ensures in let some : word.counter ≢ pos 0 = λ zero. c.if-word-eq0.false (ap (cast_unsigned w32) zero) in
    gets_uncounted c.args.token.now c.loop.token c.load_to_leave-word.new.token x.0 x.1 word c.load_to_leave-word.ensures
    (at_some word some c.if-word-eq0-2.false) c.uncount_wait.new.token e.0 e.2 (some, let waits = c.if-word-eq0-2.false in omega arith)
    (sym e.1 ∙ c.if-uncount_wait.true)

pub loop-preserved : goal.loop-preserved
loop-preserved g c = let x = c.loop.invariant in let word = c.load_to_leave-word.result in
    let e = c.uncount_wait.ensures in let some : word.counter ≢ pos 0 = λ zero. c.if-word-eq0.false (ap (cast_unsigned w32) zero) in
    let on = goes_round c.args.token.now c.loop.token c.load_to_leave-word.new.token x.0 x.1 word c.load_to_leave-word.ensures
    (at_some word some c.if-word-eq0-2.false) c.uncount_wait.new.token e.0 e.2 (sym e.1 ∙ c.if-uncount_wait.false) in (_, on.0, on.1)
