use Rattle.std.proofs.Common.{sym, ap, ◌∙◌}
use Rattle.std.specs.Int.{w32, cast_unsigned}
use Rattle.step_table.specs.declared.standing.GroupRow.TheVariants.{V2}
use Rattle.step_table.specs.declared.standing.Ending.TheVariants.{NextCall}
use Rattle.sync_parts.specs.GroupPlays.{Me}
use Rattle.sync_parts.proofs.GroupStepping.{still_some}
use Rattle.sync_parts.proofs.GroupWaiting.{finds_zero, counts, gets_counted, looks_again, zero_is}
use Rattle.sync_parts.proofs.state_word.StateWord.count_unless_zero.Goals as goal

pub count_wait-requires-clause-some : goal.count_wait-requires-clause-some
count_wait-requires-clause-some g c = still_some c.loop.invariant.1.1.seats_is c.requires.some

pub load-word-requires-clause-some : goal.load-word-requires-clause-some
load-word-requires-clause-some g c =
    still_some (ap (λ (m : Me). m.0.own.knows.seats) c.count_wait.ensures.2.me_is ∙ c.loop.invariant.1.1.seats_is) c.requires.some

pub returns-then-count_wait : goal.returns-then-count_wait
returns-then-count_wait g c = let e = c.count_wait.ensures in
    gets_counted c.args.token.now (V2 NextCall c.args.word) c.loop.word c.loop.token c.count_wait.new.token c.loop.invariant.1 e.0 e.2
    (sym e.1 ∙ c.if-count_wait.true)

pub returns-then-word-eq0 : goal.returns-then-word-eq0
returns-then-word-eq0 g c = let e = c.count_wait.ensures in
    finds_zero c.args.token.now (V2 NextCall c.args.word) c.count_wait.new.token c.load-word.new.token
    (looks_again c.args.token.now (V2 NextCall c.args.word) c.loop.word c.loop.token c.count_wait.new.token c.loop.invariant.1 e.0 e.2
    (sym e.1 ∙ c.if-count_wait.false))
    c.load-word.result c.load-word.ensures (zero_is c.load-word.result.counter c.load-word.ensures.word.0 c.if-word-eq0.true)

pub loop-preserved : goal.loop-preserved
loop-preserved g c = let e = c.count_wait.ensures in (
  c.load-word.ensures.word,
  counts c.args.token.now (V2 NextCall c.args.word) c.count_wait.new.token c.load-word.new.token
      (looks_again c.args.token.now (V2 NextCall c.args.word) c.loop.word c.loop.token c.count_wait.new.token c.loop.invariant.1 e.0 e.2
      (sym e.1 ∙ c.if-count_wait.false))
      c.load-word.result c.load-word.ensures (λ zero. c.if-word-eq0.false (ap (cast_unsigned w32) zero)),
)
