use Rattle.std.proofs.Common.{List, Some, None, subst, sym, rules}
use Rattle.std.specs.Prelude.{codes}
use Rattle.scenario_text.specs.declared.reader.call.SpelledCall.{SpelledCall}
use Rattle.scenario_text.specs.Phrases.{ReadsAs, AreCalls}
use Rattle.scenario_text.proofs.Parts.{stripped_front}
use Rattle.scenario_text.proofs.Joined.{SoFar, turn, no_first, no_space, ends, no_last}
use Rattle.scenario_text.proofs.reader.call.read_calls.Goals as goal

pub returns-in_default-read_call : goal.returns-in_default-read_call
returns-in_default-read_call c = no_first c.args.text.now c.loop-first.rest.now c.loop-first.calls.items (c.in-Some.first, c.in-Some.others)
    c.loop-first.invariant.1 c.in-Some.ensures.cases c.in_default-read_call.ensures

pub returns-in_default-strip_prefix : goal.returns-in_default-strip_prefix
returns-in_default-strip_prefix c = no_space c.args.text.now c.loop-first.rest.now c.loop-first.calls.items (c.in-Some.first, c.in-Some.others)
    c.loop-first.invariant.1 c.in-Some.ensures.cases (stripped_front (codes " ") c.in-Some.others.now None c.in_default-strip_prefix.ensures.cases)

pub loop-first-preserved : goal.loop-first-preserved
loop-first-preserved c = (
  search rules,
  subst (λ (cs : List SpelledCall). SoFar c.args.text.now c.in-Some-strip_prefix.after.now cs) (sym c.in_ok-push.ensures.items)
      (turn c.args.text.now c.loop-first.rest.now c.in-Some-strip_prefix.after.now c.loop-first.calls.items (c.in-Some.first, c.in-Some.others)
      c.in-Some-read_call.next c.loop-first.invariant.1 c.in-Some.ensures.cases c.in-Some-read_call.ensures
      (stripped_front (codes " ") c.in-Some.others.now (Some c.in-Some-strip_prefix.after) c.in-Some-strip_prefix.ensures.cases)),
)

pub returns-in_ok-push-in-Some-read_call-2 : goal.returns-in_ok-push-in-Some-read_call-2
returns-in_ok-push-in-Some-read_call-2 c =
    subst (λ (cs : List SpelledCall). ReadsAs (AreCalls c.args.text.now) (Some cs)) (sym c.in_ok-push-in-Some-read_call-2.ensures.items)
    (ends c.args.text.now c.loop-first.rest.now c.loop-first.calls.items c.in-Some-read_call-2.last c.loop-first.invariant.1
    c.in_default.ensures.cases c.in-Some-read_call-2.ensures)

pub returns-in-None : goal.returns-in-None
returns-in-None c = no_last c.args.text.now c.loop-first.rest.now c.loop-first.calls.items c.loop-first.invariant.1 c.in_default.ensures.cases c.in-None.ensures
