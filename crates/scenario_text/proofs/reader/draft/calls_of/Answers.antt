use Rattle.std.proofs.Common.{[], ◌∷◌, ◌++◌, map, sym, ap, ◌∙◌, arith}
use Rattle.std.proofs.lemmas.List.{map_push, take_all, take_more}
use Rattle.scenario_text.specs.ScenarioText.{call_of}
use Rattle.scenario_text.proofs.reader.draft.calls_of.Goals as goal

pub loop-call-preserved : goal.loop-call-preserved
loop-call-preserved c =
    let spelled = c.args.spelled.now in
    let at = c.loop-call.call-index in
    record {
      are = c.push_reserved.ensures.items ∙ (λ j. c.loop-call.invariant.are j ++ c.call_of.ensures j ∷ [])
          ∙ sym (ap (map call_of) (take_more spelled at _ c.loop-call-test.true) ∙ map_push call_of _ _);
      len = omega (arith, c.push_reserved.ensures.len, c.loop-call.invariant.len);
      room = omega (arith, c.push_reserved.ensures.capacity, c.loop-call.invariant.room);
    }

pub returns : goal.returns
returns c =
    c.new.ensures ∙ c.loop-call.invariant.are ∙ ap (map call_of) (take_all _ _ c.loop-call-test.false)
