use Rattle.std.proofs.Common.{◌≡◌, ◌≤◌, length, take, map}
use Rattle.std.specs.Prelude.{vec_len, vec_capacity}
use Rattle.scenario_text.specs.ScenarioText.{call_of}
use Rattle.scenario_text.proofs.reader.draft.calls_of.Given as goal

abbrev pub invariant-loop-call : goal.invariant-loop-call
invariant-loop-call l = record {
  are : l.calls.items ≡ map call_of (take l.call-index l.spelled);
  len : vec_len l.calls ≡ l.call-index;
  room : length l.spelled ≤ vec_capacity l.calls;
}
