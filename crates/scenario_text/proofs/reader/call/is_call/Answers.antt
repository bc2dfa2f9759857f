use Rattle.std.proofs.Common.{refl}
use Rattle.scenario_text.specs.Phrases.{IsCall}
use Rattle.scenario_text.proofs.Parts.{none}
use Rattle.scenario_text.proofs.reader.call.is_call.Goals as goal

pub returns-in-Some-clause-yes : goal.returns-in-Some-clause-yes
returns-in-Some-clause-yes c =
    let reads = rw c.in-Some.is at c.read_call.ensures in
    λ _. (c.in-Some.field-0, (reads c.in-Some.field-0).1 refl)

pub returns-in-None-clause-no : goal.returns-in-None-clause-no
returns-in-None-clause-no c =
    let reads = rw c.in-None.is at c.read_call.ensures in
    λ _ some. none (IsCall c.args.text.now) some.0 reads some.1
