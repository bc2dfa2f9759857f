use Rattle.std.proofs.Common.{Some}
use Rattle.std.specs.Prelude.{codes}
use Rattle.step_table.specs.declared.call.Late.TheVariants.{Kept, GivenBack}
use Rattle.scenario_text.specs.Phrases.{IsKeyedSome}
use Rattle.scenario_text.proofs.Parts.{found}
use Rattle.scenario_text.proofs.Calls.{way_reads}
use Rattle.scenario_text.proofs.reader.call.read_giving_up.Goals as goal

pub returns-in-Some : goal.returns-in-Some
returns-in-Some c =
    let f = found (IsKeyedSome (codes "leave ") c.args.text.now) c.in-Some.skips c.in-Some.ensures in
    way_reads c.args.text.now (record { late = Kept; skips = Some c.in-Some.skips }) ((f.0, f.1.0), f.1.1)

pub returns : goal.returns
returns c =
    let f = found (IsKeyedSome (codes "quit ") c.args.text.now) c.in_ok-skips.skips c.in_ok-skips.ensures in
    way_reads c.args.text.now (record { late = GivenBack; skips = Some c.in_ok-skips.skips }) ((f.0, f.1.0), f.1.1)
