use Rattle.std.proofs.Common.{◌≡◌, length, map}
use Rattle.scenario_text.specs.Phrases.{line_of}
use Rattle.scenario_text.specs.ScenarioText.{parts_of, property_of}
use Rattle.scenario_text.proofs.Keeping.{Kept}
use Rattle.scenario_text.proofs.Texts.{SoFar}
use Rattle.scenario_text.proofs.reader.read_lines.Given as goal

-- the draft is that of the lines that were read
abbrev pub invariant-loop-rest : goal.invariant-loop-rest
invariant-loop-rest l =
    record {
      so_far : SoFar l.text l.rest (map line_of l.lines.items);
      kept : Kept (map line_of l.lines.items);
      parts : l.draft.parts ≡ parts_of (map line_of l.lines.items);
      property : l.draft.property ≡ property_of (map line_of l.lines.items);
    }

abbrev pub decreases-loop-rest : goal.decreases-loop-rest
decreases-loop-rest l = length l.rest
