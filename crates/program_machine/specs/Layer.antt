-- The sleeping layer of a lock program, as the machine of a scenario stores it: the seats of that scenario
-- have no calls of their own.
use Rattle.std.specs.Prelude.{[], length, replicate, max}
use Rattle.program_code.specs.declared.program.Program.{Program}
use Rattle.step_table.specs.declared.parts.Parts.{Parts}

abbrev pub parts_of : Program → Parts
parts_of p =
    record {
      roots = max 1 (length p.counters);
      starts = p.counters;
      firsts = replicate p.lists 0;
      groups = 0;
      calls = replicate (length p.seats) [];
    }
