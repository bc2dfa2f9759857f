-- The world of a lock program: its words, the counters and lists of the sleeping layer, those who sleep on
-- words, and of each seat where it stands, its registers, its sections and what it asks for.
use Rattle.std.specs.Prelude.{ℕ, ℤ, pos, Bool, false, List, [], length, slice_index_or, max}
use Rattle.program_code.specs.declared.program.CodeLine.{CodeLine}
use Rattle.program_code.specs.declared.program.Program.{Program}
use Rattle.program_steps.specs.declared.stand.Stand.{Stand}
use Rattle.program_steps.specs.declared.stand.Stand.TheVariants.{Before}
use Rattle.program_steps.specs.declared.stand.Sleeper.{Sleeper}
use Rattle.step_table.specs.Core.{CoreLayout, Core, first_core}
use Rattle.step_table.specs.World.{root_number}

-- where a seat stands, what its registers hold, the sections that it is in, and those that it asks for
pub record ProgramSeat : Type 0 where
  pub stand : Stand
  pub registers : ℕ → ℤ
  pub sections : ℕ → Bool
  pub asks : ℕ → Bool

-- the grants are those of who sleeps on a word; the layer has its own. What a seat stands at in the layer is
-- what the layer says of it
pub record ProgramWorld : Type 0 where
  pub words : ℕ → ℤ
  pub layer : Core
  pub sleepers : List Sleeper
  pub grants : ℕ → ℕ
  pub seats : ℕ → ProgramSeat

-- the layer's counters have a root each
abbrev pub layer_of : Program → CoreLayout
layer_of p =
    record {
      seats = length p.seats;
      counters = length p.counters;
      lists = p.lists;
      groups = 0;
      root = root_number (length p.counters) (max 1 (length p.counters));
      starts = λ c. slice_index_or p.counters c 0;
      firsts = λ l. 0;
    }

-- the lines of the program that a seat runs
abbrev pub code_of : Program → ℕ → List CodeLine
code_of p i = slice_index_or p.codes (slice_index_or p.seats i 0) []

-- before the first line, with all registers 0, in no section and asking for none
abbrev pub new_seat : ProgramSeat
new_seat = record { stand = Before 0; registers = λ r. pos 0; sections = λ s. false; asks = λ s. false }

-- nobody has gone on from its first line yet
abbrev pub first_world : Program → ProgramWorld
first_world p =
    record {
      words = λ w. slice_index_or p.words w (pos 0);
      layer = first_core (layer_of p);
      sleepers = [];
      grants = λ i. 0;
      seats = λ i. new_seat;
    }
