-- What a lock program has of its own as it is stored, and the world that it shows above the sleeping layer.
use Rattle.std.specs.Prelude.{◌≡◌, ℕ, ℤ, ◌<◌, pos, false, List, [], All, length}
use Rattle.program_rows.specs.declared.seat.Seat.{Seat}
use Rattle.program_steps.specs.declared.stand.Sleeper.{Sleeper}
use Rattle.program_steps.specs.declared.stand.Stand.TheVariants.{Before}
use Rattle.program_steps.specs.World.{ProgramSeat, ProgramWorld}
use Rattle.step_rows.specs.Stored.{each}
use Rattle.step_table.specs.Core.{Core}

-- the seat of a world
abbrev pub seat_of : Seat → ProgramSeat
seat_of seat =
    record {
      stand = seat.stand;
      registers = each (pos 0) seat.registers;
      sections = each false seat.sections;
      asks = each false seat.asks;
    }

-- a seat that there isn't
abbrev pub no_seat : Seat
no_seat = record { stand = Before 0; registers = []; sections = []; asks = []; grant = 0 }

-- the words, who sleeps on them, and the seats
pub record Stored : Type 0 where
  pub words : List ℤ
  pub sleepers : List Sleeper
  pub seats : List Seat

abbrev pub seats_of : List Seat → ℕ → ProgramSeat
seats_of seats i = seat_of (each no_seat seats i)

abbrev pub grants_of : List Seat → ℕ → ℕ
grants_of seats i = (each no_seat seats i).grant

-- its world above this layer
abbrev pub world_over : Core → Stored → ProgramWorld
world_over layer s =
    record {
      words = each (pos 0) s.words;
      layer = layer;
      sleepers = s.sleepers;
      grants = grants_of s.seats;
      seats = seats_of s.seats;
    }

-- who sleeps is one of the seats
abbrev pub AreThere : Stored → Type 0
AreThere s = All (λ (x : Sleeper). x.seat < length s.seats) s.sleepers

-- as many words and seats, and who sleeps is still one of them
pub record IsSameSize (s t : Stored) : Type 0 where
  pub words : length t.words ≡ length s.words
  pub seats : length t.seats ≡ length s.seats
  pub there : AreThere s → AreThere t
