-- What a lock program has of its own before any seat has gone on from its first line.
use Rattle.std.specs.Prelude.{◌≡◌, ℕ, ℤ, List, [], length}
use Rattle.program_rows.specs.Stored.{Stored, AreThere, seats_of, grants_of}
use Rattle.program_steps.specs.World.{new_seat}

pub record IsFirst (words : List ℤ) (seats : ℕ) (s : Stored) : Type 0 where
  pub words_are : s.words ≡ words
  pub sleepers : s.sleepers ≡ []
  pub count : length s.seats ≡ seats
  pub seats_are : seats_of s.seats ≡ (λ i. new_seat)
  pub grants : grants_of s.seats ≡ (λ i. 0)
  pub there : AreThere s
