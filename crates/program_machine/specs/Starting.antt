-- What a lock program has of its own where its first seats have gone on from their first lines.
use Rattle.std.specs.Prelude.{◌≡◌, ℕ, ◌<◌, ◌≤◌, [], length}
use Rattle.program_code.specs.declared.program.Program.{Program}
use Rattle.program_rows.specs.Stored.{Stored, AreThere, seats_of, grants_of}
use Rattle.program_steps.specs.Going.{GoesOn}
use Rattle.program_steps.specs.World.{code_of, new_seat}

-- the first k seats have
pub record HaveStarted (p : Program) (k : ℕ) (own : Stored) : Type 0 where
  pub started : (i : ℕ) → i < k → GoesOn (code_of p i) i new_seat 0 (seats_of own.seats i)
  pub others : (i : ℕ) → k ≤ i → seats_of own.seats i ≡ new_seat
  pub words : own.words ≡ p.words
  pub sleepers : own.sleepers ≡ []
  pub grants : grants_of own.seats ≡ (λ i. 0)
  pub count : length own.seats ≡ length p.seats
  pub there : AreThere own
