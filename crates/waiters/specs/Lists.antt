-- What a contract sees of `Lists`: a finite map from open keys to lists of waits, and two numbers of room.
use Rattle.std.specs.Prelude.{◌≡◌, ◌≢◌, ◌==◌, [], ◌∷◌, ◌++◌, if◌then◌else◌, Bool, ◌&&◌}
use Rattle.std.specs.Prelude.{ℕ, List, map, take, drop, length, Option, Some, None, IsSome, slice_index_or}
use Rattle.std.specs.Prelude.{unwrap_or}
use Rattle.waiters.specs.declared.sought.Sought.{Sought}
use Rattle.waiters.specs.declared.sought.Sought.TheVariants.{Ticket, Seat, Id}
use Rattle.waiters.specs.declared.wait.Wait.{Wait}

-- the list under each key from 0 on, `None` where none is open; how many more waits and lists fit
pub record Lists : Type 0 where
  pub slots : List (Option (List Wait))
  pub room : ℕ
  pub list_room : ℕ

-- the list under a key, if one is open
abbrev pub list_at : Lists → ℕ → Option (List Wait)
list_at lists key = slice_index_or lists.slots key None

-- a list is open under the key
abbrev pub IsOpen : Lists → ℕ → Type 0
IsOpen lists key = IsSome (list_at lists key)

-- the waits under an open key, first to last
abbrev pub waits_at : Lists → ℕ → List Wait
waits_at lists key = unwrap_or (list_at lists key) []

-- the new map has this under the key, and every other key keeps what it had
pub record Changes (old new : Lists) (key : ℕ) (list : Option (List Wait)) : Type 0 where
  pub there : list_at new key ≡ list
  pub elsewhere : (other : ℕ) → other ≢ key → list_at new other ≡ list_at old other

-- a wait is one that is sought
abbrev pub is_sought : Sought → Wait → Bool
is_sought (Ticket ticket) wait = wait.ticket == ticket
is_sought (Seat seat) wait = wait.id.seat == seat
is_sought (Id id) wait = wait.id.seat == id.seat && wait.id.turn == id.turn

-- the first wait that is sought
abbrev pub first_sought : (Wait → Bool) → List Wait → Option Wait
first_sought is [] = None
first_sought is (wait ∷ rest) = if is wait then Some wait else first_sought is rest

-- the list without it
abbrev pub without_sought : (Wait → Bool) → List Wait → List Wait
without_sought is [] = []
without_sought is (wait ∷ rest) = if is wait then rest else wait ∷ without_sought is rest

-- the first wait with this ticket, and the list without it
abbrev pub first_with : ℕ → List Wait → Option Wait
first_with ticket = first_sought (is_sought (Ticket ticket))

abbrev pub without_first : ℕ → List Wait → List Wait
without_first ticket = without_sought (is_sought (Ticket ticket))

-- the seats of the waits, in their order
abbrev pub seats_of : List Wait → List ℕ
seats_of = map (λ wait. wait.id.seat)

-- a buffer, with as many of these seats at its front as fit
abbrev pub filled : List ℕ → List ℕ → List ℕ
filled seats buffer = take (length buffer) seats ++ drop (length seats) buffer

-- the seat and the ticket of each wait
abbrev pub seats_and_tickets : List Wait → List ℕ
seats_and_tickets [] = []
seats_and_tickets (wait ∷ rest) = wait.id.seat ∷ wait.ticket ∷ seats_and_tickets rest
