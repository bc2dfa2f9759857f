-- What comes after a row, as it is stored: the seat goes on from the next line, stands there, or fails, and
-- the registers that aren't in use are 0.
use Rattle.std.specs.Prelude.{◌≡◌, ◌≢◌, ℕ, ◌+◌, pos, Bool, true, false, cond, List}
use Rattle.program_code.specs.declared.program.CodeLine.{CodeLine}
use Rattle.program_steps.specs.Table.{tells}
use Rattle.program_rows.specs.Stored.{Stored, IsSameSize, seats_of, grants_of}
use Rattle.program_steps.specs.declared.stand.Stand.{Stand}
use Rattle.program_steps.specs.declared.stand.Stand.TheVariants.{Before, FailedAt}
use Rattle.program_steps.specs.declared.stand.Then.{Then}
use Rattle.program_steps.specs.declared.stand.Then.TheVariants.{OnFromNext, Stands, Fails}
use Rattle.program_steps.specs.Going.{GoesOn}
use Rattle.program_steps.specs.World.{ProgramSeat}

-- whether a table says of a register that a seat which stands there keeps it: before a line what is in use,
-- and all where it has failed
abbrev pub kept_by : List (List Bool) → Stand → ℕ → Bool
kept_by table (Before n) r = tells table n r
kept_by table (FailedAt n why) r = true
kept_by table _ r = false

-- the seat with those registers alone of which the table says so
pub record IsClearedBy (table : List (List Bool)) (s t : ProgramSeat) : Type 0 where
  pub stand : t.stand ≡ s.stand
  pub sections : t.sections ≡ s.sections
  pub asks : t.asks ≡ s.asks
  pub registers : (r : ℕ) → t.registers r ≡ cond (kept_by table s.stand r) (s.registers r) (pos 0)

-- the seat, which stood at line n of the code, after its row
abbrev pub IsSeatAfterIn : List CodeLine → ℕ → ℕ → ProgramSeat → Then → ProgramSeat → Type 0
IsSeatAfterIn code i n s OnFromNext t = GoesOn code i s (n + 1) t
IsSeatAfterIn code i n s (Stands stand) t = t ≡ record s { stand = stand }
IsSeatAfterIn code i n s (Fails why) t = t ≡ record s { stand = FailedAt n why }

-- nothing has changed but the seat i
pub record IsOfOneSeat (i : ℕ) (s t : Stored) : Type 0 where
  pub others : (k : ℕ) → k ≢ i → seats_of t.seats k ≡ seats_of s.seats k
  pub words : t.words ≡ s.words
  pub sleepers : t.sleepers ≡ s.sleepers
  pub grants : grants_of t.seats ≡ grants_of s.seats
  pub size : IsSameSize s t

-- the seat has gone on from its first line
pub record HasStarted (code : List CodeLine) (i : ℕ) (s t : Stored) : Type 0 where
  pub seat : GoesOn code i (seats_of s.seats i) 0 (seats_of t.seats i)
  pub rest : IsOfOneSeat i s t

-- what comes after its row has come
pub record HasSettled (code : List CodeLine) (i n : ℕ) (then : Then) (s t : Stored) : Type 0 where
  pub seat : IsSeatAfterIn code i n (seats_of s.seats i) then (seats_of t.seats i)
  pub rest : IsOfOneSeat i s t
