-- A seat that gives up and holds its root's lock, in which its wait is queued.
use Rattle.std.specs.Prelude.{◌≡◌, ℕ, ◌<◌, true, []}
use Rattle.step_table.specs.declared.place.Acquire.{Acquire}
use Rattle.step_table.specs.declared.place.AcquireRow.TheVariants.{Parked}
use Rattle.step_table.specs.declared.place.ParkedRow.TheVariants.{D3}
use Rattle.step_table.specs.declared.place.Place.TheVariants.{Acquiring}
use Rattle.step_table.specs.World.{stands_in}
use Rattle.sema_table.specs.declared.seat.Numbers.{Numbers}
use Rattle.sema_table.specs.Seats.{Token, IsMidway}
use Rattle.sema_table.specs.Walks.{HasRecord, lists_of}

-- the token without the record that it holds
abbrev pub bare_of : Token → Token
bare_of t = record t { me = (t.me.0, []) }

pub record IsLeaving (t : Token) (n : Numbers) (a : Acquire) (turn : ℕ) : Type 0 where
  pub midway : IsMidway (bare_of t) n a.counter (Acquiring a (Parked turn D3))
  pub has_record : HasRecord t a.counter
  pub some : 0 < n.left
  pub queued : stands_in n.seat (lists_of t a.counter) ≡ true
