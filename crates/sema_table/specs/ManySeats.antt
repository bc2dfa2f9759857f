-- What a seat keeps of its token in the middle of a release of many units.
use Rattle.std.specs.Prelude.{◌≤◌}
use Rattle.step_table.specs.declared.place.ReleaseMany.{ReleaseMany}
use Rattle.step_table.specs.declared.place.ManyRow.TheVariants.{M3}
use Rattle.step_table.specs.declared.place.Place.TheVariants.{ReleasingMany}
use Rattle.sema_table.specs.declared.seat.Numbers.{Numbers}
use Rattle.sema_table.specs.Seats.{Token, IsMidway}

-- the release is of 1 to 256 units
abbrev pub HasUnits : ReleaseMany → Type 0
HasUnits r = (1 ≤ r.units) × (r.units ≤ 256)

-- a seat that has added the units of this release, and goes to the lock
pub record IsOwingMany (t : Token) (n : Numbers) (r : ReleaseMany) : Type 0 where
  pub midway : IsMidway t n r.counter (ReleasingMany r M3)
  pub units : HasUnits r
