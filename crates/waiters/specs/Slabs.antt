-- What the copy of a slab is told with.
use Rattle.std.specs.Prelude.{◌≡◌, ℕ, Some}
use Rattle.slab.specs.Slab.{Slab, get}

-- the slab has each value of the other under its key, and may have more
abbrev pub HasAll : {T : Type 0} → Slab T → Slab T → Type 0
HasAll {T} slab other = (key : ℕ) (value : T) → get other key ≡ Some value → get slab key ≡ Some value
