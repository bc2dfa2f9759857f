-- At which table or list a place's seat is.
use Rattle.std.specs.Prelude.{◌≡◌, Option, Some, None}

-- what the seat is at, or this one where there is no seat
abbrev pub home_of : {S M : Type 0} → (S → M) → M → Option S → M
home_of home m None = m
home_of home m (Some s) = home s

-- the seat is at this one, where there is a seat
abbrev pub IsAt : {S M : Type 0} → (S → M) → M → Option S → Type 0
IsAt home m seat = home_of home m seat ≡ m
