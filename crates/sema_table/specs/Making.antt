-- What a table is as it is made, and which settings make none.
use Rattle.std.specs.Prelude.{◌≡◌, ℕ, ◌+◌, ◌*◌, ◌%◌, ◌^◌, ◌<◌, ◌≤◌, ◌⊎◌, List, [], length, map}
use Rattle.std.specs.List.{range_with_len}
use Rattle.step_table.specs.declared.place.Place.TheVariants.{Rest}
use Rattle.sema_root.specs.Tree.{leaf}
use Rattle.sema_root.specs.Treap.{tickets_from}
use Rattle.sema_table.specs.declared.settings.Settings.{Settings}
use Rattle.sema_table.specs.declared.settings.TableKey.{TableKey}
use Rattle.sema_table.specs.declared.setup_error.SetupError.{SetupError}
use Rattle.sema_table.specs.declared.setup_error.SetupError.TheVariants.{Counters, Seats, Roots, ReleaseLimit}
use Rattle.sema_table.specs.declared.setup_error.SetupError.TheVariants.{NoMemory}
use Rattle.sema_table.specs.declared.view.Record.{Record}
use Rattle.sema_table.specs.declared.view.Record.TheVariants.{Root}
use Rattle.sema_table.specs.Rule.{for_threads, setting_of}
use Rattle.sema_table.specs.Seats.{TableModel, SeatModel}

-- 1 to so many, or not
abbrev pub IsFromOne : ℕ → ℕ → Type 0
IsFromOne most n = (1 ≤ n) × (n ≤ most)

abbrev pub IsOutside : ℕ → ℕ → Type 0
IsOutside most n = (n ≡ 0) ⊎ (most < n)

abbrev pub most_counters : ℕ
most_counters = 65536

abbrev pub most_seats : ℕ
most_seats = 65536

abbrev pub most_roots : ℕ
most_roots = 251

abbrev pub most_releases : ℕ
most_releases = 2 ^ 54

-- each of so many seats may spend so much, and all together no more than wraps no sum
abbrev pub MaySpend : ℕ → ℕ → Type 0
MaySpend seats limit = IsFromOne most_releases limit × (seats * limit ≤ 2 ^ 62)

-- the settings are within all limits
pub record AreAllowed (k : Settings) : Type 0 where
  pub counters : IsFromOne most_counters (length k.starts.items)
  pub seats : IsFromOne most_seats k.seats
  pub roots : IsFromOne most_roots k.roots
  pub release_limit : MaySpend k.seats k.release_limit

-- the error is the first whose limit isn't kept; there is no memory for a table only where all are
abbrev pub IsRefused : Settings → SetupError → Type 0
IsRefused k Counters = IsOutside most_counters (length k.starts.items)
IsRefused k Seats = IsFromOne most_counters (length k.starts.items) × IsOutside most_seats k.seats
IsRefused k Roots = IsFromOne most_counters (length k.starts.items) × IsFromOne most_seats k.seats
    × IsOutside most_roots k.roots
IsRefused k ReleaseLimit =
    IsFromOne most_counters (length k.starts.items) × IsFromOne most_seats k.seats
    × IsFromOne most_roots k.roots
    × (MaySpend k.seats k.release_limit → ⊥)
IsRefused k NoMemory = AreAllowed k

-- a seat that has run nothing: it may spend all its units, was given none, rests, and has seen nothing
abbrev pub new_seat : TableModel → ℕ → SeatModel
new_seat t number =
    record {
      table = t;
      number = number;
      left = t.setting.limit;
      taken = 0;
      sight = record { stands = record { place = Rest; turn = 0; hand = [] }; seen = [] };
      strides = [];
    }

-- so many of them in order, from this number on
abbrev pub new_seats : TableModel → ℕ → ℕ → List SeatModel
new_seats t number count = map (new_seat t) (range_with_len number count)

-- a root where nobody waits, with room for a wait of each seat, which draws its tickets from this seed
abbrev pub new_root : ℕ → ℕ → Record
new_root seats seed = Root (record { tree = leaf; tickets = tickets_from seed; seats = seats })

-- so many of them in order. Each draws from the seed plus its number
abbrev pub new_roots : ℕ → ℕ → ℕ → List Record
new_roots seats seed count = map (λ r. new_root seats ((seed + r) % 2 ^ 64)) (range_with_len 0 count)

-- a table of such words, and its seats in the order of their numbers
pub record IsMadeWith (k : TableKey) (t : TableModel) (seats : List SeatModel) : Type 0 where
  pub allowed : AreAllowed k.settings
  pub setting : t.setting ≡ setting_of k
  pub seats_are : seats ≡ new_seats t 0 k.settings.seats

-- the same for threads, with these settings
abbrev pub IsMade : Settings → TableModel → List SeatModel → Type 0
IsMade k = IsMadeWith (for_threads k)
