-- Where a seat's heirs are named, and what naming them leaves as it was.
use Rattle.std.specs.Prelude.{◌≡◌, ℕ, ◌<◌, ◌≤◌}
use Rattle.notify_list.specs.declared.view.Setting.{Setting}
use Rattle.notify_list.specs.Setting.{heir_address, sleepers_address}
use Rattle.notify_list.specs.Seats.{Token}

-- the word names an heir of some seat
abbrev pub NamesHeir : Setting → ℕ → Type 0
NamesHeir z word = (heir_address z 0 ≤ word) × (word < sleepers_address z)

-- no row ran
abbrev pub IsSame : Token → Token → Type 0
IsSame s t = (t.table_id ≡ s.table_id) × (t.me ≡ s.me)
