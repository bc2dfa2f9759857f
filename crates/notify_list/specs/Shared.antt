-- What a list's numbers say of what it was made with.
use Rattle.std.specs.Prelude.{◌≡◌, ℕ, ◌<◌, ◌≤◌, ◌^◌}
use Rattle.running_rows.specs.Seated.{TableId}
use Rattle.notify_list.specs.declared.view.Setting.{Setting}
use Rattle.notify_list.specs.declared.notify_list.NotifyList.TheInside.{Inside}
use Rattle.notify_list.specs.Setting.{words_in}
use Rattle.notify_list.specs.Seats.{ListModel}

pub record IsList (id : TableId) (z : Setting) (seats first : ℕ) : Type 0 where
  pub seated : seats ≡ z.seats
  pub first_is : first ≡ z.first
  pub fits : first < 2 ^ 64
  pub some : 0 < seats
  pub few : seats ≤ 65536
  pub words : id.words ≡ words_in z
  pub slots : id.slots ≡ 1

-- the list by what is in it
abbrev pub list_by : Inside → ListModel
list_by t = record { id = t.words.table.shared.table_id; setting = t.words.table.shared.key }
