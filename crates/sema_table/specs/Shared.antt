-- What a table's numbers say of what it was made with.
use Rattle.std.specs.Prelude.{◌≡◌, ℕ, ◌*◌, ◌^◌, ◌<◌, ◌≤◌, length}
use Rattle.running_rows.specs.Seated.{TableId}
use Rattle.sema_table.specs.declared.view.Setting.{Setting}
use Rattle.sema_table.specs.declared.sema_table.SemaTable.TheInside.{Inside}
use Rattle.sema_table.specs.Setting.{words_in}
use Rattle.sema_table.specs.Rule.{setting_of}
use Rattle.sema_table.specs.Seats.{TableModel}

pub record IsTable (id : TableId) (z : Setting) (counters roots seats limit : ℕ) : Type 0 where
  pub counted : counters ≡ length z.starts
  pub rooted : roots ≡ z.roots
  pub seated : seats ≡ z.seats
  pub some : 0 < roots
  pub any : 0 < counters
  pub few : (0 < seats) × (seats ≤ 65536)
  pub limited : limit ≡ z.limit
  pub low : limit ≤ 2 ^ 54
  pub shares : seats * limit ≤ 2 ^ 62
  pub words : id.words ≡ words_in z
  pub slots : id.slots ≡ z.roots

-- the table by what is in it
abbrev pub table_by : Inside → TableModel
table_by t = record { id = t.words.table.shared.table_id; setting = setting_of t.words.table.shared.key }
