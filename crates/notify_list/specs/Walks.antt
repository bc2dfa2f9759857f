-- What rows of one seat do to its token.
use Rattle.std.specs.Prelude.{◌≡◌, ◌≢◌, ℕ, true, List, [], ◌∷◌, ◌++◌}
use Rattle.step_table.specs.declared.list_place.ListPlace.{ListPlace}
use Rattle.step_table.specs.declared.list_place.ListWord.TheVariants.{Lock}
use Rattle.step_table.specs.ListWorld.{ListSeat, ListEntry}
use Rattle.step_table.specs.Path.{looks, all_told}
use Rattle.step_law_lists.specs.ListPath.{ListStride, ListPath}
use Rattle.notify_list.specs.declared.view.Record.{Record}
use Rattle.running_rows.specs.Strides.{Went, here}
use Rattle.notify_list.specs.Rows.{list_rows}
use Rattle.notify_list.specs.Places.{Begins, at_place, waiting, takes_lock, locked}
use Rattle.notify_list.specs.Rule.{Guarded, Lands, IsRecord}
use Rattle.notify_list.specs.Seats.{ListModel, Token, list_of, setting_of, stands_of, seen_of, guarded_of}
use Rattle.notify_list.specs.Calls.{AreRows, rows_of}

-- the seat, standing so at first, ran these rows, which told these entries, and stands so now
pub record Walked (s : Token) (from : ListSeat) (t : Token) (stands : ListSeat) (entries : List ListEntry)
    (rows : List (ListPlace × ℕ)) : Type 0 where
  pub list_is : list_of t ≡ list_of s
  pub number_is : t.me.0.own.number ≡ s.me.0.own.number
  pub stands_is : stands_of t ≡ stands
  pub lands : Lands t.me.0.own.number t.me.0.own.knows
  pub strides : List ListStride
  pub path : ListPath (setting_of s).first (setting_of s).seats s.me.0.own.number
      (record { stands = from; seen = seen_of s }) strides t.me.0.own.knows.sight
  pub ran : AreRows strides
  pub rows_are : rows_of strides ≡ rows
  pub told_is : all_told strides ≡ entries
  pub all : t.me.0.own.gone ≡ s.me.0.own.gone ++ strides

-- the seat holds the slot, whose record is as it knows
abbrev pub HasRecord : Token → Type 0
HasRecord s = (y : Record) × (s.me.1 ≡ (0, y) ∷ []) × IsRecord (setting_of s) y (guarded_of s)

-- a seat of this list may run a row that takes the lock: that at which it stands, or the first row of a wait
pub record MayLock (l : ListModel) (s : Token) : Type 0 where
  pub list_is : list_of s ≡ l
  pub begins : Begins (stands_of s) (waiting (stands_of s))
  pub takes : takes_lock (waiting (stands_of s)).place ≡ true
  pub bare : s.me.1 ≡ []

-- the row ran, and the record came with the lock
pub record Locked (s t : Token) : Type 0 where
  pub walked : Walked s (waiting (stands_of s)) t
      (at_place (locked (waiting (stands_of s)).place) (waiting (stands_of s))) []
      (((waiting (stands_of s)).place, 0) ∷ [])
  pub record_is : HasRecord t

-- a look found the lock held, and is a stride
pub record SawHeld (s t : Token) : Type 0 where
  pub table_id : t.table_id ≡ s.table_id
  pub slots : t.me.1 ≡ s.me.1
  pub found : ℕ
  pub held : found ≢ 0
  pub looked : Went list_rows here (looks Lock) s.me.0.own found t.me.0.own

-- the record that the seat holds is this now; nothing else has changed
abbrev pub Edited : Token → Guarded → Token → Type 0
Edited s g t =
    (t.table_id ≡ s.table_id)
    × ((y : Record) × (t.me ≡ (s.me.0, (0, y) ∷ [])) × IsRecord (setting_of s) y g)
