-- What a caller sees of a wait group, and of its seats.
use Rattle.std.specs.Prelude.{◌≡◌, ℕ, ◌<◌, Bool, true, false, ◌^◌, List, [], ◌∷◌}
use Rattle.running_rows.specs.Seated.{TableId}
use Rattle.step_table.specs.declared.standing.GroupNext.{GroupNext}
use Rattle.step_table.specs.declared.standing.GroupNext.TheVariants.{Goes, Acquires, SleepsOn}
use Rattle.sema_table.specs.declared.view.Setting.{Setting}
use Rattle.sema_table.specs.Seats.{TableModel, SeatModel}
use Rattle.sync_parts.specs.declared.group_view.GroupStep.{GroupStep}
use Rattle.sync_parts.specs.GroupPlays.{Token}

-- a state word: its table, and how many seats it has
pub record WordModel : Type 0 where
  pub id : TableId
  pub seats : ℕ

-- a wait group: the table of its state word, and that of its semaphore
pub record GroupModel : Type 0 where
  pub word : TableId
  pub sema : TableModel

-- a seat of a wait group: its group, its seat on the semaphore, and all rows that it has run on the state
-- word, each with the word that it found
pub record GroupSeatModel : Type 0 where
  pub group : GroupModel
  pub sema : SeatModel
  pub steps : List GroupStep

-- what the semaphore of a group with so many seats is made with: one counter at 0, one root, 2^40 releases a
-- seat
abbrev pub group_setting : ℕ → Setting
group_setting seats = record { starts = 0 ∷ []; roots = 1; seats = seats; limit = 2 ^ 40; seed = 0; has_threads = true }

abbrev pub IsGroupSetting : Setting → Type 0
IsGroupSetting z = z ≡ group_setting z.seats

-- no call of the seat is under way on the state word
abbrev pub is_free : GroupNext → Bool
is_free (Goes row) = false
is_free (Acquires ending) = false
is_free (SleepsOn how) = false
is_free _ = true

-- what a seat keeps between two calls: none is under way, and it has one number on the state word and on the
-- semaphore
pub record IsGroupSeat (t : Token) (s : SeatModel) : Type 0 where
  pub some : 0 < t.me.0.own.knows.seats
  pub free : is_free t.me.0.own.knows.next ≡ true
  pub number : t.me.0.own.number ≡ s.number

abbrev pub group_seat_of : Token → SeatModel → GroupSeatModel
group_seat_of t s =
    record { group = record { word = t.table_id; sema = s.table }; sema = s; steps = t.me.0.own.gone }
