-- What a caller sees of a list and of a seat, and what a seat keeps of its token.
use Rattle.std.specs.Prelude.{◌≡◌, ℕ, ◌<◌, ◌≤◌, ◌^◌, Bool, true, false, List, [], Some, None}
use Rattle.running_rows.specs.Seated.{TableId}
use Rattle.running_rows.specs.Words as words
use Rattle.waiters.specs.declared.wait.Wait.{Wait}
use Rattle.step_table.specs.declared.list_place.AllRow.TheVariants.{L3}
use Rattle.step_table.specs.declared.list_place.ListPlace.TheVariants.{Rest, Waiting, NotifyingAll}
use Rattle.step_table.specs.declared.list_place.Ticket.{Ticket}
use Rattle.step_table.specs.declared.list_place.WaitRow.TheVariants.{Parked}
use Rattle.step_table.specs.declared.list_place.ListParkedRow.TheVariants.{P}
use Rattle.step_table.specs.ListWorld.{ListSeat, ListEntry}
use Rattle.step_law_lists.specs.ListLawful.{told}
use Rattle.step_law_lists.specs.ListPath.{ListSight, ListStride}
use Rattle.notify_list.specs.declared.view.Record.{Record}
use Rattle.notify_list.specs.declared.view.Setting.{Setting}
use Rattle.notify_list.specs.Places.{is_free}
use Rattle.notify_list.specs.Rule.{Guarded, guarded_by, Lands}
use Rattle.notify_list.specs.declared.view.Known.{Known}

-- a list: its name, and what it was made with
pub record ListModel : Type 0 where
  pub id : TableId
  pub setting : Setting

-- a seat: its list, its number, how it stands and what it has seen, and the strides that it has gone
pub record SeatModel : Type 0 where
  pub list : ListModel
  pub number : ℕ
  pub sight : ListSight
  pub strides : List ListStride

abbrev pub Token : Type 0
Token = words.Token Record Known ListStride

-- what the token's seat knows of its list, how it stands, what it has seen, and what lay under the lock after
-- its last stride
abbrev pub setting_of : Token → Setting
setting_of t = t.me.0.own.knows.setting

abbrev pub stands_of : Token → ListSeat
stands_of t = t.me.0.own.knows.sight.stands

abbrev pub seen_of : Token → List ListEntry
seen_of t = t.me.0.own.knows.sight.seen

abbrev pub guarded_of : Token → Guarded
guarded_of t = guarded_by t.me.0.own.knows

abbrev pub queue_of : Token → List Wait
queue_of t = t.me.0.own.knows.queue

-- what lies under the lock, with another list of waits
abbrev pub with_queue : List Wait → Guarded → Guarded
with_queue queue g = record g { queue = queue }

abbrev pub list_of : Token → ListModel
list_of t = record { id = t.table_id; setting = setting_of t }

abbrev pub seat_of : Token → ℕ → SeatModel
seat_of t n =
    record { list = list_of t; number = n; sight = t.me.0.own.knows.sight; strides = t.me.0.own.gone }

-- the token is that of the seat n: it holds no slot, and its sight is that of the seat in a world that was
-- met
pub record IsToken (t : Token) (n : ℕ) : Type 0 where
  pub bare : t.me.1 ≡ []
  pub number_is : t.me.0.own.number ≡ n
  pub there : n < (setting_of t).seats
  pub few : (setting_of t).seats ≤ 65536
  pub lands : Lands t.me.0.own.number t.me.0.own.knows

-- a seat that may begin a call, and holds no ticket
pub record IsSeat (t : Token) (n : ℕ) : Type 0 where
  pub token_is : IsToken t n
  pub free : is_free (stands_of t).place ≡ true
  pub holds_none : (stands_of t).ticket ≡ None

-- a seat at rest that holds the ticket with this word
pub record IsHolding (t : Token) (n word : ℕ) : Type 0 where
  pub token_is : IsToken t n
  pub rests : (stands_of t).place ≡ Rest
  pub ticket : Ticket
  pub held : (stands_of t).ticket ≡ Some ticket
  pub word_is : ticket.word ≡ word

-- a seat whose wait with this ticket is queued, and whether it may leave: so it is while few tickets were handed
-- out
pub record IsParked (t : Token) (n : ℕ) (may_leave : Bool) : Type 0 where
  pub token_is : IsToken t n
  pub ticket : Ticket
  pub at : (stands_of t).place ≡ Waiting ticket (Parked P)
  pub holds_none : (stands_of t).ticket ≡ None
  pub early : may_leave ≡ true → (ticket.number < 2 ^ 60) × ((stands_of t).late ≡ 0)
  pub late : may_leave ≡ false → 2 ^ 60 ≤ (told (seen_of t)).handed

-- a seat that is about to take the lock for a notification of all
pub record IsNotifying (t : Token) (n : ℕ) : Type 0 where
  pub token_is : IsToken t n
  pub h : ℕ
  pub at : (stands_of t).place ≡ NotifyingAll h L3
  pub holds_none : (stands_of t).ticket ≡ None
