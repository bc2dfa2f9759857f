-- What the end of a list tells.
use Rattle.std.specs.Prelude.{◌≡◌, ℕ, true, ◌<◌, List, [], ◌∷◌, length, None}
use Rattle.std.specs.List.{All}
use Rattle.step_table.specs.Path.{GoesOn, own_entries}
use Rattle.step_table.specs.Wrapping.{word_of}
use Rattle.step_table.specs.ListWorld.{ListWorld}
use Rattle.step_law_lists.specs.ListEntries.{EntriesNamed}
use Rattle.step_law_lists.specs.ListLawful.{told, IsLawfulList}
use Rattle.step_law_lists.specs.ListPath.{ListStride}
use Rattle.step_law_lists.specs.ListPlaces.{AllRest, NothingLeft}
use Rattle.notify_list.specs.declared.closed.ListClosed.{ListClosed}
use Rattle.notify_list.specs.declared.view.Setting.{Setting}
use Rattle.notify_list.specs.Places.{is_free}
use Rattle.running_rows.specs.History.{SeatStride, Writes, strides_of}
use Rattle.running_rows.specs.Rule.{In}
use Rattle.notify_list.specs.Rule.{IsMet, watched}
use Rattle.notify_list.specs.Plays.{OneSeat}
use Rattle.notify_list.specs.Rows.{list_rows}
use Rattle.notify_list.specs.Seats.{ListModel, SeatModel, Token, list_of}

-- a token's view has this seat, which may begin a call and holds no ticket
pub record IsSeatOf (g : OneSeat) (s : SeatModel) : Type 0 where
  pub number_is : g.number ≡ s.number
  pub free : is_free g.knows.sight.stands.place ≡ true
  pub holds_none : g.knows.sight.stands.ticket ≡ None
  pub seen : g.knows.sight.seen ≡ s.sight.seen
  pub went : g.gone ≡ s.strides

-- it has these seats, in their order
abbrev pub AreSeatsOf : List OneSeat → List SeatModel → Type 0
AreSeatsOf [] [] = Unit {0}
AreSeatsOf (g ∷ gs) (s ∷ ss) = IsSeatOf g s × AreSeatsOf gs ss
AreSeatsOf _ _ = ⊥

-- a token of this list has these seats in its view
pub record IsGathered (l : ListModel) (seats : List SeatModel) (token : Token) : Type 0 where
  pub own : list_of token ≡ l
  pub all : AreSeatsOf (token.me.0.own ∷ token.me.0.guests) seats

-- these are all seats of the list: each is one of its seats, and they are as many. None can come twice, since
-- none can be copied
pub record AreAll (l : ListModel) (seats : List SeatModel) : Type 0 where
  pub own : All (λ s. s.list ≡ l) seats
  pub count : length seats ≡ l.setting.seats

-- there is one journal, in a lawful world in which all rest and nobody holds a ticket or waits. Each seat of
-- the list is one of these, and has seen a beginning of the journal with all entries of its own: so the
-- journal has no entry but theirs. The strides that the seats went told it, one after the other. Every ticket
-- that it tells was handed out was granted, and the two words are those of how many these are
pub record IsClosed (z : Setting) (seats : List SeatModel) (c : ListClosed) : Type 0 where
  pub world : ListWorld
  pub met : IsMet z world
  pub lawful : IsLawfulList z.first z.seats world
  pub rest : AllRest z.seats world
  pub holds_none : (k : ℕ) → k < z.seats → (world.seats k).ticket ≡ None
  pub cleared : NothingLeft z.seats world
  pub named : EntriesNamed z.seats world
  pub each : (k : ℕ) → k < z.seats → (s : SeatModel) × In s seats × (s.number ≡ k)
  pub begins : (s : SeatModel) → In s seats → GoesOn world.journal s.sight.seen
  pub own : (s : SeatModel) → In s seats
      → own_entries (watched z) s.number world.journal ≡ own_entries (watched z) s.number s.sight.seen
  pub history : List (SeatStride ListStride)
  pub writes : Writes list_rows [] history world.journal
  pub by_seats : (m : SeatStride ListStride) → In m history → m.seat < z.seats
  pub went : (s : SeatModel) → In s seats → strides_of s.number history ≡ s.strides
  pub granted : (told world.journal).passed ≡ (told world.journal).handed
  pub next : c.next ≡ word_of z.first (told world.journal).handed
  pub notified : c.notified ≡ word_of z.first (told world.journal).passed
