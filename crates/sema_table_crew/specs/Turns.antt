-- What the seats of a crew do, turn after turn, and the table that is closed with them.
use Rattle.std.specs.Prelude.{◌≡◌, ◌⊎◌, ℕ, zero, suc, ◌+◌, ◌%◌, ◌^◌, ◌<◌, ◌==◌, Bool, false, Ok, List, length}
use Rattle.std.specs.List.{All}
use Rattle.sema_table.specs.declared.answers.Tried.{Tried}
use Rattle.sema_table.specs.declared.answers.Tried.TheVariants.{Taken, Zero, Lost}
use Rattle.sema_table.specs.declared.answers.Wake.{Wake}
use Rattle.sema_table.specs.declared.many_seat.PostedMany.TheVariants.{Done, Owes}
use Rattle.sema_table.specs.Seats.{TableModel, SeatModel}
use Rattle.sema_table.specs.Callers.{TriesToAcquire, AcquiresUnit}
use Rattle.sema_table.specs.CallersReleasing.{ReleasesUnit, PostsUnits, WakesSome}
use Rattle.sema_table.specs.CallersEnding.{EndsTable}
use Rattle.sema_table.specs.Closing.{ClosedModel, AreAll}
use Rattle.sema_table_crew.specs.declared.work.Way.{Way}
use Rattle.sema_table_crew.specs.declared.work.Work.{Work}
use Rattle.sema_table_crew.specs.declared.work.Work.TheVariants.{Adds, Hands, HandsTwo, Rounds, Spread, Locks}

-- a whole release; or nothing, where the seat may add no more
abbrev pub Releases : SeatModel → ℕ → Bool → SeatModel → Type 0
Releases s c handoff t = ((wake : Wake) × ReleasesUnit s c handoff (Ok (t, wake))) ⊎ ((s.left ≡ 0) × (t ≡ s))

-- a whole release of two units by one add; or nothing, where the seat may not add two
abbrev pub ReleasesTwo : SeatModel → ℕ → SeatModel → Type 0
ReleasesTwo s c t =
    PostsUnits s c 2 (Ok (Done t))
    ⊎ (((u : SeatModel) × (woken : ℕ) × PostsUnits s c 2 (Ok (Owes u)) × WakesSome u t woken)
    ⊎ ((s.left < 2) × (t ≡ s)))

-- what follows a try: nothing where it took a unit, and else an acquire
abbrev pub Follows : Tried → SeatModel → ℕ → Bool → SeatModel → Type 0
Follows Taken s c lifo t = t ≡ s
Follows Zero s c lifo t = AcquiresUnit s c lifo t
Follows Lost s c lifo t = AcquiresUnit s c lifo t

-- a unit was taken, by a try or by the acquire that followed
abbrev pub Takes : SeatModel → ℕ → Bool → SeatModel → Type 0
Takes s c lifo t = (tried : Tried) × (u : SeatModel) × TriesToAcquire s c tried u × Follows tried u c lifo t

-- a release, and then a unit taken
abbrev pub GoesRound : SeatModel → ℕ → Way → SeatModel → Type 0
GoesRound s c way t = (u : SeatModel) × Releases s c way.handoff u × Takes u c way.lifo t

abbrev pub plain : Way
plain = record { lifo = false; handoff = false }

-- that of rounds: each second one has handoff and lifo
abbrev pub way_of : ℕ → Way
way_of turn = let is_odd = turn % 2 == 1 in record { lifo = is_odd; handoff = is_odd }

-- the turn of this number, by a seat of this number, of so many counters: what `Work` says. A spread is of
-- some counter
abbrev pub IsTurn : Work → ℕ → ℕ → ℕ → SeatModel → SeatModel → Type 0
IsTurn Adds many own turn s t = Releases s 0 false t
IsTurn (Hands way) many own turn s t =
    (u : SeatModel) × AcquiresUnit s (own % many) way.lifo u × Releases u ((own + 1) % many) way.handoff t
IsTurn HandsTwo many own turn s t =
    (u v : SeatModel) × AcquiresUnit s (own % many) false u × AcquiresUnit u (own % many) false v
    × ReleasesTwo v ((own + 1) % many) t
IsTurn Rounds many own turn s t = GoesRound s 0 (way_of turn) t
IsTurn Spread many own turn s t = (c : ℕ) × GoesRound s c plain t
IsTurn Locks many own turn s t =
    let c = (own + turn) % 2 ^ 32 % many in (u : SeatModel) × AcquiresUnit s c false u × Releases u c false t

-- so many turns, one after the other, from turn 0 on
abbrev pub HasRun : Work → SeatModel → ℕ → SeatModel → Type 0
HasRun work s zero t = t ≡ s
HasRun work s (suc n) t =
    (u : SeatModel) × HasRun work s n u × IsTurn work (length s.table.setting.starts) s.number n u t

-- turns, one after the other, until the seat might add no more
abbrev pub HasRunOut : Work → SeatModel → SeatModel → Type 0
HasRunOut work s t = (m : ℕ) × HasRun work s m t × (t.left ≡ 0)

-- so many turns; but rounds and spreads go on as long as the seat may add
abbrev pub HasDone : Work → SeatModel → ℕ → SeatModel → Type 0
HasDone Rounds s n t = HasRunOut Rounds s t
HasDone Spread s n t = HasRunOut Spread s t
HasDone work s n t = HasRun work s n t

-- the seat is one of this table, and has done so many turns, from how it was at first
pub record HasWorked (t : TableModel) (work : Work) (turns : ℕ) (s : SeatModel) : Type 0 where
  pub own : s.table ≡ t
  pub first : SeatModel
  pub same_table : first.table ≡ t
  pub same_number : first.number ≡ s.number
  pub done : HasDone work first turns s

-- the table was closed with all its seats, each of which had worked
pub record IsCrewRun (t : TableModel) (work : Work) (turns : ℕ) (c : ClosedModel) : Type 0 where
  pub seats : List SeatModel
  pub all : AreAll t seats
  pub worked : All (HasWorked t work turns) seats
  pub closed : EndsTable t.setting seats c
