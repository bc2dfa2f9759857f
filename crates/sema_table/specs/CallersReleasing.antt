-- What the calls that add and wake are to their caller.
use Rattle.std.specs.Prelude.{◌≡◌, ◌≢◌, ℕ, ◌<◌, ◌≤◌, Bool, true, false, Result, Ok, Err, List, [], ◌∷◌, ◌++◌}
use Rattle.std.specs.Prelude.{length, map}
use Rattle.waiters.specs.declared.wait.WaitId.{WaitId}
use Rattle.step_table.specs.declared.entry.Entry.{Entry}
use Rattle.step_table.specs.declared.entry.Entry.TheVariants.{Add, AddMany, Take, Leave}
use Rattle.step_table.specs.declared.place.ReleaseRow.TheVariants.{R3}
use Rattle.step_table.specs.declared.place.ManyRow.TheVariants.{M3}
use Rattle.step_table.specs.declared.place.Place.TheVariants.{Releasing, ReleasingMany}
use Rattle.sema_table.specs.declared.answers.PostRefused.{PostRefused}
use Rattle.sema_table.specs.declared.answers.Posted.{Posted}
use Rattle.sema_table.specs.declared.answers.Posted.TheVariants.{Done, Owes}
use Rattle.sema_table.specs.declared.answers.Wake.{Wake}
use Rattle.sema_table.specs.declared.answers.Wake.TheVariants.{Nobody, One, Handed}
use Rattle.sema_table.specs.declared.many_seat.PostedMany.{PostedMany}
use Rattle.sema_table.specs.declared.many_seat.PostedMany.TheVariants as many
use Rattle.sema_table.specs.Seats.{SeatModel}
use Rattle.sema_table.specs.Calls.{TellsIn, plain_seen}
use Rattle.sema_table.specs.Callers.{IsSeatAfter}

-- the seat has added a unit to c, and has to look for a wait; or so many at once, and has to look for as many
-- waits
abbrev pub HasToWake : SeatModel → ℕ → Type 0
HasToWake s c = s.sight.stands.place ≡ Releasing (record { counter = c; handoff = false }) R3

abbrev pub HasToWakeSome : SeatModel → ℕ → ℕ → Type 0
HasToWakeSome s c units = s.sight.stands.place ≡ ReleasingMany (record { counter = c; units = units }) M3

-- once the seat had added so many units and told so, these waits were queued on c, in this order, after all
-- that it had seen
abbrev pub SeesWaiting : SeatModel → ℕ → List Entry → ℕ → List WaitId → SeatModel → Type 0
SeesWaiting s added told c waits t =
    (u : SeatModel) × IsSeatAfter s added 0 told u × ((plain_seen u).lists c ≡ waits)
    × TellsIn u.sight.seen [] t.sight.seen

-- the seat has added so many units and told so. Then nobody waited on c; or it let the first wait out, which
-- is another seat's, and woke that seat; or it took a unit for that seat too, as it was asked to
abbrev pub HasWoken : SeatModel → ℕ → List Entry → ℕ → Bool → SeatModel → Wake → Type 0
HasWoken s added told c handoff t Nobody = SeesWaiting s added told c [] t × IsSeatAfter s added 0 told t
HasWoken s added told c handoff t (One w) =
    ((others : List WaitId) × SeesWaiting s added told c (w ∷ others) t)
    × (w.seat ≢ s.number) × IsSeatAfter s added 0 (told ++ Leave c w s.number ∷ []) t
HasWoken s added told c handoff t (Handed w) =
    ((others : List WaitId) × SeesWaiting s added told c (w ∷ others) t)
    × (w.seat ≢ s.number) × IsSeatAfter s added 0 (told ++ Leave c w s.number ∷ Take c w.seat ∷ []) t
    × (handoff ≡ true)

-- the rest of a release
abbrev pub WakesFirst : SeatModel → Bool → SeatModel → Wake → Type 0
WakesFirst s handoff t wake = (c : ℕ) × HasToWake s c × HasWoken s 0 [] c handoff t wake

-- a unit was added, and nobody waits on c after all that is seen now, or the seat has to look; or it may add
-- no more, and is as it was
abbrev pub PostsUnit : SeatModel → ℕ → Result Posted (SeatModel × PostRefused) → Type 0
PostsUnit s c (Ok (Done t)) = IsSeatAfter s 1 0 (Add c s.number ∷ []) t × ((plain_seen t).lists c ≡ [])
PostsUnit s c (Ok (Owes t)) = IsSeatAfter s 1 0 (Add c s.number ∷ []) t × HasToWake t c
PostsUnit s c (Err refused) = (s.left ≡ 0) × (refused.0 ≡ s)

-- a unit was added, and who waited first was woken; or the seat may add no more, and is as it was
abbrev pub ReleasesUnit : SeatModel → ℕ → Bool → Result (SeatModel × Wake) (SeatModel × PostRefused) → Type 0
ReleasesUnit s c handoff (Ok done) = HasWoken s 1 (Add c s.number ∷ []) c handoff done.0 done.1
ReleasesUnit s c handoff (Err refused) = (s.left ≡ 0) × (refused.0 ≡ s)

-- the seat has added so many units and told so. Then it let n waits out of c, each of another seat and the
-- first as it left: as many as there are units, or fewer where nobody waited any more
pub record HasWokenSome (s : SeatModel) (added : ℕ) (told : List Entry) (c units : ℕ) (t : SeatModel) (n : ℕ)
    : Type 0 where
  pub waits : List WaitId
  pub count : length waits ≡ n
  pub after : IsSeatAfter s added 0 (told ++ map (λ w. Leave c w s.number) waits) t
  pub first : (before rest : List WaitId) (w : WaitId) → waits ≡ before ++ w ∷ rest → (w.seat ≢ s.number)
      × ((others : List WaitId)
      × SeesWaiting s added (told ++ map (λ v. Leave c v s.number) before) c (w ∷ others) t)
  pub most : n ≤ units
  pub all : n < units → SeesWaiting s added (told ++ map (λ w. Leave c w s.number) waits) c [] t

-- the rest of a release of many units
abbrev pub WakesSome : SeatModel → SeatModel → ℕ → Type 0
WakesSome s t n = (c : ℕ) × (units : ℕ) × HasToWakeSome s c units × HasWokenSome s 0 [] c units t n

-- the same, and these are the seats of the waits that it let out, in the order in which they left
abbrev pub WakesThese : SeatModel → SeatModel → List ℕ → Type 0
WakesThese s t seats =
    (c : ℕ) × (units : ℕ) × HasToWakeSome s c units
    × ((woken : HasWokenSome s 0 [] c units t (length seats)) × (seats ≡ map (λ w. w.seat) woken.waits))

-- all units were added at once, and the rest as of one; or the seat may not add so many, and is as it was
abbrev pub PostsUnits : SeatModel → ℕ → ℕ → Result PostedMany (SeatModel × PostRefused) → Type 0
PostsUnits s c units (Ok (many.Done t)) =
    IsSeatAfter s units 0 (AddMany c units s.number ∷ []) t × ((plain_seen t).lists c ≡ [])
PostsUnits s c units (Ok (many.Owes t)) =
    IsSeatAfter s units 0 (AddMany c units s.number ∷ []) t × HasToWakeSome t c units
PostsUnits s c units (Err refused) = (s.left < units) × (refused.0 ≡ s)

-- all units were added at once, and as many waits woken; or the seat may not add so many, and is as it was
abbrev pub ReleasesUnits : SeatModel → ℕ → ℕ → Result (SeatModel × ℕ) (SeatModel × PostRefused) → Type 0
ReleasesUnits s c units (Ok done) = HasWokenSome s units (AddMany c units s.number ∷ []) c units done.0 done.1
ReleasesUnits s c units (Err refused) = (s.left < units) × (refused.0 ≡ s)
