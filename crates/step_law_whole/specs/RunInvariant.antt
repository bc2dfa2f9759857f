-- What each run of a scenario keeps beside the invariant of its machine.
use Rattle.std.specs.Prelude.{◌≡◌, ℕ, ◌+◌, ◌*◌, ◌<◌, ◌≤◌, Bool, true, false, List, [], Option, Some, None}
use Rattle.std.specs.Prelude.{length, slice_index_or, take, ◌^◌}
use Rattle.step_table.specs.declared.call.Call.{Call}
use Rattle.step_table.specs.declared.call.Late.{Late}
use Rattle.step_table.specs.declared.list_place.ListPlace.{ListPlace}
use Rattle.step_table.specs.declared.list_place.ListPlace.TheVariants.{Adding}
use Rattle.step_table.specs.declared.list_place.Ticket.{Ticket}
use Rattle.step_table.specs.declared.place.Place.{Place}
use Rattle.step_table.specs.declared.place.Place.TheVariants.{Releasing, ReleasingMany}
use Rattle.step_table.specs.declared.place.ReleaseRow.TheVariants.{R1}
use Rattle.step_table.specs.declared.place.ManyRow.TheVariants.{M1}
use Rattle.step_table.specs.declared.parts.Parts.{Parts}
use Rattle.step_table.specs.declared.standing.After.{After}
use Rattle.step_table.specs.declared.standing.After.TheVariants.{Closes, LooksAgain, Releases}
use Rattle.step_table.specs.declared.standing.Ending.{Ending}
use Rattle.step_table.specs.declared.standing.Ending.TheVariants.{NextCall, MayGiveUp, GaveUp, GivesBack}
use Rattle.step_table.specs.declared.standing.GroupRow.{GroupRow}
use Rattle.step_table.specs.declared.standing.GroupRow.TheVariants.{G1, G2, G3, V1, V2, V4, V5}
use Rattle.step_table.specs.declared.standing.Standing.{Standing}
use Rattle.step_table.specs.declared.standing.Standing.TheVariants.{Rest, AtCounter, AtList, AtGroup, Left}
use Rattle.step_law_semaphores.specs.Lawful.{added}
use Rattle.step_table.specs.Counting.{total}
use Rattle.step_table.specs.ListWorld.{ListSeat}
use Rattle.step_table.specs.Core.{Core}
use Rattle.step_law_whole.specs.CoreLaw.{IsCoreInvariant}
use Rattle.step_table.specs.Scenario.{IsWithinLimits, IsDeclared, KeepsTickets, holds_ticket}
use Rattle.step_table.specs.Run.{Run, layout}
use Rattle.step_table.specs.declared.call.Late.TheVariants.{Kept, GivenBack}

-- the calls of seat k
abbrev pub calls_of : Parts → ℕ → List Call
calls_of parts k = slice_index_or parts.calls k []

-- how many units the seat's row adds
abbrev pub to_add : Place → ℕ
to_add (Releasing r R1) = 1
to_add (ReleasingMany r M1) = r.units
to_add _ = 0

-- how many units it adds, where it gives back what comes late
abbrev pub late_adds : Late → ℕ
late_adds Kept = 0
late_adds GivenBack = 1

-- how many units its call may add after that
abbrev pub more_to_add : After → ℕ
more_to_add (Closes (MayGiveUp how)) = late_adds how.late
more_to_add (Closes (GaveUp how)) = late_adds how.late
more_to_add (Releases g more) = more
more_to_add _ = 0

-- an add to a group releases at most as many waits as its word can count
abbrev pub may_add_at : GroupRow → ℕ
may_add_at (G1 d) = 2 ^ 32
may_add_at (G2 w) = 2 ^ 32
may_add_at (G3 w) = 2 ^ 32
may_add_at _ = 0

-- how many units the seat's call may still add
abbrev pub may_add : Place → Standing → ℕ
may_add place (AtCounter after) = to_add place + more_to_add after
may_add place (AtGroup g row) = may_add_at row
may_add place _ = 0

-- 1 where the seat's row takes a ticket
abbrev pub to_take : ListPlace → ℕ
to_take Adding = 1
to_take _ = 0

-- whether the seat holds a ticket, or is about to
abbrev pub has_ticket : ListPlace → Option Ticket → Bool
has_ticket Adding ticket = true
has_ticket _ None = false
has_ticket _ (Some t) = true

abbrev pub holds : ListSeat → Bool
holds seat = has_ticket seat.place seat.ticket

-- how many calls the seat leaves out if it gives up the call that it is in, or has given it up
abbrev pub skips_ending : Ending → ℕ
skips_ending NextCall = 0
skips_ending (MayGiveUp how) = how.skips
skips_ending (GaveUp how) = how.skips
skips_ending (GivesBack skips) = skips

abbrev pub skips_after : After → ℕ
skips_after (Closes ending) = skips_ending ending
skips_after (LooksAgain g ending) = skips_ending ending
skips_after _ = 0

abbrev pub skips_at : GroupRow → ℕ
skips_at (V1 ending) = skips_ending ending
skips_at (V2 ending w) = skips_ending ending
skips_at (V4 how) = how.skips
skips_at (V5 how w) = how.skips
skips_at _ = 0

abbrev pub skips_in : Standing → ℕ
skips_in (AtCounter after) = skips_after after
skips_in (AtList l ending) = skips_ending ending
skips_in (AtGroup g row) = skips_at row
skips_in (Left skips) = skips
skips_in _ = 0

-- after the calls that it may leave out it holds the tickets that it holds before them
abbrev pub SkipsFit : List Call → ℕ → Standing → Type 0
SkipsFit calls begun standing =
    (l : ℕ) → holds_ticket l (take (begun + skips_in standing) calls) ≡ holds_ticket l (take begun calls)

-- the word that the seat carries has a low half of 32 bits, and counts a wait that it takes out of it
abbrev pub CarriesWord : Standing → Type 0
CarriesWord (AtGroup g (G2 w)) = w.waits < 2 ^ 32
CarriesWord (AtGroup g (G3 w)) = w.waits < 2 ^ 32
CarriesWord (AtGroup g (V2 ending w)) = w.waits < 2 ^ 32
CarriesWord (AtGroup g (V5 how w)) = (0 < w.waits) × (w.waits < 2 ^ 32)
CarriesWord _ = Unit {0}

-- a sound run, whose machine is kept so
pub record IsSoundRunOf (IsKeptSo : Core → Type 0) (parts : Parts) (run : Run) : Type 0 where
  pub core : IsKeptSo run.core
  -- a seat has begun no more calls than it has, and all of them where it is at rest
  pub begun : (k : ℕ) → run.begun k ≤ length (calls_of parts k)
  pub ended : (k : ℕ) → run.core.standing k ≡ Rest → run.begun k ≡ length (calls_of parts k)
  -- it holds the tickets that its calls have left it
  pub tickets : (k l : ℕ)
      → holds ((run.core.lists l).seats k) ≡ holds_ticket l (take (run.begun k) (calls_of parts k))
  pub skipped : (k : ℕ) → SkipsFit (calls_of parts k) (run.begun k) (run.core.standing k)
  pub words : (g : ℕ) → (run.core.groups g).waits < 2 ^ 32
  pub carried : (k : ℕ) → CarriesWord (run.core.standing k)
  -- each call adds at most 2^32 units, and takes at most one ticket
  pub units :
      added run.core.semaphores.journal
      + total (length parts.calls) (λ k. may_add (run.core.semaphores.seats k).place (run.core.standing k))
      ≤ 2 ^ 32 * total (length parts.calls) run.begun
  pub handed : (l : ℕ) →
      (run.core.lists l).words.numbers.handed
      + total (length parts.calls) (λ k. to_take ((run.core.lists l).seats k).place)
      ≤ total (length parts.calls) run.begun

abbrev pub IsSoundRun : Parts → Run → Type 0
IsSoundRun parts run = IsSoundRunOf (IsCoreInvariant (layout parts)) parts run

-- the parts of a scenario
pub record IsScenario (parts : Parts) : Type 0 where
  pub limits : IsWithinLimits parts
  pub declared : IsDeclared parts
  pub tickets : KeepsTickets parts
