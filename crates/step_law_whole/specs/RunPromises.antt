-- What is promised of each world of a scenario's run, in which no ticket is ever late.
use Rattle.std.specs.Prelude.{◌≡◌, ℕ, ◌<◌, ◌≤◌, ◌⊎◌}
use Rattle.step_table.specs.declared.list_place.ListPlace.TheVariants.{Rest, Waiting}
use Rattle.step_table.specs.declared.list_place.Ticket.{Ticket}
use Rattle.step_table.specs.declared.list_place.WaitRow.TheVariants.{Parked}
use Rattle.step_table.specs.declared.list_place.ListParkedRow.TheVariants.{P}
use Rattle.step_table.specs.ListWorld.{ListWorld}
use Rattle.step_table.specs.ListTable.{wait_for}
use Rattle.step_table.specs.ListSteps.{IsListEnd}
use Rattle.step_law_lists.specs.ListLawful.{told, times, NoneLate, NoneGranted, IsLawfulList}
use Rattle.step_law_lists.specs.ListCalls.{CallsConclude, OwnTaken}
use Rattle.step_law_lists.specs.ListGrants.{EachGrantsLeast, RowsGrantLeast, EachGoes, RowsGo}
use Rattle.step_law_lists.specs.ListLaw.{IsClosed}
use Rattle.step_table.specs.Core.{CoreLayout, Core}
use Rattle.step_law_whole.specs.CoreLaw.{IsLawfulCore}

-- the lock is free, and each seat is at rest or parked with its wait in the list, no grant and a ticket that
-- isn't granted
abbrev pub IsListQuiet : ℕ → ListWorld → Type 0
IsListQuiet seats s =
    (s.words.lock ≡ 0)
    × ((k : ℕ) → k < seats → ((s.seats k).place ≡ Rest)
    ⊎ ((t : Ticket) × ((s.seats k).place ≡ Waiting t (Parked P)) × (s.words.grants k ≡ 0)
    × (0 < times (wait_for k t) s.words.queue)
    × ((told s.journal).passed ≤ t.number)))

-- a list of a run: all that is promised of a list where no ticket is late
pub record IsListOfRun (first seats : ℕ) (s : ListWorld) : Type 0 where
  pub lawful : IsLawfulList first seats s
  -- at most 512 tickets were handed out, and no seat has looked at a late one
  pub few : (told s.journal).handed ≤ 512
  pub early : NoneLate seats s
  -- while the lock is free no ticket in the list is granted
  pub queued : NoneGranted s
  -- a notification of one takes out the wait of the very ticket that it granted
  pub own : OwnTaken seats s
  -- each grant, those of its journal and those that its rows are about to make, is of the least ticket that is
  -- neither granted nor gone alone, or of all such that were handed out when L5 read the wait word
  pub granted : EachGrantsLeast first seats s.journal
  pub grants : RowsGrantLeast first seats s
  -- and each ticket that goes, or is about to, is that of a seat that slept
  pub gone : EachGoes first seats s.journal
  pub goes : RowsGo first seats s
  pub calls : CallsConclude first seats s
  pub ends : IsListEnd seats s → IsListQuiet seats s
  pub closed : IsClosed seats s

-- a lawful world of a run
pub record IsLawfulRun (m : CoreLayout) (s : Core) : Type 0 where
  pub whole : IsLawfulCore m s
  pub lists : (l : ℕ) → IsListOfRun (m.firsts l) m.seats (s.lists l)
