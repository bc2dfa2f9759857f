-- What the rule says of a list between any two steps of its threads.
use Rattle.std.specs.Prelude.{◌≡◌, true}
use Rattle.running_rows.specs.Table.{State}
use Rattle.step_law_lists.specs.ListLawful.{IsLawfulList, IsInReach}
use Rattle.step_law_lists.specs.ListEntries.{EntriesNamed}
use Rattle.step_law_lists.specs.ListGrants.{EachGrantsLeast, EachGoes}
use Rattle.running_rows.specs.Futex.{Futex}
use Rattle.running_rows.specs.Rule.{IsKept, NoSleeperIsLost}
use Rattle.notify_list.specs.declared.view.Record.{Record}
use Rattle.notify_list.specs.declared.view.Setting.{Setting}
use Rattle.notify_list.specs.Plays.{ListView}
use Rattle.notify_list.specs.Futexes.{IsFutex}
use Rattle.notify_list.specs.Rows.{list_rows}

-- words, the record at home and views are those of a world that the steps of the list's seats lead to, and
-- this world is lawful. Its journal names seats that are there. Each of its grants is of the least ticket that
-- is neither granted nor gone, or of all such that were handed out when the wait word was read, and each ticket
-- that has gone is that of a seat whose wait was queued
pub record IsLawfulShown (z : Setting) (s : State Record ListView) : Type 0 where
  pub kept : IsKept list_rows z s
  pub lawful : IsLawfulList z.first z.seats kept.world
  pub named : EntriesNamed z.seats kept.world
  pub least : EachGrantsLeast z.first z.seats kept.world.journal
  pub reach : IsInReach kept.world.journal
  pub goes : EachGoes z.first z.seats kept.world.journal

-- whatever a rule holds of is lawful
abbrev pub TheList : (Setting → State Record ListView → Type 0) → Type 0
TheList holds = (z : Setting) (s : State Record ListView) → holds z s → IsLawfulShown z s

-- where a rule holds no sleeper is lost, at the list's lock or at a grant
abbrev pub TheSleepers : (Setting → State Record ListView → Type 0) → Type 0
TheSleepers holds =
    (z : Setting) (s : State Record ListView) (x : Futex) → holds z s → z.has_threads ≡ true → IsFutex z x
    → NoSleeperIsLost list_rows z s x
