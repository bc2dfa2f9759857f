-- What the entries of the one journal name is there.
use Rattle.std.specs.Prelude.{◌<◌, All}
use Rattle.step_table.specs.declared.entry.Entry.{Entry}
use Rattle.step_table.specs.declared.entry.Entry.TheVariants.{Ticket, Grant, Forgo}
use Rattle.step_table.specs.Core.{CoreLayout, counters_of, Core}
use Rattle.step_law_semaphores.specs.Entries.{IsNamed}

-- the list and the seat of an entry of lists are there; and the counter, which may be a group's semaphore,
-- and the seats of another
abbrev pub NamesParts : CoreLayout → Entry → Type 0
NamesParts m (Ticket l s) = (l < m.lists) × (s < m.seats)
NamesParts m (Grant l upto s) = (l < m.lists) × (s < m.seats)
NamesParts m (Forgo l n s) = (l < m.lists) × (s < m.seats)
NamesParts m e = IsNamed (counters_of m) e

abbrev pub EntriesNamed : CoreLayout → Core → Type 0
EntriesNamed m s = All (NamesParts m) s.journal
