-- Which words a scenario has columns for.
use Rattle.std.specs.Prelude.{◌<◌, length}
use Rattle.step_table.specs.declared.parts.Parts.{Parts}
use Rattle.step_core.specs.Picture.{HasCounter, HasWordOf, HasListWordOf}
use Rattle.scenario_replay.specs.declared.columns.Shown.{Shown}
use Rattle.scenario_replay.specs.declared.columns.Shown.TheVariants.{Number, Waits, OnList, Queue, Ticket}
use Rattle.scenario_replay.specs.declared.columns.Shown.TheVariants.{Group}

abbrev pub IsColumnOf : Parts → Shown → Type 0
IsColumnOf parts (Number w) = HasWordOf parts w
IsColumnOf parts (Waits c) = HasCounter parts c
IsColumnOf parts (OnList l w) = (l < length parts.firsts) × HasListWordOf parts w
IsColumnOf parts (Queue l) = l < length parts.firsts
IsColumnOf parts (Ticket l s) = (l < length parts.firsts) × (s < length parts.calls)
IsColumnOf parts (Group g) = g < parts.groups
