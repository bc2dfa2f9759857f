-- What the row of a seat finds in its word; of an exchange, whether it is won.
use Rattle.std.specs.Prelude.{ℕ, ◌+◌, ◌==◌, if◌then◌else◌, Option, Some, None}
use Rattle.step_core.specs.declared.found.WordFound.{WordFound}
use Rattle.step_core.specs.declared.found.WordFound.TheVariants.{Number, State, Won, Lost}
use Rattle.step_table.specs.declared.group_word.GroupWord.{GroupWord}
use Rattle.step_table.specs.declared.parts.Parts.{Parts}
use Rattle.step_table.specs.declared.place.AcquireRow.TheVariants.{A2, A6, A11}
use Rattle.step_table.specs.declared.place.ReleaseRow.TheVariants.{R8}
use Rattle.step_table.specs.declared.place.Place.{Place}
use Rattle.step_table.specs.declared.place.Place.TheVariants.{Acquiring, Releasing}
use Rattle.step_table.specs.declared.standing.GroupRow.{GroupRow}
use Rattle.step_table.specs.declared.standing.GroupRow.TheVariants.{V2, V5}
use Rattle.step_table.specs.declared.standing.Standing.{Standing}
use Rattle.step_table.specs.declared.standing.Standing.TheVariants.{AtCounter, AtList, AtGroup}
use Rattle.step_table.specs.Group.{same_word}
use Rattle.step_table.specs.Steps.{finds}
use Rattle.step_table.specs.ListSteps as list
use Rattle.step_table.specs.Core.{CoreLayout, Core}
use Rattle.step_table.specs.Run.{Run, layout}

-- an exchange that would leave `left` of the number is won where it finds one more
abbrev pub exchanged : ℕ → ℕ → WordFound
exchanged left v = if v == left + 1 then Won else Lost

abbrev pub found_on_counter : Place → ℕ → WordFound
found_on_counter (Acquiring a (A2 left)) v = exchanged left v
found_on_counter (Acquiring a (A6 left)) v = exchanged left v
found_on_counter (Acquiring a (A11 left)) v = exchanged left v
found_on_counter (Releasing r (R8 left)) v = exchanged left v
found_on_counter place v = Number v

abbrev pub found_on_group : GroupRow → GroupWord → WordFound
found_on_group (V2 ending seen) w = if same_word seen w then Won else Lost
found_on_group (V5 how seen) w = if same_word seen w then Won else Lost
found_on_group row w = State w

-- what the row of seat i finds, which does this
abbrev pub found_doing : CoreLayout → Core → ℕ → Standing → Option WordFound
found_doing m s i (AtCounter after) =
    Some (found_on_counter (s.semaphores.seats i).place (finds m.root s.semaphores i))
found_doing m s i (AtList l ending) = Some (Number (list.finds (s.lists l) i))
found_doing m s i (AtGroup g row) = Some (found_on_group row (s.groups g))
found_doing m s i standing = None

abbrev pub found_by : Parts → Run → ℕ → Option WordFound
found_by parts run i = found_doing (layout parts) run.core i (run.core.standing i)
