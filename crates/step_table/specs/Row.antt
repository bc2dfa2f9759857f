-- The name of the row at which a seat stands, and its phase.
use Rattle.std.specs.Prelude.{ℕ, Option, Some, None, if◌then◌else◌}
use Rattle.step_table.specs.declared.list_place.AllRow.{AllRow}
use Rattle.step_table.specs.declared.list_place.AllRow.TheVariants.{L1, L2, L3, L4, L5, L6, L7, L8}
use Rattle.step_table.specs.declared.list_place.ListParkedRow.{ListParkedRow}
use Rattle.step_table.specs.declared.list_place.ListParkedRow.TheVariants as parked
use Rattle.step_table.specs.declared.list_place.ListPlace.{ListPlace}
use Rattle.step_table.specs.declared.list_place.ListPlace.TheVariants as on_list
use Rattle.step_table.specs.declared.list_place.OneRow.{OneRow}
use Rattle.step_table.specs.declared.list_place.OneRow.TheVariants.{O1, O2, O3, O4, O5, O6, O7, O8, O9}
use Rattle.step_table.specs.declared.list_place.WaitRow.{WaitRow}
use Rattle.step_table.specs.declared.list_place.WaitRow.TheVariants as wait
use Rattle.step_table.specs.declared.standing.GroupRow.{GroupRow}
use Rattle.step_table.specs.declared.standing.GroupRow.TheVariants.{G1, G2, G3, V1, V2, V3, V4, V5}
use Rattle.step_table.specs.declared.standing.Standing.{Standing}
use Rattle.step_table.specs.declared.standing.Standing.TheVariants as doing
use Rattle.step_table.specs.Core.{Core}
use Rattle.step_table.specs.CoreSteps.{may_give_up, may_give_up_on_list}
use Rattle.step_table.specs.declared.place.AcquireRow.{AcquireRow}
use Rattle.step_table.specs.declared.place.AcquireRow.TheVariants.{A1, A2, A3, A4, A5, A6, A7, A8, A9, Parked, A10}
use Rattle.step_table.specs.declared.place.ParkedRow.TheVariants.{P, D2, D3, D5}
use Rattle.step_table.specs.declared.place.ParkedRow.{ParkedRow}
use Rattle.step_table.specs.declared.place.AcquireRow.TheVariants.{A11, D4}
use Rattle.step_table.specs.declared.place.ReleaseRow.{ReleaseRow}
use Rattle.step_table.specs.declared.place.ReleaseRow.TheVariants.{R1, R2, R3, R4, R5, R6, R7, R8, R9, R10}
use Rattle.step_table.specs.declared.place.ManyRow.{ManyRow}
use Rattle.step_table.specs.declared.place.ManyRow.TheVariants.{M1, M2, M3, M4, M5, M6, M7}
use Rattle.step_table.specs.declared.place.Place.{Place}
use Rattle.step_table.specs.declared.place.Place.TheVariants.{Rest, Acquiring, Releasing, ReleasingMany}
use Rattle.step_table.specs.declared.phase.Phase.{Phase}
use Rattle.step_table.specs.declared.phase.Phase.TheVariants.{At, Ended, Failed}
use Rattle.step_table.specs.declared.row.Row.{Row}
use Rattle.step_table.specs.declared.row.Row.TheVariants as name

abbrev pub parked_row_name : ParkedRow → Row
parked_row_name P = name.P
parked_row_name D2 = name.D2
parked_row_name D3 = name.D3
parked_row_name D5 = name.D5

abbrev pub acquire_row_name : AcquireRow → Row
acquire_row_name A1 = name.A1
acquire_row_name (A2 left) = name.A2
acquire_row_name A3 = name.A3
acquire_row_name A4 = name.A4
acquire_row_name A5 = name.A5
acquire_row_name (A6 left) = name.A6
acquire_row_name A7 = name.A7
acquire_row_name A8 = name.A8
acquire_row_name A9 = name.A9
acquire_row_name A10 = name.A10
acquire_row_name (A11 left) = name.A11
acquire_row_name D4 = name.D4
acquire_row_name (Parked turn row) = parked_row_name row

abbrev pub release_row_name : ReleaseRow → Row
release_row_name R1 = name.R1
release_row_name R2 = name.R2
release_row_name R3 = name.R3
release_row_name R4 = name.R4
release_row_name R5 = name.R5
release_row_name R6 = name.R6
release_row_name R7 = name.R7
release_row_name (R8 left) = name.R8
release_row_name R9 = name.R9
release_row_name R10 = name.R10

abbrev pub many_row_name : ManyRow → Row
many_row_name M1 = name.M1
many_row_name M2 = name.M2
many_row_name M3 = name.M3
many_row_name M4 = name.M4
many_row_name M5 = name.M5
many_row_name M6 = name.M6
many_row_name M7 = name.M7

abbrev pub list_parked_row_name : ListParkedRow → Row
list_parked_row_name parked.P = name.P
list_parked_row_name parked.E1 = name.E1
list_parked_row_name parked.E2 = name.E2
list_parked_row_name (parked.E3 t) = name.E3
list_parked_row_name parked.E5 = name.E5

abbrev pub wait_row_name : WaitRow → Row
wait_row_name wait.W1 = name.W1
wait_row_name wait.W2 = name.W2
wait_row_name wait.W3 = name.W3
wait_row_name wait.W4 = name.W4
wait_row_name wait.E4 = name.E4
wait_row_name (wait.Parked row) = list_parked_row_name row

abbrev pub one_row_name : OneRow → Row
one_row_name O1 = name.O1
one_row_name (O2 a) = name.O2
one_row_name O3 = name.O3
one_row_name O4 = name.O4
one_row_name (O5 t) = name.O5
one_row_name O6 = name.O6
one_row_name (O7 t) = name.O7
one_row_name (O8 t) = name.O8
one_row_name O9 = name.O9

abbrev pub all_row_name : AllRow → Row
all_row_name L1 = name.L1
all_row_name (L2 a) = name.L2
all_row_name L3 = name.L3
all_row_name L4 = name.L4
all_row_name (L5 t) = name.L5
all_row_name (L6 r) = name.L6
all_row_name (L7 n) = name.L7
all_row_name L8 = name.L8

abbrev pub list_row_of : ListPlace → Option Row
list_row_of on_list.Rest = None
list_row_of on_list.Adding = Some name.N1
list_row_of (on_list.Waiting t row) = Some (wait_row_name row)
list_row_of (on_list.NotifyingOne h row) = Some (one_row_name row)
list_row_of (on_list.NotifyingAll h row) = Some (all_row_name row)

abbrev pub group_row_name : GroupRow → Row
group_row_name (G1 d) = name.G1
group_row_name (G2 w) = name.G2
group_row_name (G3 w) = name.G3
group_row_name (V1 ending) = name.V1
group_row_name (V2 ending w) = name.V2
group_row_name (V3 ending) = name.V3
group_row_name (V4 how) = name.V4
group_row_name (V5 how w) = name.V5

abbrev pub row_of : Place → Option Row
row_of Rest = None
row_of (Acquiring a row) = Some (acquire_row_name row)
row_of (Releasing r row) = Some (release_row_name row)
row_of (ReleasingMany r row) = Some (many_row_name row)

-- a seat before no row has ended
abbrev pub phase_before : Option Row → Phase
phase_before None = Ended
phase_before (Some row) = At row

-- how far seat i has come, which does this
abbrev pub phase_doing : Core → ℕ → Standing → Phase
phase_doing s i doing.Rest = Ended
phase_doing s i (doing.AtCounter after) =
    if may_give_up s.semaphores i after then At name.D1
    else phase_before (row_of (s.semaphores.seats i).place)
phase_doing s i (doing.AtList l ending) =
    if may_give_up_on_list (s.lists l) i ending then At name.D1
    else phase_before (list_row_of ((s.lists l).seats i).place)
phase_doing s i (doing.AtGroup g row) = At (group_row_name row)
phase_doing s i (doing.Left skips) = Ended
phase_doing s i (doing.Failed misuse) = Failed misuse

abbrev pub phase_in : Core → ℕ → Phase
phase_in s i = phase_doing s i (s.standing i)
