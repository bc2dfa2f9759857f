-- Few waits are withdrawn, and few tickets go: so it is at the start, and after each step, by whatever table.
use Rattle.std.proofs.Common.{ℕ, ◌<◌, ◌≤◌, [], Option, length, refl, arith}
use Rattle.std.specs.Prelude.{slice_index_or}
use Rattle.step_table.specs.declared.parts.Parts.{Parts}
use Rattle.step_table.specs.Run.{Run, start}
use Rattle.step_law_alike.specs.declared.variant.Variant.{Variant}
use Rattle.step_core.specs.State.{FewLeave}
use Rattle.step_core.specs.Stepping.{stepped_by}
use Rattle.step_table.proofs.SumsOfSums.{none}
use Rattle.step_core.proofs.Once.{few_started, few_stepped}
use Rattle.step_core.proofs.Going.{gone_in, may_go_in, goes_once}
use Rattle.step_core.proofs.Withdrawing.{withdrawn, may, withdraws_once}

pub few_at_start : (parts : Parts) → FewLeave parts (start parts)
few_at_start parts =
    let zeros = none (length parts.calls) (λ k. 0) (λ k h. refl) in record {
      waits = few_started withdrawn may withdraws_once parts (omega arith);
      tickets = λ l. few_started (gone_in l) (may_go_in l) (goes_once l) parts (omega arith);
    }

pub few_go_on : (table : Option Variant) (parts : Parts) (run : Run) (i : ℕ) → i < length parts.calls
    → run.begun i ≤ length (slice_index_or parts.calls i []) → FewLeave parts run → FewLeave parts (stepped_by table parts run i)
few_go_on table parts run i there begun few = record {
  waits = few_stepped withdrawn may withdraws_once parts run i there begun table few.waits;
  tickets = λ l. few_stepped (gone_in l) (may_go_in l) (goes_once l) parts run i there begun table (few.tickets l);
}
