use Rattle.step_law_lists.proofs.ListPromises.{the_list_law}
use Rattle.step_law_whole.proofs.CoreCalling.{core_at_first, calls_keep}
use Rattle.step_law_whole.proofs.CoreKeeping.{rows_keep}
use Rattle.step_law_whole.proofs.CoreEnding.{list_at_rest, core_lawful, core_ends}
use Rattle.step_law_whole.proofs.RunSound.{is_started, is_stepped}
use Rattle.step_law_whole.proofs.GroupRuns as groups
use Rattle.step_law_whole.proofs.laws.law_of_the_core.Goals as goal

pub returns : goal.returns
returns c = record {
  starts = core_at_first;
  called = calls_keep;
  kept = rows_keep;
  lawful = core_lawful the_list_law.reached;
  ends = core_ends list_at_rest;
  started = λ parts scenario. is_started parts scenario;
  stepped = λ parts run i scenario sound free. is_stepped parts run i scenario sound free;
  unmisused = groups.unmisused
      (λ parts scenario. is_started parts scenario)
      (λ parts run i scenario sound free. is_stepped parts run i scenario sound free);
}
