use Rattle.step_law_whole.proofs.RunEarly.{lawful_run, run_ends}
use Rattle.step_law_whole.proofs.RunReading.{each_step_grants}
use Rattle.step_law_whole.proofs.laws.law_of_the_runs.Goals as goal

pub returns : goal.returns
returns c = record {
  lawful = λ parts run scenario sound. lawful_run parts scenario run sound;
  ends = λ parts run scenario sound. run_ends parts scenario run sound;
  least = λ parts schedule scenario runs. each_step_grants parts scenario schedule runs;
}
