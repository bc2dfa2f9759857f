use Rattle.std.proofs.Common.{rules}
use Rattle.explorer_commands.proofs.once.once_text.Goals as goal

-- the table is the one that was made
pub returns : goal.returns
returns g c = record {
  table = c.in_ok-table.table;
  first = c.in_ok-table.first;
  second = c.in_ok-table.second;
  answers = c.run_once-answers.result;
  made = c.in_ok-table.ensures;
  ran = c.run_once-answers.ensures;
  told = search rules;
}
