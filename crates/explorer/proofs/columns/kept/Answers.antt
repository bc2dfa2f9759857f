use Rattle.std.proofs.Common.{rules, ◌≤◌, ◌≢◌, [], length, max, IsTrue, ◌≡◌, arith}
use Rattle.explorer.specs.Columns.{may_be_row}
use Rattle.explorer.proofs.Fitting.{cut_short}
use Rattle.explorer.proofs.columns.kept.Goals as goal

pub returns-then-may_be_row : goal.returns-then-may_be_row
returns-then-may_be_row c =
    let within : c.min-at.result ≤ max c.args.most 4 = grind (arith, rules) in
    let short : length c.trimmed.result.now ≤ c.min-at.result = grind (arith, rules) in
    let some : c.args.end.now ≢ [] = search rules in
    let row : IsTrue (may_be_row c.args.line.now) = search rules in
    cut_short c.args.line.now c.args.end.now c.trimmed.result.now c.min-at.result c.args.most c.trimmed.ensures.beginning short within some row
