use Rattle.std.specs.Prelude.{codes}
use Rattle.scenario_text.specs.Phrases.{IsChange, IsGroupAdd}
use Rattle.scenario_text.proofs.Parts.{fails, none, no_number, no_rest, with_rest, group_add_of}
use Rattle.scenario_text.proofs.reader.call.read_group_add.Goals as goal

pub returns-in_err-group : goal.returns-in_err-group
returns-in_err-group c = fails (IsGroupAdd c.args.text.now) _ c.from_residual.ensures
    (no_number IsChange (codes "gadd ") c.args.text.now (IsGroupAdd c.args.text.now) (group_add_of c.args.text.now) c.in_err-group.ensures)

pub returns-in_err-size : goal.returns-in_err-size
returns-in_err-size c = fails (IsGroupAdd c.args.text.now) _ c.from_residual-in_err-size.ensures
    (no_rest IsChange (codes "gadd ") c.args.text.now (IsGroupAdd c.args.text.now) (group_add_of c.args.text.now)
    c.in_ok-group.group c.in_ok-group.size.now c.in_ok-group.ensures (λ x p. none (IsChange c.in_ok-group.size.now) x c.in_err-size.ensures p))

pub returns : goal.returns
returns c = with_rest IsChange (codes "gadd ") c.args.text.now (IsGroupAdd c.args.text.now) (group_add_of c.args.text.now)
    c.in_ok-group.group c.in_ok-group.size.now c.in_ok-size.size c.in_ok-group.ensures c.in_ok-size.ensures
