use Rattle.scenario_text.specs.Phrases.{IsKeyed, IsPair}
use Rattle.scenario_text.proofs.Parts.{fails, none, no_number, no_rest, with_rest, pair_of}
use Rattle.scenario_text.proofs.reader.number.pair.Goals as goal

pub returns-in_err-first : goal.returns-in_err-first
returns-in_err-first c = fails (IsPair c.args.keyword.now c.args.between.now c.args.text.now) _ c.from_residual.ensures
    (no_number (IsKeyed 10 c.args.between.now) c.args.keyword.now c.args.text.now (IsPair c.args.keyword.now c.args.between.now c.args.text.now)
    (pair_of c.args.keyword.now c.args.between.now c.args.text.now) c.in_err-first.ensures)

pub returns-in_err-second : goal.returns-in_err-second
returns-in_err-second c = fails (IsPair c.args.keyword.now c.args.between.now c.args.text.now) _ c.from_residual-in_err-second.ensures
    (no_rest (IsKeyed 10 c.args.between.now) c.args.keyword.now c.args.text.now (IsPair c.args.keyword.now c.args.between.now c.args.text.now)
    (pair_of c.args.keyword.now c.args.between.now c.args.text.now) c.in_ok-first.first c.in_ok-first.second.now c.in_ok-first.ensures
    (λ x p. none (IsKeyed 10 c.args.between.now c.in_ok-first.second.now) x c.in_err-second.ensures p))

pub returns : goal.returns
returns c = with_rest (IsKeyed 10 c.args.between.now) c.args.keyword.now c.args.text.now (IsPair c.args.keyword.now c.args.between.now c.args.text.now)
    (pair_of c.args.keyword.now c.args.between.now c.args.text.now) c.in_ok-first.first c.in_ok-first.second.now c.in_ok-second.second
    c.in_ok-first.ensures c.in_ok-second.ensures
