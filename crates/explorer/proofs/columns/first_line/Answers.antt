use Rattle.std.proofs.Common.{inl}
use Rattle.explorer.proofs.Fitting.{none_before, is_feed, none_in}
use Rattle.explorer.proofs.columns.first_line.Goals as goal

pub returns-in-Some-clause-one : goal.returns-in-Some-clause-one
returns-in-Some-clause-one c = none_before c.args.text.now c.in-Some.end c.in-Some.ensures.at

pub returns-in-Some-clause-ended : goal.returns-in-Some-clause-ended
returns-in-Some-clause-ended c = inl (is_feed c.args.text.now c.in-Some.end c.in-Some.ensures.at)

pub returns-in-None-clause-one : goal.returns-in-None-clause-one
returns-in-None-clause-one c = none_in c.args.text.now c.in-None.ensures.at
