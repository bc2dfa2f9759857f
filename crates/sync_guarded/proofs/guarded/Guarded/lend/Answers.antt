use Rattle.std.proofs.Common.{rules, refl, ap}
use Rattle.sync_guarded.specs.Seats.{lent_of}
use Rattle.sync_guarded.proofs.guarded.Guarded.lend.Goals as goal

pub returns-clause-lent : goal.returns-clause-lent
returns-clause-lent g c = record {
  was = c.record_mut-value.result.now;
  now = c.body.new.arg2;
  held = ap lent_of c.record_mut-value.ensures.value;
  ran_so = search rules;
  after = refl;
}
