use Rattle.std.proofs.Common.{ap, ◌∙◌, rules, arith}
use Rattle.sync_parts.specs.Setting.{Setting}
use Rattle.sync_parts.specs.TableMaking.{new_seats}
use Rattle.examples.proofs.bounded_queue.BoundedQueue.new.Goals as goal

pub returns-clause-ok : goal.returns-clause-ok
returns-clause-ok c =
    let made = c.in_ok-table.ensures.ok in let ring = c.in-Ok.ensures in let s = c.in_ok-settings.ensures in
    record {
      places_are = ring.0;
      starts = ap (λ (z : Setting). z.starts) made.setting ∙ s.starts;
      own = c.in_ok-table.ensures.own;
      allowed = (omega (arith, c.if-workers-eq0.false), omega (arith, c.if-workers-gt-MAX_WORKERS.false));
      workers_are = ap (λ (z : Setting). z.seats) made.setting ∙ s.others.0;
      seats_are = made.seats_are ∙ ap (λ n. new_seats c.in_ok-table.table 0 n) s.others.0;
      limit = ap (λ (z : Setting). z.limit) made.setting ∙ s.others.2;
      tally = λ i. record { ring = ring.1.0 i; moves = ring.3 i };
    }

pub returns-then-workers-eq0-clause-err : goal.returns-then-workers-eq0-clause-err
returns-then-workers-eq0-clause-err c = search rules
