use Rattle.std.proofs.Common.{◌≤◌}
use Rattle.sema_table.specs.Changes.{changes, most_changes}
use Rattle.sema_table.specs.Whole.{TriesOn}
use Rattle.sema_table.proofs.sema_table.SemaTable.take_at_once.Given as goal

abbrev pub invariant-loop : goal.invariant-loop
invariant-loop l = record {
  tried : TriesOn l.initial.seat l.fn.counter l.seat;
  turns : l.counter ≤ changes l.fn.counter l.seat.sight.seen;
  few : l.counter ≤ most_changes;
}
