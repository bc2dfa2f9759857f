use Rattle.std.proofs.Common.{◌≤◌, []}
use Rattle.step_table.specs.declared.place.AcquireRow.TheVariants.{A5}
use Rattle.step_table.specs.declared.place.Place.TheVariants.{Acquiring}
use Rattle.sema_table.specs.Changes.{changes, most_changes}
use Rattle.sema_table.specs.Walks.{Walked, HasRecord, moved_to}
use Rattle.sema_table.proofs.sema_table.SemaTable.look_again.Given as goal

abbrev pub invariant-loop : goal.invariant-loop
invariant-loop l = record {
  walked : Walked l.initial.token (Acquiring l.fn.call A5) l.token (moved_to l.initial.token (Acquiring l.fn.call A5)) [] 0;
  kept : HasRecord l.token l.fn.call.counter;
  turns : l.counter ≤ changes l.fn.call.counter l.token.me.0.own.knows.seen;
  few : l.counter ≤ most_changes;
}
