use Rattle.std.proofs.Common.{◌≡◌, ◌≤◌, []}
use Rattle.step_table.specs.declared.place.ReleaseRow.TheVariants.{R7}
use Rattle.step_table.specs.declared.place.Place.TheVariants.{Releasing}
use Rattle.sema_table.specs.Changes.{changes, most_changes}
use Rattle.sema_table.specs.Walks.{Walked, moved_to}
use Rattle.sema_table.proofs.sema_table.SemaTable.take_unit.Given as goal

abbrev pub invariant-loop : goal.invariant-loop
invariant-loop l = record {
  walked : Walked l.initial.token (Releasing l.fn.call R7) l.token (moved_to l.initial.token (Releasing l.fn.call R7)) [] 0;
  slots : l.token.me.1 ≡ l.initial.token.me.1;
  turns : l.counter ≤ changes l.fn.call.counter l.token.me.0.own.knows.seen;
  few : l.counter ≤ most_changes;
}
