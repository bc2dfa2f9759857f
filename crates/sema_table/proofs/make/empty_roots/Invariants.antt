use Rattle.std.proofs.Common.{◌≡◌, ◌≤◌, List, length}
use Rattle.sema_table.specs.declared.view.Record.{Record}
use Rattle.sema_table.specs.Making.{new_roots}
use Rattle.sema_table.proofs.make.empty_roots.Given as goal

abbrev pub invariant-loop-root : goal.invariant-loop-root
invariant-loop-root l = record {
  made : ◌≡◌ {A = List Record} l.made.items (new_roots l.seats l.seed l.root);
  count : length l.made.items ≡ l.root;
  upto : l.root ≤ l.roots;
  room : l.roots ≤ l.made.cap;
}
