use Rattle.std.proofs.Common.{◌≡◌}
use Rattle.std.specs.List.{All}
use Rattle.running_tests.proofs.tables.close_tests.act_all.Given as goal

abbrev pub invariant-loop-act : goal.invariant-loop-act
invariant-loop-act g l = All (λ s. s.table ≡ l.fn.table) l.seats.items
