use Rattle.std.proofs.Common.{inl, inr}
use Rattle.sema_table.proofs.Acquiring.{acquired_after}
use Rattle.sema_table.proofs.CallerAcquires.{acquires}
use Rattle.sema_table.proofs.sema_table.SemaTable.acquire_spinning.Goals as goal

pub returns-in-Taken-clause-rows : goal.returns-in-Taken-clause-rows
returns-in-Taken-clause-rows g c = inl c.in-Taken.ensures

pub returns-in-Taken-clause-caller : goal.returns-in-Taken-clause-caller
returns-in-Taken-clause-caller g c = acquires c.args.seat c.try_at_sight.new.seat c.args.counter _ (returns-in-Taken-clause-rows g c)

pub returns-in-Zero-clause-rows : goal.returns-in-Zero-clause-rows
returns-in-Zero-clause-rows g c = inr (c.try_at_sight.new.seat, c.in-Zero.ensures, c.acquire_slowly.ensures)

pub returns-in-Zero-clause-caller : goal.returns-in-Zero-clause-caller
returns-in-Zero-clause-caller g c = acquires c.args.seat c.acquire_slowly.result c.args.counter _ (returns-in-Zero-clause-rows g c)

pub returns-in-Lost-clause-rows : goal.returns-in-Lost-clause-rows
returns-in-Lost-clause-rows g c =
    acquired_after c.args.seat c.try_at_sight.new.seat c.acquire_with_breaks.result c.args.counter _ c.in-Lost.ensures c.acquire_with_breaks.ensures

pub returns-in-Lost-clause-caller : goal.returns-in-Lost-clause-caller
returns-in-Lost-clause-caller g c = acquires c.args.seat c.acquire_with_breaks.result c.args.counter _ (returns-in-Lost-clause-rows g c)
