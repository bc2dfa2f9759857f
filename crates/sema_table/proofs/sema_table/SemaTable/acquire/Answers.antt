use Rattle.std.proofs.Common.{refl, inl, inr}
use Rattle.sema_table.proofs.Acquiring.{tries_taken, tries_none, tries_lost, acquired_after}
use Rattle.sema_table.proofs.CallerAcquires.{acquires}
use Rattle.sema_table.proofs.sema_table.SemaTable.acquire.Goals as goal

pub returns-in-Taken-clause-rows : goal.returns-in-Taken-clause-rows
returns-in-Taken-clause-rows g c = inl (tries_taken c.args.seat c.args.seat c.try_acquire.new.seat c.args.counter (inl refl) c.in-Taken.ensures.rows)

pub returns-in-Taken-clause-caller : goal.returns-in-Taken-clause-caller
returns-in-Taken-clause-caller g c = acquires c.args.seat c.try_acquire.new.seat c.args.counter c.args.lifo (returns-in-Taken-clause-rows g c)

pub returns-in-Zero-clause-rows : goal.returns-in-Zero-clause-rows
returns-in-Zero-clause-rows g c =
    inr (
      c.try_acquire.new.seat,
      tries_none c.args.seat c.args.seat c.try_acquire.new.seat c.args.counter (inl refl) c.in-Zero.ensures.rows,
      c.acquire_slowly.ensures,
    )

pub returns-in-Zero-clause-caller : goal.returns-in-Zero-clause-caller
returns-in-Zero-clause-caller g c = acquires c.args.seat c.acquire_slowly.result c.args.counter c.args.lifo (returns-in-Zero-clause-rows g c)

pub returns-in-Lost-clause-rows : goal.returns-in-Lost-clause-rows
returns-in-Lost-clause-rows g c = acquired_after c.args.seat c.try_acquire.new.seat c.acquire_lost.result c.args.counter c.args.lifo
    (tries_lost c.args.seat c.args.seat c.try_acquire.new.seat c.args.counter (inl refl) c.in-Lost.ensures.rows) c.acquire_lost.ensures

pub returns-in-Lost-clause-caller : goal.returns-in-Lost-clause-caller
returns-in-Lost-clause-caller g c = acquires c.args.seat c.acquire_lost.result c.args.counter c.args.lifo (returns-in-Lost-clause-rows g c)
