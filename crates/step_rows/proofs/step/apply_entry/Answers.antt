use Rattle.std.proofs.Common.{subst, sym}
use Rattle.step_table.specs.declared.entry.Entry.{Entry}
use Rattle.step_table.specs.declared.entry.Entry.TheVariants.{Leave}
use Rattle.step_table.specs.declared.effect.Effect.TheVariants.{Tells}
use Rattle.step_table.specs.World.{listed}
use Rattle.step_rows.specs.Stored.{Makes}
use Rattle.step_rows.proofs.Storing.{lists_alone, then_lists, tells_alone}
use Rattle.step_rows.proofs.step.apply_entry.Goals as goal

pub returns-in-Queue : goal.returns-in-Queue
returns-in-Queue c =
    subst (λ (e : Entry). Makes (Tells e) c.args.seat c.args.shared.now c.queue.new.self) (sym c.in-Queue.is)
    (lists_alone c.args.shared.now c.queue.new.self c.args.seat _ c.queue.ensures)

pub returns-in-Leave : goal.returns-in-Leave
returns-in-Leave c =
    subst (λ (e : Entry). Makes (Tells e) c.args.seat c.args.shared.now c.leave.new.self) (sym c.in-Leave.is)
    (then_lists c.args.shared.now c.take.new.self c.leave.new.self _ (listed (Leave c.in-Leave.counter c.in-Leave.wait c.in-Leave.field-2)) c.take.ensures
    (c.leave.ensures c.in-Leave.wait c.in-Leave.field-2))

pub returns-in-Withdraw : goal.returns-in-Withdraw
returns-in-Withdraw c =
    subst (λ (e : Entry). Makes (Tells e) c.args.seat c.args.shared.now c.withdraw.new.self) (sym c.in-Withdraw.is)
    (lists_alone c.args.shared.now c.withdraw.new.self c.args.seat _ c.withdraw.ensures)

pub returns-in_default : goal.returns-in_default
returns-in_default c = tells_alone c.args.shared.now c.args.seat c.args.entry.now c.in_default.not-Queue c.in_default.not-Leave
    c.in_default.not-Withdraw
