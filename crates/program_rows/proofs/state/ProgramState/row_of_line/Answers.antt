use Rattle.std.proofs.Common.{◌≡◌, None, sym, subst}
use Rattle.program_code.specs.declared.instruction.Instruction.TheVariants as line
use Rattle.program_rows.specs.Rows.{Does, DoesIfItCan, row_at}
use Rattle.program_rows.specs.Stored.{world_over}
use Rattle.program_rows.proofs.state.ProgramState.row_of_line.Goals as goal

pub returns-in-Load-clause-row : goal.returns-in-Load-clause-row
returns-in-Load-clause-row c =
    subst (λ l. Does (row_at c.args.seat c.args.line l) c.args.self.now c.load.new.self c.load.result) (sym c.in-Load.is) (c.load.ensures c.args.line)

pub returns-in-Store-clause-row : goal.returns-in-Store-clause-row
returns-in-Store-clause-row c =
    subst (λ l. Does (row_at c.args.seat c.args.line l) c.args.self.now c.store.new.self c.store.result) (sym c.in-Store.is) (c.store.ensures c.args.line)

pub returns-in-Swap-clause-row : goal.returns-in-Swap-clause-row
returns-in-Swap-clause-row c =
    subst (λ l. Does (row_at c.args.seat c.args.line l) c.args.self.now c.swap.new.self c.swap.result) (sym c.in-Swap.is) (c.swap.ensures c.args.line)

pub returns-in-Add-clause-row : goal.returns-in-Add-clause-row
returns-in-Add-clause-row c =
    subst (λ l. Does (row_at c.args.seat c.args.line l) c.args.self.now c.add.new.self c.add.result) (sym c.in-Add.is) (c.add.ensures c.args.line)

pub returns-in-Exchange-clause-row : goal.returns-in-Exchange-clause-row
returns-in-Exchange-clause-row c =
    subst (λ l. Does (row_at c.args.seat c.args.line l) c.args.self.now c.exchange.new.self c.exchange.result)
    (sym c.in-Exchange.is) (c.exchange.ensures c.args.line)

pub returns-in-Unpark-clause-row : goal.returns-in-Unpark-clause-row
returns-in-Unpark-clause-row c =
    subst (λ l. Does (row_at c.args.seat c.args.line l) c.args.self.now c.unpark.new.self c.unpark.result) (sym c.in-Unpark.is) (c.unpark.ensures c.args.line)

pub returns-in-Out-clause-row : goal.returns-in-Out-clause-row
returns-in-Out-clause-row c =
    subst (λ l. Does (row_at c.args.seat c.args.line l) c.args.self.now c.leave.new.self c.leave.result) (sym c.in-Out.is) (c.leave.ensures c.args.line)

-- what came of a wait for a word
pub returns-in-Some-clause-row : goal.returns-in-Some-clause-row
returns-in-Some-clause-row c =
    subst (λ l. Does (row_at c.args.seat c.args.line l) c.args.self.now c.await_word.new.self c.in-Some.then) (sym c.in-Await.is)
    (subst (λ then. DoesIfItCan (row_at c.args.seat c.args.line (line.Await c.in-Await.place c.in-Await.relation c.in-Await.operand c.in-Await.register))
    c.args.self.now c.await_word.new.self then) c.in-Some.is
    (c.await_word.ensures c.args.line))

pub returns-in-None-clause-err : goal.returns-in-None-clause-err
returns-in-None-clause-err c =
    (subst (λ then. DoesIfItCan (row_at c.args.seat c.args.line (line.Await c.in-Await.place c.in-Await.relation c.in-Await.operand c.in-Await.register))
    c.args.self.now c.await_word.new.self then) c.in-None.is
    (c.await_word.ensures c.args.line)).same

pub returns-in-None-clause-why : goal.returns-in-None-clause-why
returns-in-None-clause-why c =
    λ other layer. subst (λ l. row_at c.args.seat c.args.line l (world_over layer c.args.self.now) ≡ None) (sym c.in-Await.is)
    ((subst (λ then. DoesIfItCan (row_at c.args.seat c.args.line (line.Await c.in-Await.place c.in-Await.relation c.in-Await.operand c.in-Await.register))
    c.args.self.now c.await_word.new.self then) c.in-None.is
    (c.await_word.ensures c.args.line)).none layer)
