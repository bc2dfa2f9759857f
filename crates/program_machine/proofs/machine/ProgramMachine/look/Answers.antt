use Rattle.std.proofs.Common.{ap, sym, subst, arith}
use Rattle.program_machine.specs.Moment.{ProgramMoment}
use Rattle.step_core.specs.State.{WholeMachine, AsksFor}
use Rattle.step_rows.specs.Stored.{each}
use Rattle.step_table.specs.declared.standing.Standing.TheVariants.{Rest}
use Rattle.program_machine.proofs.Seeing.{asks_at}
use Rattle.program_machine.proofs.machine.ProgramMachine.look.Goals as goal

pub look-requires-clause-asks : goal.look-requires-clause-asks
look-requires-clause-asks c =
    subst (λ (h : WholeMachine). AsksFor h c.args.seat (each Rest h.standing c.args.seat)) (sym c.layer.ensures.layer)
    (asks_at c.args.self.now.program c.args.self.now.steps c.args.self.now.shared c.layer.ensures.sound c.args.seat c.requires
    (let is = ap (λ (m : ProgramMoment). m.steps) c.self.view_is in let few = c.if-self-ge-MOST_STEPS.false in omega arith))
